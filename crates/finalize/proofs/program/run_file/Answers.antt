use Rattle.std.proofs.Common.{refl, inl, inr}
use Rattle.finalize.proofs.Running.{ran_on_file}
use Rattle.finalize.proofs.program.run_file.Goals as goal

pub returns-in_default : goal.returns-in_default
returns-in_default g c = inl (c.say.ensures.status, (refl, c.say.ensures.line))

pub returns-in-Run : goal.returns-in-Run
returns-in-Run g c = inr (ran_on_file _ _ c.args.program _ _ _ _ _ _ c.in-Run.is c.in-Some.ensures c.run_script.ensures)

pub returns-in-Threads : goal.returns-in-Threads
returns-in-Threads g c = inr (ran_on_file _ _ c.args.program _ _ _ _ _ _ c.in-Threads.is c.in-Some.ensures c.run_threads.ensures)
