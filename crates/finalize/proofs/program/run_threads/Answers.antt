use Rattle.std.proofs.Common.{ap}
use Rattle.fz_runs.specs.declared.arguments.Program.TheVariants.{Threads}
use Rattle.finalize.proofs.Running.{completed, stopped}
use Rattle.finalize.proofs.program.run_threads.Goals as goal

pub returns : goal.returns
returns g c = completed Threads _ (record { remaining = g.I.Read.remaining c.new-reader.result.inner; failures = c.new-reader.result.failures }) _ _ _ (ap (λ (s : _). g.I.Read.remaining s.inner) c.new-reader.ensures) (_, c.in_default.ensures)

pub returns-in-Err : goal.returns-in-Err
returns-in-Err g c = stopped Threads _ (record { remaining = g.I.Read.remaining c.new-reader.result.inner; failures = c.new-reader.result.failures }) _ _ _ _ _ c.in-Err.fault (ap (λ (s : _). g.I.Read.remaining s.inner) c.new-reader.ensures) c.explain.ensures.status (_, c.in-Err.ensures) c.explain.ensures.line
