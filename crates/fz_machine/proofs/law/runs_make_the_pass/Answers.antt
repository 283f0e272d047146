use Rattle.fz_machine.proofs.Ran.{runs_pass}
use Rattle.fz_machine.proofs.law.runs_make_the_pass.Goals as goal

pub returns-clause-exact : goal.returns-clause-exact
returns-clause-exact c = runs_pass (Unit {0})

pub returns-clause-more : goal.returns-clause-more
returns-clause-more c = runs_pass ⊥
