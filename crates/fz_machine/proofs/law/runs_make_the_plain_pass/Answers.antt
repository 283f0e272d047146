use Rattle.fz_machine.proofs.Ran.{runs_plain_pass}
use Rattle.fz_machine.proofs.law.runs_make_the_plain_pass.Goals as goal

pub returns-clause-plain : goal.returns-clause-plain
returns-clause-plain c = runs_plain_pass (Unit {0})

pub returns-clause-plain_of_more : goal.returns-clause-plain_of_more
returns-clause-plain_of_more c = runs_plain_pass ⊥
