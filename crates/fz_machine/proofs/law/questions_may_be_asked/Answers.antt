use Rattle.fz_machine.proofs.Askable.{asks_rightly}
use Rattle.fz_machine.proofs.law.questions_may_be_asked.Goals as goal

pub returns-clause-asked : goal.returns-clause-asked
returns-clause-asked c = asks_rightly (Unit {0})

pub returns-clause-asked_of_more : goal.returns-clause-asked_of_more
returns-clause-asked_of_more c = asks_rightly ⊥
