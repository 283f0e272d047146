use Rattle.fz_machine.proofs.Batches.{asks_batches}
use Rattle.fz_machine.proofs.law.questions_are_about_64_items.Goals as goal

pub returns-clause-batched : goal.returns-clause-batched
returns-clause-batched c = asks_batches (Unit {0})

pub returns-clause-batched_of_more : goal.returns-clause-batched_of_more
returns-clause-batched_of_more c = asks_batches ⊥
