use Rattle.fz_machine.proofs.Unasked.{costs_unmarked}
use Rattle.fz_machine.proofs.law.marked_items_cost_no_answers.Goals as goal

pub returns-clause-unmarked : goal.returns-clause-unmarked
returns-clause-unmarked c = costs_unmarked (Unit {0})

pub returns-clause-unmarked_of_more : goal.returns-clause-unmarked_of_more
returns-clause-unmarked_of_more c = costs_unmarked ⊥
