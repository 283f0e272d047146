use Rattle.fz_machine.proofs.Askable.{asks_young_rightly}
use Rattle.fz_machine.proofs.Ran.{runs_young_pass, runs_young_plain_pass}
use Rattle.fz_machine.proofs.law.young_passes_are_passes.Goals as goal

pub returns-clause-young : goal.returns-clause-young
returns-clause-young c = runs_young_pass (Unit {0})

pub returns-clause-young_of_more : goal.returns-clause-young_of_more
returns-clause-young_of_more c = runs_young_pass ⊥

pub returns-clause-plain_young : goal.returns-clause-plain_young
returns-clause-plain_young c = runs_young_plain_pass (Unit {0})

pub returns-clause-plain_young_of_more : goal.returns-clause-plain_young_of_more
returns-clause-plain_young_of_more c = runs_young_plain_pass ⊥

pub returns-clause-asked_young : goal.returns-clause-asked_young
returns-clause-asked_young c = asks_young_rightly (Unit {0})

pub returns-clause-asked_young_of_more : goal.returns-clause-asked_young_of_more
returns-clause-asked_young_of_more c = asks_young_rightly ⊥
