use Rattle.fz_pass.proofs.Unflagged.{late_decide, late_passes}
use Rattle.fz_pass.proofs.law.late_decisions_decide.Goals as goal

pub returns-clause-decides : goal.returns-clause-decides
returns-clause-decides c = late_decide (Unit {0})

pub returns-clause-passes : goal.returns-clause-passes
returns-clause-passes c = late_passes
