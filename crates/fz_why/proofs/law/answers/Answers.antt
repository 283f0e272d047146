use Rattle.fz_why.proofs.Judged.{finds_reached, is_apart, is_judged}
use Rattle.fz_why.proofs.law.answers.Goals as goal

pub returns-clause-apart : goal.returns-clause-apart
returns-clause-apart c = is_apart

pub returns-clause-passes : goal.returns-clause-passes
returns-clause-passes c = λ place value objects roots s found o comp. is_judged place value objects roots s o found comp

pub returns-clause-finds : goal.returns-clause-finds
returns-clause-finds c = finds_reached
