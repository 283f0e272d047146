use Rattle.std.proofs.Common.{rules, refl}
use Rattle.fz_script.proofs.job.Keyword.fields.Goals as goal

pub returns-in_err-read-in-Settle : goal.returns-in_err-read-in-Settle
returns-in_err-read-in-Settle c = rw c.in-Settle.is (search rules)

pub returns-in_ok-read-in-Settle : goal.returns-in_ok-read-in-Settle
returns-in_ok-read-in-Settle c = rw c.in-Settle.is (search rules)

pub returns-in-Mutator : goal.returns-in-Mutator
returns-in-Mutator c = rw c.in-Mutator.is refl

pub returns-in-Collector : goal.returns-in-Collector
returns-in-Collector c = rw c.in-Collector.is refl

pub returns-in-Churn : goal.returns-in-Churn
returns-in-Churn c = rw c.in-Churn.is c.read_churn.ensures
