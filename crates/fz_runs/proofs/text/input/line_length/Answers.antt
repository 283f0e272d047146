use Rattle.fz_runs.proofs.Reading.{feed_at}
use Rattle.fz_runs.proofs.text.input.line_length.Goals as goal

pub returns-in-Some-clause-before : goal.returns-in-Some-clause-before
returns-in-Some-clause-before c = (feed_at _ _ c.in-Some.ensures).1
