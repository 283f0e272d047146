use Rattle.fz_machine.proofs.Spent.{region_questions_end}
use Rattle.fz_machine.proofs.law.region_questions_end.Goals as goal

pub returns : goal.returns
returns c = region_questions_end
