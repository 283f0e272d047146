use Rattle.fz_machine.proofs.Fewer.{passes_end}
use Rattle.fz_machine.proofs.law.passes_end.Goals as goal

pub returns : goal.returns
returns c = passes_end
