use Rattle.fz_machine.proofs.Called.{passes_are_calls}
use Rattle.fz_machine.proofs.law.passes_are_calls.Goals as goal

pub returns : goal.returns
returns c = passes_are_calls
