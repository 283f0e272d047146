use Rattle.fz_pass.proofs.Safe.{safe}
use Rattle.fz_pass.proofs.law.passes_are_safe.Goals as goal

pub returns : goal.returns
returns c = safe
