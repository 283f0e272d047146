use Rattle.fz_pass.proofs.SafeWhole.{safe_whole}
use Rattle.fz_pass.proofs.law.whole_passes_are_safe.Goals as goal

pub returns : goal.returns
returns c = safe_whole
