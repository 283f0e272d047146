use Rattle.fz_why.proofs.Judged.{ring_stays}
use Rattle.fz_why.proofs.law.rings.Goals as goal

pub returns : goal.returns
returns c = ring_stays
