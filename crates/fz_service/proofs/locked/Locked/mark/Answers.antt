use Rattle.std.proofs.Common.{refl}
use Rattle.fz_service.proofs.Keeps.{stepped}
use Rattle.fz_service.proofs.locked.Locked.mark.Goals as goal

pub invariant_of-self : goal.invariant_of-self
invariant_of-self g c = (stepped _ _ _ _ _ _ _ _ _ refl c.mark.ensures.step c.self.invariant.0, c.self.invariant.1)
