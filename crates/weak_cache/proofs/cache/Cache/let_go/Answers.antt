use Rattle.std.proofs.Common.{refl}
use Rattle.weak_cache.proofs.Keeping.{quiet_now}
use Rattle.weak_cache.proofs.cache.Cache.let_go.Goals as goal

pub returns-clause-same : goal.returns-clause-same
returns-clause-same c = quiet_now _ _ _ _ _ _ c.set.ensures.step refl c.self.view_is c.self.invariant
