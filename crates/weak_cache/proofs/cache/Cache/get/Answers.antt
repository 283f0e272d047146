use Rattle.std.proofs.Common.{refl}
use Rattle.weak_cache.proofs.Keeping.{quiet_now}
use Rattle.weak_cache.proofs.Getting.{got}
use Rattle.weak_cache.proofs.cache.Cache.get.Goals as goal

pub returns-in_err-word-clause-same : goal.returns-in_err-word-clause-same
returns-in_err-word-clause-same c = quiet_now _ _ _ _ _ _ c.load.ensures.step refl c.self.view_is c.self.invariant

pub returns-then-word-eq0-clause-same : goal.returns-then-word-eq0-clause-same
returns-then-word-eq0-clause-same c = quiet_now _ _ _ _ _ _ c.load.ensures.step refl c.self.view_is c.self.invariant

pub returns-clause-same : goal.returns-clause-same
returns-clause-same c = quiet_now _ _ _ _ _ _ c.load.ensures.step refl c.self.view_is c.self.invariant

pub returns-then-word-eq0-clause-found : goal.returns-then-word-eq0-clause-found
returns-then-word-eq0-clause-found c few =
    let laws = c.every_call.ensures in
    (got laws.apart laws.within laws.short_links_stand _ _ _ _ _ _ c.self.view_is few c.in_ok-word.ensures.step c.self.invariant).none c.if-word-eq0.true

pub returns-clause-found : goal.returns-clause-found
returns-clause-found c few =
    let laws = c.every_call.ensures in
    (got laws.apart laws.within laws.short_links_stand _ _ _ _ _ _ c.self.view_is few c.in_ok-word.ensures.step c.self.invariant).some c.if-word-eq0.false

pub returns-clause-stands : goal.returns-clause-stands
returns-clause-stands c few =
    let laws = c.every_call.ensures in
    (got laws.apart laws.within laws.short_links_stand _ _ _ _ _ _ c.self.view_is few c.in_ok-word.ensures.step c.self.invariant).stands c.if-word-eq0.false
