use Rattle.std.proofs.Common.{◌<◌, ap, subst, sym}
use Rattle.weak_cache.specs.Cached.{CacheView}
use Rattle.weak_cache.proofs.Passing.{pass_whole, pass_kept}
use Rattle.weak_cache.proofs.cache.Cache.collect.Goals as goal

pub invariant_of-self : goal.invariant_of-self
invariant_of-self c =
    let laws = c.every_call.ensures in
    pass_whole laws.apart laws.within laws.passes _ _ _ _ c.collect.ensures.step c.self.invariant

pub returns-clause-kept : goal.returns-clause-kept
returns-clause-kept c =
    let laws = c.every_call.ensures in
    (pass_kept laws.apart laws.within laws.passes _ _ _ _ _ c.self.view_is c.collect.ensures.step c.self.invariant).kept

pub returns-clause-reachable : goal.returns-clause-reachable
returns-clause-reachable c key a few =
    let laws = c.every_call.ensures in
    let within = subst (λ n. key < n) (sym (ap (λ (v : CacheView). v.keys) c.self.view_is)) few in
    (pass_kept laws.apart laws.within laws.passes _ _ _ _ _ c.self.view_is c.collect.ensures.step c.self.invariant).reachable key a within
