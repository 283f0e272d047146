use Rattle.std.proofs.Common.{◌≡◌, None, OnOk, subst}
use Rattle.fz_model.specs.declared.kinds.LinkKind.TheVariants.{Short}
use Rattle.fz_model.specs.Causes.{first_cause}
use Rattle.fz_model.specs.declared.call.Call.TheVariants.{Link, Store}
use Rattle.fz_model.specs.Places.{slot_at, place_at}
use Rattle.fz_model.specs.Events.{Make, causes}
use Rattle.weak_cache.specs.declared.cache.TheConstants.{LIST, HAND}
use Rattle.weak_cache.specs.Cached.{CacheView, Puts}
use Rattle.weak_cache.proofs.Refusing.{judged_as_linked, never_refused}
use Rattle.weak_cache.proofs.Putting.{puts, store_stands, now_cached, others_same, on_ok, is_put}
use Rattle.weak_cache.proofs.cache.Cache.put.Goals as goal

pub invariant_of-self-2 : goal.invariant_of-self-2
invariant_of-self-2 c = (puts _ _ _ _ _ _ _ c.in_ok-link.ensures.step c.store.ensures.step c.self.invariant).whole

pub returns-clause-put : goal.returns-clause-put
returns-clause-put c =
    subst (λ (v : CacheView). OnOk c.store.result (Puts v.world c.args.key c.store.new.self)) c.self.view_is
    (is_put _ _ _ _ _ c.store.result c.in_ok-link.ensures.step c.store.ensures.step)

pub returns-clause-cached : goal.returns-clause-cached
returns-clause-cached c =
    on_ok c.store.result (now_cached _ _ _ _ _ c.self.view_is (puts _ _ _ _ _ _ _ c.in_ok-link.ensures.step c.store.ensures.step c.self.invariant))

pub returns-clause-others : goal.returns-clause-others
returns-clause-others c =
    others_same _ _ _ _ _ c.self.view_is (puts _ _ _ _ _ _ _ c.in_ok-link.ensures.step c.store.ensures.step c.self.invariant)

pub returns-clause-judged : goal.returns-clause-judged
returns-clause-judged c =
    let key = c.args.key in
    judged_as_linked (causes c.args.self.now.world.core (Make (Link Short (place_at 0 LIST key) (slot_at 0 HAND)))) (causes c.link.new.self.core (Make (Store (place_at 0 LIST key) (slot_at 0 HAND)))) c.store.result
    (subst (λ (v : CacheView). first_cause (causes v.world.core (Make (Link Short (place_at 0 LIST key) (slot_at 0 HAND)))) ≡ None) c.self.view_is c.in_ok-link.ensures.caused)
    (store_stands _ _ _ _ _ c.in_ok-link.ensures.step c.self.invariant) c.store.ensures.caused

pub returns-clause-refused : goal.returns-clause-refused
returns-clause-refused c =
    never_refused _ (causes c.link.new.self.core (Make (Store (place_at 0 LIST c.args.key) (slot_at 0 HAND)))) c.store.result
    (store_stands _ _ _ _ _ c.in_ok-link.ensures.step c.self.invariant) c.store.ensures.caused
