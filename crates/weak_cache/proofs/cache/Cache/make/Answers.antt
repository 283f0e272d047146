use Rattle.std.proofs.Common.{refl, subst, inr}
use Rattle.weak_cache.specs.Cached.{CacheView, Makes, MakesNone}
use Rattle.weak_cache.proofs.Keeping.{quiet_now, quiet_same, quiet_whole}
use Rattle.weak_cache.proofs.Refusing.{handed_on}
use Rattle.weak_cache.proofs.cache.Cache.make.Goals as goal

pub returns-in_err-alloc-clause-same : goal.returns-in_err-alloc-clause-same
returns-in_err-alloc-clause-same c = quiet_now _ _ _ _ _ _ c.alloc.ensures.step refl c.self.view_is c.self.invariant

pub returns-in_err-register-clause-same : goal.returns-in_err-register-clause-same
returns-in_err-register-clause-same c =
    quiet_same c.self.inside.keys _ _ _ _ _ c.register.ensures.step refl (quiet_whole _ _ _ _ _ c.alloc.ensures.step refl c.self.invariant) (quiet_now _ _ _ _ _ _ c.alloc.ensures.step refl c.self.view_is c.self.invariant)

pub returns-clause-same : goal.returns-clause-same
returns-clause-same c =
    quiet_same c.self.inside.keys _ _ _ _ _ c.register.ensures.step refl (quiet_whole _ _ _ _ _ c.alloc.ensures.step refl c.self.invariant) (quiet_now _ _ _ _ _ _ c.alloc.ensures.step refl c.self.view_is c.self.invariant)

pub returns-clause-made : goal.returns-clause-made
returns-clause-made c = subst (λ (v : CacheView). Makes v.world c.args.client_data c.register.new.self) c.self.view_is (_, _, _, c.in_ok-alloc.ensures.step, c.in_ok-register.ensures.step)

pub returns-in_err-register-clause-refused : goal.returns-in_err-register-clause-refused
returns-in_err-register-clause-refused c =
    handed_on c.from_residual-in_err-register.result _ (MakesNone c.args.self.now.world c.args.client_data c.register.new.self) c.from_residual-in_err-register.ensures.1
    (subst (λ (v : CacheView). MakesNone v.world c.args.client_data c.register.new.self c.in_err-register.field-0.0) c.self.view_is (inr (_, _, c.in_ok-alloc.ensures.step, c.in_err-register.ensures.step)))
