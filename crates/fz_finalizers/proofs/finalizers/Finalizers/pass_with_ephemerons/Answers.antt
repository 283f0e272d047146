use Rattle.std.proofs.Common.{◌∙◌, sym, ap, subst, IsTrue}
use Rattle.std.specs.FinMap.{get, contains_key}
use Rattle.fz_model.specs.State.{Map, Object}
use Rattle.fz_finalizers.specs.States.{View}
use Rattle.fz_finalizers.proofs.finalizers.Finalizers.pass_with_ephemerons.Goals as goal

pub pass_found-requires-clause-registered : goal.pass_found-requires-clause-registered
pass_found-requires-clause-registered g c a r here =
    subst (λ (m : Map Object). IsTrue (contains_key m a)) (sym c.settle.ensures.objects) (c.requires.registered a r (ap (λ (v : View). get v.registrations a) (sym c.self.view_is) ∙ here))
