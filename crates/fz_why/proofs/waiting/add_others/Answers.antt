use Rattle.std.proofs.Common.{◌≡◌, ◌++◌, ◌∷◌, [], ◌∙◌, ℕ, Bool, List, Some, Contains, refl, sym, ap, subst}
use Rattle.std.specs.FinMap.{get}
use Rattle.fz_model.specs.State.{Map}
use Rattle.fz_model.proofs.KeyedEntries.{got}
use Rattle.fz_why.proofs.Whole.{is_next}
use Rattle.fz_model.specs.declared.answers.Registration.{Registration}
use Rattle.fz_pass.proofs.Walking.{one_on, all_of}
use Rattle.fz_why.specs.Trail.{is_cut, Adds, IsByUnfound}
use Rattle.fz_why.proofs.Adding.{adds_nothing, adds_on, adds_as}
use Rattle.fz_why.proofs.Looping.{ByAny, ByFirst, any_none, any_more, others_all}
use Rattle.fz_why.proofs.waiting.add_others.Goals as goal

pub loop-from-init : goal.loop-from-init
loop-from-init g c =
    let R = ByFirst (g.H.Paths.link c.args.host.now) (g.H.Paths.objects c.args.host.now) c.args.finalizers.now.state c.args.found.now (g.H.Paths.pointers c.args.host.now) c.args.late c.args.object in
    record { added = adds_nothing (ByAny [] R) _ (any_none R); rest = refl }

pub is_early-early-requires : goal.is_early-early-requires
is_early-early-requires g c =
    let e : ℕ × Registration = (c.in-Some.from, c.in-Some.registration) in
    let es = c.iter-from-items.result in
    let on = one_on c.loop-from.yielded c.loop-from.from-iterator _ c.next.new.self e c.loop-from.invariant.rest c.in-Some.ensures.steps in
    let within : Contains es e = is_next c.loop-from.yielded e c.next.new.self es (on ∙ c.into_iter-from-iterator.ensures.into_iter_gives) in
    let are = c.iter-from-items.ensures.all in
    (e.1, ap (λ (m : Map Registration). get m e.0) (sym are.0) ∙ got es e.0 e.1 are.1 within)

pub loop-from-preserved : goal.loop-from-preserved
loop-from-preserved g c =
    let objects = g.H.Paths.objects c.args.host.now in
    let s = c.args.finalizers.now.state in
    let fs = c.args.found.now in
    let pointers = g.H.Paths.pointers c.args.host.now in
    let R = ByFirst (g.H.Paths.link c.args.host.now) objects s fs pointers c.args.late c.args.object in
    let inv = c.loop-from.invariant in
    let e : ℕ × Registration = (c.in-Some.from, c.in-Some.registration) in
    let cut = is_cut (g.H.Paths.link c.args.host.now) s (Some fs) in
    let one = subst (λ (early : Bool). Adds (IsByUnfound objects cut (pointers e.0) fs c.args.object e.0 early e.1.kind) c.loop-from.trail c.add_other.new.trail) c.is_early-early.ensures c.in_ok-add_other.ensures.added in
    record {
      added = adds_on (ByAny (c.loop-from.yielded ++ e ∷ []) R) inv.added one (any_more R c.loop-from.yielded e);
      rest = one_on c.loop-from.yielded c.loop-from.from-iterator _ c.next.new.self e inv.rest c.in-Some.ensures.steps;
    }

pub returns : goal.returns
returns g c = record {
  added =
      let objects = g.H.Paths.objects c.args.host.now in
      let s = c.args.finalizers.now.state in
      let fs = c.args.found.now in
      let pointers = g.H.Paths.pointers c.args.host.now in
      let es = c.iter-from-items.result in
      let all : c.loop-from.yielded ≡ es = all_of c.loop-from.yielded _ es (c.loop-from.invariant.rest ∙ c.into_iter-from-iterator.ensures.into_iter_gives) c.in-None.ensures.steps.0 in
      adds_as _ (subst (λ (ys : List (ℕ × Registration)). Adds (ByAny ys (ByFirst (g.H.Paths.link c.args.host.now) objects s fs pointers c.args.late c.args.object)) c.args.trail.now c.loop-from.trail) all c.loop-from.invariant.added)
      (others_all (g.H.Paths.link c.args.host.now) objects s fs pointers c.args.late c.args.object es c.iter-from-items.ensures.all);
}
