use Rattle.std.proofs.Common.{◌≡◌, ◌++◌, ◌∷◌, [], ◌∙◌, ℕ, List, refl, subst}
use Rattle.fz_model.specs.declared.answers.Registration.{Registration}
use Rattle.fz_pass.proofs.Walking.{one_on, all_of}
use Rattle.fz_why.specs.Trail.{has, Adds}
use Rattle.fz_why.proofs.Adding.{adds_nothing, adds_on, adds_as}
use Rattle.fz_why.proofs.Looping.{ByAny, any_none, any_more}
use Rattle.fz_why.proofs.Circles.{ByCircle, circles_all}
use Rattle.fz_why.proofs.stuck_objects.add_rings.Goals as goal

pub loop-each-init : goal.loop-each-init
loop-each-init g c =
    let R = ByCircle (g.H.Paths.place c.args.host.now) (g.H.Paths.value c.args.host.now) (g.H.Paths.objects c.args.host.now) c.args.finalizers.now.state (has c.args.found.now) in
    record { added = adds_nothing (ByAny [] R) _ (any_none R); rest = refl }

pub loop-each-preserved : goal.loop-each-preserved
loop-each-preserved g c =
    let R = ByCircle (g.H.Paths.place c.args.host.now) (g.H.Paths.value c.args.host.now) (g.H.Paths.objects c.args.host.now) c.args.finalizers.now.state (has c.args.found.now) in
    let inv = c.loop-each.invariant in
    record {
      added = adds_on (ByAny (c.loop-each.yielded ++ c.in-Some.each ∷ []) R) inv.added c.in_ok-add_ring.ensures.added (any_more R c.loop-each.yielded c.in-Some.each);
      rest = one_on c.loop-each.yielded c.loop-each.each-iterator _ c.next.new.self c.in-Some.each inv.rest c.in-Some.ensures.steps;
    }

pub returns : goal.returns
returns g c = record {
  added =
      let place = g.H.Paths.place c.args.host.now in
      let value = g.H.Paths.value c.args.host.now in
      let objects = g.H.Paths.objects c.args.host.now in
      let s = c.args.finalizers.now.state in
      let found = has c.args.found.now in
      let es = c.iter-each-items.result in
      let all : c.loop-each.yielded ≡ es = all_of c.loop-each.yielded _ es (c.loop-each.invariant.rest ∙ c.into_iter-each-iterator.ensures.into_iter_gives) c.in-None.ensures.steps.0 in
      adds_as _ (subst (λ (ys : List (ℕ × Registration)). Adds (ByAny ys (ByCircle place value objects s found)) c.args.trail.now c.loop-each.trail) all c.loop-each.invariant.added)
      (circles_all place value objects s found es c.iter-each-items.ensures.all);
}
