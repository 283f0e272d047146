use Rattle.std.specs.Option.{option_copied}
use Rattle.std.proofs.Common.{◌≡◌, ℕ, arith}
use Rattle.std.proofs.lemmas.Option.{none-some, slice_get_within}
use Rattle.fz_why.specs.declared.origin.Origin.{Origin}
use Rattle.fz_why.specs.declared.origin.Origin.TheVariants.{After}
use Rattle.fz_why.specs.Trail.{either, is_cut, IsRowBy, IsStepBy}
use Rattle.fz_why.proofs.Adding.{adds_as}
use Rattle.fz_why.proofs.Spreading.{spreads_begin, spreads_gain, spreads_more, spreads_done}
use Rattle.fz_why.proofs.searching.spread.Goals as goal

pub loop-place-init : goal.loop-place-init
loop-place-init g c =
    let cut = is_cut (g.H.Paths.link c.args.host.now) c.args.finalizers.now.state (option_copied c.args.found) in
    let Row = IsRowBy (g.H.Paths.place c.args.host.now) (g.H.Paths.value c.args.host.now) (g.H.Paths.link c.args.host.now) (g.H.Paths.objects c.args.host.now) c.args.finalizers.now.state (option_copied c.args.found) in
    (spreads_begin (λ a b. IsStepBy (g.H.Paths.objects c.args.host.now) cut (g.H.Paths.pointers c.args.host.now a) b) Row (either (option_copied c.args.found) (option_copied c.args.own)) c.args.trail.now, omega arith, omega arith)

pub look-requires : goal.look-requires
look-requires g c = c.loop-place.invariant.2

pub loop-place-preserved : goal.loop-place-preserved
loop-place-preserved g c =
    let cut = is_cut (g.H.Paths.link c.args.host.now) c.args.finalizers.now.state (option_copied c.args.found) in
    let Row = IsRowBy (g.H.Paths.place c.args.host.now) (g.H.Paths.value c.args.host.now) (g.H.Paths.link c.args.host.now) (g.H.Paths.objects c.args.host.now) c.args.finalizers.now.state (option_copied c.args.found) in
    let behind = either (option_copied c.args.found) (option_copied c.args.own) in
    let Step = λ (a b : ℕ). IsStepBy (g.H.Paths.objects c.args.host.now) cut (g.H.Paths.pointers c.args.host.now a) b in
    let looked = rw c.in-Some.is at c.in_ok-next.ensures.looked in
    let object = c.in-Some.object in
    let steps = adds_as (λ (o : Origin) b. (o ≡ After c.loop-place.place) × Step object b) c.in_ok-add_steps-in-Some.ensures.added (λ o b. (λ h. (h.0, (h.1, λ same. none-some b same)), λ h. (h.0, h.1.0))) in
    let gained = spreads_gain Step Row behind c.args.trail.now c.loop-place.trail c.look.new.trail c.loop-place.place c.loop-place.invariant.2 c.loop-place.invariant.0 looked.0 in
    let more = spreads_more Step Row behind c.args.trail.now c.look.new.trail c.add_steps.new.trail c.loop-place.place object looked.1.1.0 gained looked.1.1.1 steps in
    (more, (let low = looked.1.0 in omega (arith, low)), (let low = slice_get_within c.add_steps.new.trail c.loop-place.place (object, looked.1.1.0) (steps.kept c.loop-place.place (object, looked.1.1.0) looked.1.1.1) in omega (arith, low)))

pub returns-in-None : goal.returns-in-None
returns-in-None g c = record {
  spread =
      let cut = is_cut (g.H.Paths.link c.args.host.now) c.args.finalizers.now.state (option_copied c.args.found) in
      let Row = IsRowBy (g.H.Paths.place c.args.host.now) (g.H.Paths.value c.args.host.now) (g.H.Paths.link c.args.host.now) (g.H.Paths.objects c.args.host.now) c.args.finalizers.now.state (option_copied c.args.found) in
      let behind = either (option_copied c.args.found) (option_copied c.args.own) in
      let Step = λ (a b : ℕ). IsStepBy (g.H.Paths.objects c.args.host.now) cut (g.H.Paths.pointers c.args.host.now a) b in
      let looked = rw c.in-None.is at c.in_ok-next.ensures.looked in
      let gained = spreads_gain Step Row behind c.args.trail.now c.loop-place.trail c.look.new.trail c.loop-place.place c.loop-place.invariant.2 c.loop-place.invariant.0 looked.0 in
      spreads_done Step Row behind c.args.trail.now c.look.new.trail c.loop-place.place gained looked.1.0 looked.1.1;
}
