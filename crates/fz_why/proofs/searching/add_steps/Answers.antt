use Rattle.std.specs.Option.{option_copied}
use Rattle.std.proofs.Common.{◌+◌, arith, sym, refl}
use Rattle.fz_why.specs.Trail.{is_cut}
use Rattle.fz_why.proofs.Adding.{adds_nothing, adds_on, adds_as}
use Rattle.fz_why.proofs.Looping.{ByBelow, ByPointer, below_none, below_more, steps_all}
use Rattle.fz_why.proofs.searching.add_steps.Goals as goal

pub loop-index-init : goal.loop-index-init
loop-index-init g c =
    let cut = is_cut (g.H.Paths.link c.args.host.now) c.args.finalizers.now.state (option_copied c.args.found) in
    let pointers = g.H.Paths.pointers c.args.host.now c.args.from in
    (adds_nothing (ByBelow 0 pointers (ByPointer (g.H.Paths.objects c.args.host.now) cut c.args.except c.args.origin)) _ (below_none pointers (ByPointer (g.H.Paths.objects c.args.host.now) cut c.args.except c.args.origin)), omega arith)

pub loop-index-preserved : goal.loop-index-preserved
loop-index-preserved g c =
    let cut = is_cut (g.H.Paths.link c.args.host.now) c.args.finalizers.now.state (option_copied c.args.found) in
    let pointers = g.H.Paths.pointers c.args.host.now c.args.from in
    let R = ByPointer (g.H.Paths.objects c.args.host.now) cut c.args.except c.args.origin in (
      adds_on (ByBelow (c.loop-index.index + 1) pointers R) c.loop-index.invariant.0 c.in_ok-add_step-in-Some.ensures.added (below_more pointers R c.loop-index.index c.in-Some.pointer (sym c.in-Some.ensures.pointer)),
      (let low = c.in-Some.ensures.few refl in omega (arith, low)),
    )

pub returns-in-None : goal.returns-in-None
returns-in-None g c = record {
  added =
      let cut = is_cut (g.H.Paths.link c.args.host.now) c.args.finalizers.now.state (option_copied c.args.found) in
      let pointers = g.H.Paths.pointers c.args.host.now c.args.from in
      adds_as _ c.loop-index.invariant.0 (steps_all (g.H.Paths.objects c.args.host.now) cut pointers c.args.except c.args.origin c.loop-index.index (sym c.in-None.ensures.pointer));
}
