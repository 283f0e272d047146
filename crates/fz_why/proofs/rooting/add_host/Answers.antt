use Rattle.std.proofs.Common.{◌+◌, arith, sym, refl}
use Rattle.fz_why.proofs.Adding.{adds_nothing, adds_on, adds_as}
use Rattle.fz_why.proofs.Looping.{ByBelow, ByHostRoot, below_none, below_more, host_all}
use Rattle.fz_why.proofs.rooting.add_host.Goals as goal

pub loop-index-init : goal.loop-index-init
loop-index-init g c =
    let roots = g.H.Paths.roots c.args.host.now in
    let R = ByHostRoot (g.H.Paths.objects c.args.host.now) in
    (adds_nothing (ByBelow 0 roots R) _ (below_none roots R), omega arith)

pub loop-index-preserved : goal.loop-index-preserved
loop-index-preserved g c =
    let roots = g.H.Paths.roots c.args.host.now in
    let R = ByHostRoot (g.H.Paths.objects c.args.host.now) in (
      adds_on (ByBelow (c.loop-index.index + 1) roots R) c.loop-index.invariant.0 c.in_ok-add_root-in-Some.ensures.added (below_more roots R c.loop-index.index c.in-Some.word (sym c.in-Some.ensures.root)),
      (let low = c.in-Some.ensures.few refl in omega (arith, low)),
    )

pub returns-in-None : goal.returns-in-None
returns-in-None g c = record {
  added = adds_as _ c.loop-index.invariant.0 (host_all (g.H.Paths.objects c.args.host.now) (g.H.Paths.roots c.args.host.now) c.loop-index.index (sym c.in-None.ensures.root));
}
