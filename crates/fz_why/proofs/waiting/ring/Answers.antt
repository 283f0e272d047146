use Rattle.std.proofs.Common.{Some, None}
use Rattle.fz_why.specs.Trail.{either, has, IsByRing, IsRow}
use Rattle.fz_why.specs.Why.{heap_judged, IsKeyJudged}
use Rattle.fz_why.proofs.Reached.{ordered}
use Rattle.fz_why.proofs.Stepping.{links_apart}
use Rattle.fz_why.proofs.Held.{ring_begins, ring_told, ring_none}
use Rattle.fz_why.proofs.waiting.ring.Goals as goal

pub path_to-requires : goal.path_to-requires
path_to-requires g c =
    let place = g.H.Paths.place c.args.host.now in
    let value = g.H.Paths.value c.args.host.now in
    let s = c.args.finalizers.now.state in
    let found = has c.args.found.now in
    let heap = heap_judged place value (g.H.Paths.objects c.args.host.now) s found in
    ordered heap (IsRow place value heap (IsKeyJudged place value (g.H.Paths.objects c.args.host.now) s found)) (either (Some c.args.found.now) None) (IsByRing heap c.args.object c.args.registration.kind) _ c.requires.own (ring_begins heap c.args.object c.args.registration.kind)

pub returns-in-Some : goal.returns-in-Some
returns-in-Some g c = record {
  path =
      ring_told (g.H.Paths.place c.args.host.now) (g.H.Paths.value c.args.host.now) (g.H.Paths.objects c.args.host.now) c.args.finalizers.now.state c.args.found.now c.args.object c.args.registration c.requires.unfound c.args.own.now c.requires.own
      c.in-Some._start c.in-Some.path.items (rw c.in-Some.is at c.in_ok-told.ensures.path);
}

pub returns-in-None : goal.returns-in-None
returns-in-None g c = record {
  path =
      let objects = g.H.Paths.objects c.args.host.now in
      let s = c.args.finalizers.now.state in
      ring_none (g.H.Paths.place c.args.host.now) (g.H.Paths.value c.args.host.now) objects s c.args.found.now c.args.object c.args.registration c.requires.unfound c.args.own.now c.requires.own
      (links_apart (g.H.Paths.place c.args.host.now) (g.H.Paths.link c.args.host.now) (g.met.H.Paths.are_links c.args.host.now) objects c.args.found.now s.short c.requires.found.sound.short)
      (g.met.H.Paths.are_values c.args.host.now) c.requires.found (rw c.in-None.is at c.in_ok-told.ensures.path);
}
