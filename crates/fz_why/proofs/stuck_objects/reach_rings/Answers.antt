use Rattle.std.proofs.Common.{subst}
use Rattle.fz_why.specs.Trail.{has, Adds, IsByCircles}
use Rattle.fz_why.proofs.Circles.{circles_trail}
use Rattle.fz_why.proofs.stuck_objects.reach_rings.Goals as goal

pub returns : goal.returns
returns g c = record {
  reached =
      let place = g.H.Paths.place c.args.host.now in
      let value = g.H.Paths.value c.args.host.now in
      let objects = g.H.Paths.objects c.args.host.now in
      let s = c.args.finalizers.now.state in
      let fs = c.args.found.now in
      let pointers = g.H.Paths.pointers c.args.host.now in
      let first = subst (λ es. Adds (IsByCircles place value objects s (has fs)) es c.add_rings.new.trail) c.new-trail.ensures c.in_ok-add_rings.ensures.added in
      circles_trail place (g.H.Paths.link c.args.host.now) (g.met.H.Paths.are_links c.args.host.now) value (g.met.H.Paths.are_values c.args.host.now) objects s fs c.requires pointers (g.met.H.Paths.are_pointers c.args.host.now) _ _ first c.in_ok-spread.ensures.spread;
}
