use Rattle.std.proofs.Common.{◌∙◌, sym}
use Rattle.fz_why.specs.Trail.{has}
use Rattle.fz_why.proofs.Adding.{adds_nothing, adds_as}
use Rattle.fz_why.proofs.Held.{not_found, own_held, ring_none}
use Rattle.fz_why.proofs.Stepping.{links_apart}
use Rattle.fz_why.proofs.Circles.{circle_added}
use Rattle.fz_why.proofs.stuck_objects.add_circle.Goals as goal

pub returns-then-not-contains : goal.returns-then-not-contains
returns-then-not-contains g c = record {
  added =
      let place = g.H.Paths.place c.args.host.now in
      let objects = g.H.Paths.objects c.args.host.now in
      let s = c.args.finalizers.now.state in
      let fs = c.args.found.now in
      adds_nothing _ _ (λ o b h. ring_none place (g.H.Paths.value c.args.host.now) objects s fs c.args.from c.args.registration c.requires.unfound _ c.in_ok-circle.ensures.reached
      (links_apart place (g.H.Paths.link c.args.host.now) (g.met.H.Paths.are_links c.args.host.now) objects fs s.short c.requires.found.sound.short) (g.met.H.Paths.are_values c.args.host.now) c.requires.found
      (sym c.contains.ensures ∙ c.if-not-contains.true) h.1);
}

pub returns : goal.returns
returns g c = record {
  added =
      let place = g.H.Paths.place c.args.host.now in
      let value = g.H.Paths.value c.args.host.now in
      let objects = g.H.Paths.objects c.args.host.now in
      let s = c.args.finalizers.now.state in
      let fs = c.args.found.now in
      let un = c.requires.unfound in
      let back = own_held place value objects s fs c.args.from c.args.registration un _ c.in_ok-circle.ensures.reached c.args.from (sym c.contains.ensures ∙ c.if-not-contains.false) in
      adds_as _ c.in_ok-add_first_steps.ensures.added
      (circle_added place (g.H.Paths.link c.args.host.now) (g.met.H.Paths.are_links c.args.host.now) value (g.met.H.Paths.are_values c.args.host.now) objects s fs c.requires.found (g.H.Paths.pointers c.args.host.now) (g.met.H.Paths.are_pointers c.args.host.now)
      c.args.from c.args.registration un.registered (not_found place value objects s (has fs) c.args.from c.args.registration un) back);
}
