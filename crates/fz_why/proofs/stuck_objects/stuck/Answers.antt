use Rattle.fz_why.specs.Trail.{has, is_stuck_by, IsFoundOf, IsSound}
use Rattle.fz_why.proofs.Told.{computes, found_of}
use Rattle.fz_why.proofs.Stepping.{links_apart}
use Rattle.fz_why.proofs.Circles.{stuck_computes}
use Rattle.fz_why.proofs.stuck_objects.stuck.Goals as goal

pub returns : goal.returns
returns g c = record {
  listed =
      let place = g.H.Paths.place c.args.host.now in
      let value = g.H.Paths.value c.args.host.now in
      let objects = g.H.Paths.objects c.args.host.now in
      let roots = g.H.Paths.roots c.args.host.now in
      let s = c.args.finalizers.now.state in
      let fs = c.in_ok-found.found in
      let es = c.in_ok-reached.reached in
      let sound : IsSound objects s = record { registered = c.requires.registered; short = c.requires.short; keys = c.requires.keys; zero = c.requires.zero } in
      let comp = computes place value objects roots s fs c.in_ok-found.ensures.found in
      let f : IsFoundOf place value objects s (has fs) = found_of place value objects roots s (has fs) sound comp in
      let apart = links_apart place (g.H.Paths.link c.args.host.now) (g.met.H.Paths.are_links c.args.host.now) objects fs s.short sound.short in
      (has fs, comp, (is_stuck_by s fs es, stuck_computes place apart value (g.met.H.Paths.are_values c.args.host.now) objects s fs es f c.in_ok-reached.ensures.reached, c.in_ok-objects.ensures.listed));
}

pub reach_rings-requires : goal.reach_rings-requires
reach_rings-requires g c =
    found_of (g.H.Paths.place c.args.host.now) (g.H.Paths.value c.args.host.now) (g.H.Paths.objects c.args.host.now) (g.H.Paths.roots c.args.host.now) c.args.finalizers.now.state _
    (record { registered = c.requires.registered; short = c.requires.short; keys = c.requires.keys; zero = c.requires.zero })
    (computes (g.H.Paths.place c.args.host.now) (g.H.Paths.value c.args.host.now) (g.H.Paths.objects c.args.host.now) (g.H.Paths.roots c.args.host.now) c.args.finalizers.now.state c.in_ok-found.found c.in_ok-found.ensures.found)
