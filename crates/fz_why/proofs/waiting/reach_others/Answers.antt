use Rattle.std.proofs.Common.{subst}
use Rattle.fz_why.specs.Trail.{Adds, IsByOther}
use Rattle.fz_why.proofs.Held.{wait_trail}
use Rattle.fz_why.proofs.waiting.reach_others.Goals as goal

pub returns : goal.returns
returns g c = record {
  reached =
      let objects = g.H.Paths.objects c.args.host.now in
      let s = c.args.finalizers.now.state in
      let fs = c.args.found.now in
      let pointers = g.H.Paths.pointers c.args.host.now in
      let first = subst (λ es. Adds (IsByOther (g.H.Paths.link c.args.host.now) objects s fs pointers c.args.late c.args.object) es c.add_others.new.trail) c.new-trail.ensures c.in_ok-add_others.ensures.added in
      wait_trail (g.H.Paths.place c.args.host.now) (g.H.Paths.link c.args.host.now) (g.met.H.Paths.are_links c.args.host.now) (g.H.Paths.value c.args.host.now) (g.met.H.Paths.are_values c.args.host.now) objects s fs c.requires pointers
      (g.met.H.Paths.are_pointers c.args.host.now) c.args.own.now c.args.late c.args.object _ _ first c.in_ok-spread.ensures.spread;
}
