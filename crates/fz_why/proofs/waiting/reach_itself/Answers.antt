use Rattle.std.proofs.Common.{◌≡◌, Some, subst}
use Rattle.fz_why.specs.declared.origin.Origin.{Origin}
use Rattle.fz_why.specs.declared.origin.Origin.TheVariants.{First}
use Rattle.fz_why.specs.Trail.{is_cut, Adds, IsFirstBy}
use Rattle.fz_why.proofs.Held.{ring_trail}
use Rattle.fz_why.proofs.waiting.reach_itself.Goals as goal

pub returns : goal.returns
returns g c = record {
  reached =
      let objects = g.H.Paths.objects c.args.host.now in
      let s = c.args.finalizers.now.state in
      let fs = c.args.found.now in
      let pointers = g.H.Paths.pointers c.args.host.now in
      let object = c.args.object in
      let first = subst (λ es. Adds (λ (o : Origin) b. (o ≡ First object) × IsFirstBy objects (is_cut (g.H.Paths.link c.args.host.now) s (Some fs)) (pointers object) object c.args.kind b) es c.add_first_steps.new.trail) c.new-trail.ensures c.in_ok-add_first_steps.ensures.added in
      ring_trail (g.H.Paths.place c.args.host.now) (g.H.Paths.link c.args.host.now) (g.met.H.Paths.are_links c.args.host.now) (g.H.Paths.value c.args.host.now) (g.met.H.Paths.are_values c.args.host.now) objects s fs c.requires pointers
      (g.met.H.Paths.are_pointers c.args.host.now) object c.args.kind _ _ first c.in_ok-spread.ensures.spread;
}
