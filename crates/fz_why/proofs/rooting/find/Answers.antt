use Rattle.std.proofs.Common.{◌⊎◌, subst}
use Rattle.fz_why.specs.Trail.{Adds, IsByHost, IsByRegistration, IsByCleanup, IsByRoot, IsRow, IsRowBy, IsStepBy, either}
use Rattle.fz_why.specs.declared.origin.Origin.{Origin}
use Rattle.std.proofs.Common.{ℕ, None, false}
use Rattle.fz_pass.specs.Holds.{IsOfKey}
use Rattle.fz_why.proofs.Holding.{row_found}
use Rattle.fz_why.proofs.Adding.{adds_on}
use Rattle.fz_why.proofs.Reached.{reached_trail}
use Rattle.fz_why.proofs.Rooted.{Comes, comes_by_root}
use Rattle.fz_why.proofs.Stepping.{step_child}
use Rattle.fz_why.proofs.rooting.find.Goals as goal

pub returns : goal.returns
returns g c = record {
  found =
      let objects = g.H.Paths.objects c.args.host.now in
      let roots = g.H.Paths.roots c.args.host.now in
      let s = c.args.finalizers.now.state in
      let pointers = g.H.Paths.pointers c.args.host.now in
      let first = subst (λ es. Adds (IsByHost objects roots) es c.add_host.new.trail) c.new-trail.ensures c.in_ok-add_host.ensures.added in
      let two = adds_on (λ (o : Origin) (b : ℕ). IsByHost objects roots o b ⊎ IsByRegistration objects s.registrations o b) first c.in_ok-add_registered.ensures.added (λ o b. (λ h. h, λ h. h)) in
      let three = adds_on (λ (o : Origin) (b : ℕ). (IsByHost objects roots o b ⊎ IsByRegistration objects s.registrations o b) ⊎ IsByCleanup objects s.cleanups o b) two c.in_ok-add_attached.ensures.added (λ o b. (λ h. h, λ h. h)) in
      let all = adds_on (Comes objects roots s) three c.in_ok-add_entries.ensures.added (λ o b. (λ h. h, λ h. h)) in
      let place = g.H.Paths.place c.args.host.now in
      let value = g.H.Paths.value c.args.host.now in
      let link = g.H.Paths.link c.args.host.now in
      reached_trail objects (λ a b. IsStepBy objects (λ w. false) (pointers a) b) (IsRowBy place value link objects s None) (IsRow place value objects (IsOfKey s.ephemerons)) (either None None) (Comes objects roots s) (IsByRoot objects roots s) _ _ all c.in_ok-spread.ensures.spread
      (λ a b. step_child objects a (pointers a) (g.met.H.Paths.are_pointers c.args.host.now a) b) (row_found place link value objects s) (comes_by_root objects roots s);
}
