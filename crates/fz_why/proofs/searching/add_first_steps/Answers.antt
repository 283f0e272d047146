use Rattle.std.specs.Option.{option_copied}
use Rattle.std.proofs.Common.{◌≡◌, Some, ap, sym, subst}
use Rattle.std.proofs.lemmas.Option.{none-some, same_Some}
use Rattle.fz_model.specs.declared.kinds.RegKind.{RegKind}
use Rattle.fz_why.specs.declared.origin.Origin.{Origin}
use Rattle.fz_why.specs.declared.origin.Origin.TheVariants.{First}
use Rattle.fz_why.specs.Trail.{is_cut, Adds, IsFirstBy}
use Rattle.fz_why.proofs.Adding.{adds_nothing, adds_as}
use Rattle.fz_why.proofs.searching.add_first_steps.Goals as goal

pub returns-in_ok-add_steps-in-Normal : goal.returns-in_ok-add_steps-in-Normal
returns-in_ok-add_steps-in-Normal g c = record {
  added =
      let cut = is_cut (g.H.Paths.link c.args.host.now) c.args.finalizers.now.state (option_copied c.args.found) in
      let objects = g.H.Paths.objects c.args.host.now in
      let pointers = g.H.Paths.pointers c.args.host.now c.args.from in
      subst (λ (k : RegKind). Adds (λ (o : Origin) b. (o ≡ First c.args.from) × IsFirstBy objects cut pointers c.args.from k b) c.args.trail.now c.add_steps.new.trail) (sym c.in-Normal.is)
      (adds_as _ c.in_ok-add_steps-in-Normal.ensures.added (λ o b. (λ h. (h.0, (h.1, λ same. none-some b same)), λ h. (h.0, h.1.0))));
}

pub returns-in_ok-add_steps-in-IgnoreSelf : goal.returns-in_ok-add_steps-in-IgnoreSelf
returns-in_ok-add_steps-in-IgnoreSelf g c = record {
  added =
      let cut = is_cut (g.H.Paths.link c.args.host.now) c.args.finalizers.now.state (option_copied c.args.found) in
      let objects = g.H.Paths.objects c.args.host.now in
      let pointers = g.H.Paths.pointers c.args.host.now c.args.from in
      subst (λ (k : RegKind). Adds (λ (o : Origin) b. (o ≡ First c.args.from) × IsFirstBy objects cut pointers c.args.from k b) c.args.trail.now c.add_steps-in-IgnoreSelf.new.trail) (sym c.in-IgnoreSelf.is)
      (adds_as _ c.in_ok-add_steps-in-IgnoreSelf.ensures.added
      (λ o b. (λ h. (h.0, (h.1.0, λ same. h.1.1 (sym (same_Some c.args.from b same)))), λ h. (h.0, (h.1.0, λ same. h.1.1 (ap Some (sym same)))))));
}

pub returns-in-NoOrder : goal.returns-in-NoOrder
returns-in-NoOrder g c = record {
  added =
      let cut = is_cut (g.H.Paths.link c.args.host.now) c.args.finalizers.now.state (option_copied c.args.found) in
      let objects = g.H.Paths.objects c.args.host.now in
      let pointers = g.H.Paths.pointers c.args.host.now c.args.from in
      subst (λ (k : RegKind). Adds (λ (o : Origin) b. (o ≡ First c.args.from) × IsFirstBy objects cut pointers c.args.from k b) c.args.trail.now c.args.trail.now) (sym c.in-NoOrder.is)
      (adds_nothing _ _ (λ o b h. h.1));
}
