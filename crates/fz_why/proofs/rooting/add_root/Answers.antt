use Rattle.std.proofs.Common.{◌∙◌, Some, ap, sym}
use Rattle.std.proofs.lemmas.Option.{none-some, same_Some}
use Rattle.fz_why.specs.declared.origin.Origin.TheVariants.{Root}
use Rattle.fz_why.proofs.Adding.{adds_nothing, adds_one, adds_as}
use Rattle.fz_why.proofs.rooting.add_root.Goals as goal

pub returns-in_ok-add-in-Some : goal.returns-in_ok-add-in-Some
returns-in_ok-add-in-Some g c = record {
  added =
      let pointed = sym c.in-Some.ensures in
      adds_as _ (adds_one c.args.trail.now c.add.new.self c.in-Some.object (Root c.args.root) c.in_ok-add-in-Some.ensures.added)
      (λ o b. (λ h. (h.0, same_Some b c.in-Some.object (sym h.1 ∙ pointed)), λ h. (h.0, pointed ∙ ap Some (sym h.1))));
}

pub returns-in-None : goal.returns-in-None
returns-in-None g c = record {
  added = adds_nothing _ _ (λ o b h. none-some b (c.in-None.ensures ∙ h.1));
}
