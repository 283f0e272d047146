use Rattle.std.proofs.Common.{◌≡◌, ◌∙◌, Some, None, ap, sym}
use Rattle.std.proofs.lemmas.Option.{none-some, same_Some}
use Rattle.fz_why.proofs.Adding.{adds_one, adds_as}
use Rattle.fz_why.proofs.searching.add_but.Goals as goal

pub returns-in_ok-add_unless-in-Some : goal.returns-in_ok-add_unless-in-Some
returns-in_ok-add_unless-in-Some c = record {
  added =
      let is : c.args.except ≡ Some c.in-Some.other = c.in-Some.is in
      adds_as _ c.in_ok-add_unless-in-Some.ensures.added
      (λ o b. (λ h. (h.0, h.1, λ (same : b ≡ c.in-Some.other). h.2 (is ∙ ap Some (sym same))), λ h. (h.0, h.1, λ same. h.2 (same_Some b c.in-Some.other (sym same ∙ is)))));
}

pub returns-in_ok-add-in-None : goal.returns-in_ok-add-in-None
returns-in_ok-add-in-None c = record {
  added =
      let is : c.args.except ≡ None = c.in-None.is in
      adds_as _ (adds_one c.args.trail.now c.add.new.self c.args.object c.args.origin c.in_ok-add-in-None.ensures.added)
      (λ o b. (λ h. (h.0, h.1), λ h. (h.0, h.1, λ same. none-some b (sym is ∙ same))));
}
