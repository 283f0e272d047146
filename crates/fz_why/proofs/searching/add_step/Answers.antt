use Rattle.std.specs.Option.{option_copied}
use Rattle.std.proofs.Common.{◌∙◌, Some, ap, sym}
use Rattle.std.proofs.lemmas.Bool.{both_ways}
use Rattle.std.proofs.lemmas.Option.{none-some, same_Some}
use Rattle.fz_why.specs.Trail.{is_cut}
use Rattle.fz_why.proofs.Adding.{adds_nothing, adds_as}
use Rattle.fz_why.proofs.searching.add_step.Goals as goal

pub returns-then-is_cut : goal.returns-then-is_cut
returns-then-is_cut g c = record {
  added =
      adds_nothing _ _ (λ o b h. both_ways (is_cut (g.H.Paths.link c.args.host.now) c.args.finalizers.now.state (option_copied c.args.found) c.args.pointer.word) h.1 (sym c.is_cut.ensures ∙ c.if-is_cut.true));
}

pub returns-in_ok-add_but-in-Some : goal.returns-in_ok-add_but-in-Some
returns-in_ok-add_but-in-Some g c = record {
  added =
      let live = sym c.is_cut.ensures ∙ c.if-is_cut.false in
      let pointed = sym c.in-Some.ensures in
      adds_as _ c.in_ok-add_but-in-Some.ensures.added
      (λ o b. (λ h. (h.0, same_Some b c.in-Some.child (sym h.2 ∙ pointed), h.3), λ h. (h.0, live, pointed ∙ ap Some (sym h.1), h.2)));
}

pub returns-in-None : goal.returns-in-None
returns-in-None g c = record {
  added = adds_nothing _ _ (λ o b h. none-some b (c.in-None.ensures ∙ h.2));
}
