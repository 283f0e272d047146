use Rattle.std.proofs.Common.{◌≡◌, ◌∙◌, ℕ, List, Some, option_map, slice_get, sym, ap, subst}
use Rattle.std.proofs.lemmas.Bool.{eqb-true}
use Rattle.std.specs.Map.{keys_of}
use Rattle.std.specs.Map.Iter.{deref_pair}
use Rattle.fz_machine.specs.Regions.{Regions}
use Rattle.fz_machine.proofs.Noting.{key_at, keys_placed}
use Rattle.fz_machine.proofs.regions.Regions.is_at.Goals as goal

pub returns-in-Some : goal.returns-in-Some
returns-in-Some c = λ same.
    let es = c.self.inside.noted.entries in
    let at = key_at es c.args.index (c.in-Some.found.now, c.in-Some.field-0-1.now) (sym c.get_index.ensures.entry ∙ ap (option_map deref_pair) c.in-Some.is) in
    subst (λ (ks : List ℕ). slice_get ks c.args.index ≡ Some c.args.region) (sym (keys_placed es) ∙ ap (λ (r : Regions). keys_of r.order) c.self.view_is) (at ∙ ap Some (eqb-true c.in-Some.found.now c.args.region same))
