use Rattle.std.proofs.Common.{◌≡◌, ◌∙◌, ℕ, nat_eq, cond, is_some, map, take, List, Option, Some, ap, sym, subst, refl, slice_get, bit_or, arith}
use Rattle.indexmap.specs.IndexMap.{set_value_at}
use Rattle.std.proofs.lemmas.Map.Made.{is_some-lookup}
use Rattle.std.specs.List.{list_any}
use Rattle.std.specs.Map.{keys_of, lookup}
use Rattle.std.specs.Option.{IfSome}
use Rattle.fz_machine.specs.declared.regions.Noted.{Noted}
use Rattle.fz_machine.specs.Regions.{Regions, IsNoted, placed, worded, region_of}
use Rattle.fz_machine.proofs.Noting.{found_here, found_told, found_there, keys_placed, keys_set, keys_written, lacking, length_by, noted_after, noted_still, regions_by_keys, worded_set, written_here}
use Rattle.fz_machine.proofs.regions.Regions.place.Goals as goal

pub returns-in_default-clause-there : goal.returns-in_default-clause-there
returns-in_default-clause-there c = sym (ap is_some c.in_default.is) ∙ c.index_of.ensures.there ∙ ap (λ k. is_some (lookup (nat_eq k) c.args.self.now.order)) c.region_of-region.ensures

pub returns-in_default-clause-told : goal.returns-in_default-clause-told
returns-in_default-clause-told c = λ whole.
    sym (lacking c.args.self.now.told (region_of c.args.n) (is_some-lookup (nat_eq (region_of c.args.n)) c.args.self.now.told ∙ ap (list_any (nat_eq (region_of c.args.n))) whole ∙ sym (is_some-lookup (nat_eq (region_of c.args.n)) c.args.self.now.order)
    ∙ sym (ap (λ k. is_some (lookup (nat_eq k) c.args.self.now.order)) c.region_of-region.ensures) ∙ sym c.index_of.ensures.there ∙ ap is_some c.in_default.is))

module _ (c : goal.After-self-1) where
  abbrev region : ℕ
  region = c.region_of-region.result

  abbrev es : List (ℕ × Noted)
  es = c.self.inside.noted.entries

  abbrev was : Noted
  was = c.index-noted.result.now

  abbrev with : Noted
  with = record { places = bit_or c.index-noted.result.now.places c.bit-place.result; told = c.index-noted.result.now.told }

  key : slice_get (keys_of es) c.in-Some.index ≡ Some region
  key =
      subst (λ (ks : List ℕ). slice_get ks c.in-Some.index ≡ Some region) (ap (λ (r : Regions). keys_of r.order) (sym c.self.view_is) ∙ keys_placed es)
      (subst (λ (o : Option ℕ). IfSome o (λ i. slice_get (keys_of c.args.self.now.order) i ≡ Some region)) c.in-Some.is c.index_of.ensures.found)

  here : lookup (nat_eq region) es ≡ Some was
  here = found_here c.self.inside.noted c.in-Some.index region was with c.self.invariant.2.once key c.index-noted.ensures

  abbrev after : List (ℕ × Noted)
  after = set_value_at c.self.inside.noted.entries c.in-Some.index with

  updated : (q : ℕ) → lookup (nat_eq q) after ≡ cond (nat_eq region q) (Some with) (lookup (nat_eq q) es)
  updated = written_here c.self.inside.noted c.in-Some.index region was with c.self.invariant.2.once key c.index-noted.ensures

  keys : keys_of after ≡ keys_of es
  keys = keys_set es c.in-Some.index with

pub invariant_of-self : goal.invariant_of-self
invariant_of-self c =
    let le = c.self.invariant.0 in
    let within = c.self.invariant.1 in
    let long = length_by (es c) (after c) (keys c) in (le, omega (arith, within, long), regions_by_keys (es c) (after c) (keys c) c.self.invariant.2)

pub returns-clause-same : goal.returns-clause-same
returns-clause-same c =
    let es = c.self.inside.noted.entries in
    let told : map worded (take c.self.inside.heard (after c)) ≡ c.args.self.now.told =
    worded_set es c.self.inside.heard c.in-Some.index (was c) (with c) c.index-noted.ensures refl ∙ ap (λ (r : Regions). r.told) c.self.view_is in
    let left = keys_written c.self.inside.heard c.self.inside.end (after c) es (keys c) ∙ ap (λ (r : Regions). r.left) c.self.view_is in
    let asked = ap (λ (r : Regions). r.asked) c.self.view_is in
    let complete = ap (λ (r : Regions). r.complete) c.self.view_is in
    λ i. record { order = map placed (after c); told = told i; left = left i; asked = asked i; complete = complete i }

pub returns-clause-keys : goal.returns-clause-keys
returns-clause-keys c = keys_placed (after c) ∙ keys c ∙ sym (keys_placed c.self.inside.noted.entries) ∙ ap (λ (r : Regions). keys_of r.order) c.self.view_is

pub returns-clause-kept : goal.returns-clause-kept
returns-clause-kept c = λ other noted.
    noted_still c.self.inside.noted.entries c.args.n c.region_of-region.result c.place_in.result c.bit-place.result c.region_of-region.ensures c.place_in.ensures c.bit-place.ensures (was c) (with c) (here c) refl (after c) (updated c)
    other (subst (λ (r : Regions). IsNoted r.order other) (sym c.self.view_is) noted)

pub returns-clause-noted : goal.returns-clause-noted
returns-clause-noted c =
    noted_after c.self.inside.noted.entries c.args.n c.region_of-region.result c.place_in.result c.bit-place.result c.region_of-region.ensures c.place_in.ensures c.bit-place.ensures (was c) (with c) (here c) refl (after c) (updated c)

pub returns-clause-there : goal.returns-clause-there
returns-clause-there c = ap is_some (sym (found_there c.self.inside.noted.entries c.args.n c.region_of-region.result c.region_of-region.ensures (Some (was c)) (here c))) ∙ ap (λ (r : Regions). is_some (lookup (nat_eq (region_of c.args.n)) r.order)) c.self.view_is

pub returns-clause-told : goal.returns-clause-told
returns-clause-told c = λ whole.
    sym (found_told c.self.inside.noted.entries c.self.inside.heard (ap (λ (r : Regions). keys_of r.told) c.self.view_is ∙ whole ∙ ap (λ (r : Regions). keys_of r.order) (sym c.self.view_is)) c.args.n c.region_of-region.result c.region_of-region.ensures (Some (was c)) (here c))
    ∙ ap (λ (r : Regions). lookup (nat_eq (region_of c.args.n)) r.told) c.self.view_is
