-- What is still scanned after a page's objects are forgotten.
use Rattle.std.proofs.Common.{◌≡◌, ◌≢◌, ℕ, ◌-◌, ◌≤◌, ◌⊎◌, ◌&&◌, ◌==◌, not, Bool, true, false, cond, Some, None, nat_eq, refl, sym, ap, ◌∙◌, subst, inl, inr, ⊎_elim, arith, IsTrue}
use Rattle.std.proofs.lemmas.Bool.{both_ways, and_parts, cases_eq, eq-eqb, ne_eqb}
use Rattle.std.proofs.lemmas.Option.{same_Some, none-some}
use Rattle.std.specs.Cmp.{nat_cmp_total}
use Rattle.std.specs.FinSet.{contains, remove, len, len-remove}
use Rattle.fz_model.specs.declared.limits.TheConstants.{HEAP_START}
use Rattle.fz_model.specs.State.{Map, Object}
use Rattle.fz_model.specs.Extents.{extents, AreApart}
use Rattle.fz_model.specs.Memory.{points}
use Rattle.fz_model.specs.Allocation.{block_of, block_start}
use Rattle.fz_bits.specs.Flags.{Set, word_of}
use Rattle.fz_model.proofs.Sets.{has_removed}
use Rattle.fz_marker.specs.Standing.{HasWordOn, StandsOn}
use Rattle.fz_marker.proofs.Standing.{word_stands}

pub fewer_removed : (s : Set) (x size : ℕ) → len s ≤ size → len (remove s x) ≤ size
fewer_removed s x size few = at (contains s x) (len-remove nat_cmp_total s x)
  where
    at : (b : Bool) → len (remove s x) ≡ cond b (len s - 1) (len s) → len (remove s x) ≤ size
    at true is = omega (arith, is, few)
    at false is = omega (arith, is, few)

removed_parts : (s : Set) (x a : ℕ) → IsTrue (contains (remove s x) a) → IsTrue (contains s a) × (a ≢ x)
removed_parts s x a h =
    let both = and_parts (not (nat_eq a x)) (contains s a) (sym (has_removed s x a) ∙ h) in
    (both.1, λ is. both_ways false refl (subst (λ b. not b ≡ true) (eq-eqb a x is) both.0))

still_there : (s : Set) (x a : ℕ) → IsTrue (contains s a) → a ≢ x → IsTrue (contains (remove s x) a)
still_there s x a h ne = has_removed s x a ∙ ap (λ b. not b && contains s a) (ne_eqb a x ne) ∙ h

module _ (objects : Map Object) (page : ℕ) (old cleared : Set) (clears : (a : ℕ) → contains cleared a ≡ (contains old a && not (word_of HEAP_START a == page))) where
  cleared_parts : (a : ℕ) → IsTrue (contains cleared a) → IsTrue (contains old a) × (block_of a ≢ page)
  cleared_parts a h =
      let both = and_parts (contains old a) (not (word_of HEAP_START a == page)) (sym (clears a) ∙ h) in
      (both.0, λ is. both_ways false refl (subst (λ b. not b ≡ true) (eq-eqb (block_of a) page is) both.1))

  cleared_others : (a : ℕ) → IsTrue (contains old a) → IsTrue (contains cleared a) ⊎ (block_of a ≡ page)
  cleared_others a h = ⊎_elim inr (λ (ne : block_of a ≢ page). inl (clears a ∙ ap (λ b. contains old a && not b) (ne_eqb (block_of a) page ne) ∙ ap (λ b. b && true) h)) (cases_eq (block_of a) page)

  module _ (apart : AreApart (extents objects)) where
    -- no object has the page's first word
    pub none_gone : points objects (block_start page) ≡ None → (a : ℕ) → IsTrue (contains cleared a) → IsTrue (contains old a) × (HasWordOn objects page a → ⊥)
    none_gone none a h =
        let parts = cleared_parts a h in
        (parts.0, λ w. ⊎_elim parts.1 (λ first. none-some a (sym none ∙ first)) (word_stands objects apart page a w))

    -- or one has it
    pub first_gone : (x : ℕ) → points objects (block_start page) ≡ Some x → (a : ℕ) → IsTrue (contains (remove cleared x) a) → IsTrue (contains old a) × (HasWordOn objects page a → ⊥)
    first_gone x is a h =
        let there = removed_parts cleared x a h in
        let parts = cleared_parts a there.0 in
        (parts.0, λ w. ⊎_elim parts.1 (λ first. there.1 (same_Some a x (sym first ∙ is))) (word_stands objects apart page a w))

  pub none_others : (a : ℕ) → IsTrue (contains old a) → IsTrue (contains cleared a) ⊎ StandsOn objects page a
  none_others a h = ⊎_elim inl (λ starts. inr (inl starts)) (cleared_others a h)

  pub first_others : (x : ℕ) → points objects (block_start page) ≡ Some x → (a : ℕ) → IsTrue (contains old a) → IsTrue (contains (remove cleared x) a) ⊎ StandsOn objects page a
  first_others x is a h =
      ⊎_elim (λ there. ⊎_elim (λ (same : a ≡ x). inr (inr (is ∙ ap Some (sym same)))) (λ (ne : a ≢ x). inl (still_there cleared x a there ne)) (cases_eq a x))
      (λ starts. inr (inl starts))
      (cleared_others a h)
