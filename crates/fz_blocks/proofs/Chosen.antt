-- The cells of a block at chosen places are condemned.
use Rattle.std.proofs.Common.{◌≡◌, ◌≢◌, ℕ, ◌+◌, ◌^◌, ◌<◌, Bool, true, false, not, ◌||◌, ◌&&◌, bit_and, bit_or, refl, sym, ap, ◌∙◌, ⊎_elim, arith, w64}
use Rattle.std.proofs.lemmas.Bool.{cases_Bool, and_parts, and_from, both_ways, not-true, not_from_false}
use Rattle.std.proofs.lemmas.Nat.{and_le_l, or_lt, zero_from_ones, ones_le_self}
use Rattle.std.specs.Int.{bit_not, trailing_zeros}
use Rattle.std.specs.Int.Count.{ones}
use Rattle.fz_blocks.specs.declared.block.Block.{Block}
use Rattle.fz_model.specs.Bits.{has_bit}
use Rattle.fz_blocks.specs.Cells.{AreAmong, AreSeparate}
use Rattle.fz_blocks.specs.Blocks.{starts_at}
use Rattle.fz_blocks.proofs.Bits.{same_test, and_is, and_bits, or_is, without_is, lowest}
use Rattle.fz_model.proofs.Bits.{no_bits}
use Rattle.fz_blocks.proofs.Objects.{objects_fit, same_bits}
use Rattle.fz_blocks.proofs.Condemned.{condemned_fit, ones-or}

module _ (block : Block) (places : ℕ) where
  chosen_fits : bit_and block.objects places < 2 ^ 64
  chosen_fits = let le = and_le_l block.objects places in let fits = objects_fit block in omega (arith, le, fits)

  pub kept_bit : (p : ℕ) → has_bit (bit_and block.objects (bit_not w64 (bit_and block.objects places))) p ≡ (not (has_bit places p) && starts_at block p)
  kept_bit p = without_is block.objects (bit_and block.objects places) p (objects_fit block) chosen_fits ∙ ap (λ t. not t && has_bit block.objects p) (and_is block.objects places p) ∙ table (has_bit block.objects p) (has_bit places p)
    where
      table : (x y : Bool) → (not (x && y) && x) ≡ (not y && x)
      table true true = refl
      table true false = refl
      table false true = refl
      table false false = refl

  pub added_bit : (p : ℕ) → has_bit (bit_or block.condemned (bit_and block.objects places)) p ≡ (has_bit places p && starts_at block p || has_bit block.condemned p)
  added_bit p = or_is block.condemned (bit_and block.objects places) p ∙ ap (λ t. has_bit block.condemned p || t) (and_is block.objects places p) ∙ table (has_bit block.condemned p) (has_bit block.objects p) (has_bit places p)
    where
      table : (x y z : Bool) → (x || y && z) ≡ (z && y || x)
      table true true true = refl
      table true true false = refl
      table true false true = refl
      table true false false = refl
      table false true true = refl
      table false true false = refl
      table false false true = refl
      table false false false = refl

  pub kept_are : AreAmong (bit_and block.objects (bit_not w64 (bit_and block.objects places))) block.cells
  kept_are p on = block.objects_are p (and_parts (not (has_bit places p)) (starts_at block p) (sym (kept_bit p) ∙ on)).1

  pub added_are : AreAmong (bit_or block.condemned (bit_and block.objects places)) block.cells
  added_are p on =
      ⊎_elim
      (λ condemned. block.condemned_are p condemned)
      (λ off. block.objects_are p (and_bits block.objects places p (ap (λ t. t || has_bit (bit_and block.objects places) p) (sym off) ∙ sym (or_is block.condemned (bit_and block.objects places) p) ∙ on)).0)
      (cases_Bool (has_bit block.condemned p))

  pub kept_separate : AreSeparate (bit_and block.objects (bit_not w64 (bit_and block.objects places))) (bit_or block.condemned (bit_and block.objects places))
  kept_separate p on =
      let parts = and_parts (not (has_bit places p)) (starts_at block p) (sym (kept_bit p) ∙ on) in
      added_bit p ∙ ap (λ t. t && starts_at block p || has_bit block.condemned p) (not-true _ parts.0) ∙ block.separate p parts.1

  pub kept_none : 0 < block.back → bit_and block.objects (bit_not w64 (bit_and block.objects places)) ≡ 0
  kept_none later = let none = block.none_later later in let le = and_le_l block.objects (bit_not w64 (bit_and block.objects places)) in omega (arith, none, le)

  pub chosen_count : ones (bit_or block.condemned (bit_and block.objects places)) ≡ ones block.condemned + ones (bit_and block.objects places)
  chosen_count =
      ones-or block.condemned (bit_and block.objects places) (condemned_fit block) chosen_fits (or_lt 64 block.condemned (bit_and block.objects places) (condemned_fit block) chosen_fits)
      (λ i on. ⊎_elim (λ condemned. absurd (both_ways _ (block.separate i (and_bits block.objects places i on).0) condemned)) (λ off. off) (cases_Bool (has_bit block.condemned i)))

  pub chosen_none : ones (bit_and block.objects places) ≡ 0 → bit_and block.objects (bit_not w64 (bit_and block.objects places)) ≡ block.objects
  chosen_none none = same_bits _ _ (λ p. kept_bit p ∙ same_test _ _ (λ on. (and_parts (not (has_bit places p)) (starts_at block p) on).1) (λ on. and_from (not (has_bit places p)) (starts_at block p) (free p on) on))
    where
      free : (p : ℕ) → starts_at block p ≡ true → not (has_bit places p) ≡ true
      free p on =
          ⊎_elim
          (λ in_places. absurd (both_ways _ (no_bits p) (ap (λ n. has_bit n p) (sym (zero_from_ones (bit_and block.objects places) none)) ∙ and_is block.objects places p ∙ and_from (has_bit block.objects p) (has_bit places p) on in_places)))
          (λ off. not_from_false _ off)
          (cases_Bool (has_bit places p))

  pub chosen_some : 0 < ones (bit_and block.objects places) → (place : ℕ) × (starts_at block place ≡ true) × (has_bit (bit_and block.objects (bit_not w64 (bit_and block.objects places))) place ≡ false)
  chosen_some some =
      let few = ones_le_self (bit_and block.objects places) in
      let low = lowest (bit_and block.objects places) (trailing_zeros w64 (bit_and block.objects places)) (λ zero. omega (arith, few, some, zero)) chosen_fits refl in
      let parts = and_bits block.objects places (trailing_zeros w64 (bit_and block.objects places)) low.1 in
      (trailing_zeros w64 (bit_and block.objects places), parts.0, kept_bit (trailing_zeros w64 (bit_and block.objects places)) ∙ ap (λ t. not t && starts_at block (trailing_zeros w64 (bit_and block.objects places))) parts.1)

  pub some_chosen : bit_and block.objects places ≢ 0 → (place : ℕ) × (starts_at block place ≡ true) × (has_bit places place ≡ true)
  some_chosen some =
      let low = lowest (bit_and block.objects places) (trailing_zeros w64 (bit_and block.objects places)) some chosen_fits refl in
      let parts = and_bits block.objects places (trailing_zeros w64 (bit_and block.objects places)) low.1 in
      (trailing_zeros w64 (bit_and block.objects places), parts.0, parts.1)

  pub some_others : places < 2 ^ 64 → bit_and block.objects (bit_not w64 places) ≢ 0 → (place : ℕ) × (starts_at block place ≡ true) × (has_bit places place ≡ false)
  some_others small some =
      let le = and_le_l block.objects (bit_not w64 places) in
      let fits = objects_fit block in
      let z = trailing_zeros w64 (bit_and block.objects (bit_not w64 places)) in
      let low = lowest (bit_and block.objects (bit_not w64 places)) z some (omega (arith, le, fits)) refl in
      let parts = and_parts (not (has_bit places z)) (has_bit block.objects z) (sym (without_is block.objects places z fits small) ∙ low.1) in
      (z, parts.1, not-true _ parts.0)
