-- Extents that are apart and lie in the heap: what a word among them points to, and why a place is refused.
use Rattle.std.proofs.Common.{◌≡◌, ℕ, ◌+◌, ◌<◌, ◌≤◌, ◌&&◌, nat_le, nat_cmp, [], ◌∷◌, refl, Bool, true, false, cond, not, Option, Some, None, is_none, sym, ap, ◌∙◌, arith, MatchOption}
use Rattle.std.proofs.lemmas.Bool.{and_right, and_parts, leb-true, le-ltb}
use Rattle.std.proofs.lemmas.Option.{same_Some, none-some}
use Rattle.std.specs.Option.{option_map_or}
use Rattle.std.specs.FinMap.{get, remove, retain_keys, empty, get-empty, contains_key}
use Rattle.fz_model.specs.State.{Map}
use Rattle.fz_model.specs.declared.extent.Extent.{Extent}
use Rattle.fz_model.specs.declared.refusal.Refusal.{Refusal}
use Rattle.fz_model.specs.declared.refusal.Refusal.TheVariants.{NotPointer, OutsideObject, BadCount}
use Rattle.fz_model.specs.Extents.{covers, points_in, IsInHeap, AreApart, AreWithin}
use Rattle.fz_model.specs.Causes.{first_cause, bad_count, place_causes_in}
use Rattle.fz_model.proofs.Objects.{from_covers, to_covers, points_target, points_at}
use Rattle.fz_model.proofs.Maps.{retained_back}
use Rattle.fz_model.proofs.Sound.{removed_back, is_some_of}

-- an extent is pointed to by its start
pub points_itself : (blocks : ℕ) (extents : Map Extent) → AreApart extents → AreWithin blocks extents → (a : ℕ) (x : Extent) → get extents a ≡ Some x → points_in extents a ≡ Some a
points_itself blocks extents apart within a x here = points_at extents apart a a x here (to_covers a a x (omega arith) (omega (arith, (within a x here).1)))

-- the same of an address that may be a start
pub points_start : (blocks : ℕ) (extents : Map Extent) → AreApart extents → AreWithin blocks extents → (a : ℕ) → contains_key extents a ≡ true → points_in extents a ≡ Some a
points_start blocks extents apart within a here =
    let found = is_some_of (get extents a) (ap not here) in
    points_itself blocks extents apart within a found.0 found.1

-- a start lies in the heap
pub start_within : (blocks : ℕ) (extents : Map Extent) (a : ℕ) → AreWithin blocks extents → contains_key extents a ≡ true → IsInHeap blocks a
start_within blocks extents a within here =
    let found = is_some_of (get extents a) (ap not here) in
    let inside = within a found.0 found.1 in
    (inside.0, omega (arith, inside))

-- what a look-up finds, by the word that it was given
pub found_at : (extents : Map Extent) (found : Option (ℕ × Extent)) (word a : ℕ) (x : Extent) → MatchOption found (points_in extents word ≡ None) (λ found. (points_in extents word ≡ Some found.0) × (get extents found.0 ≡ Some found.1)) → found ≡ Some (a, x) → (points_in extents word ≡ Some a) × (get extents a ≡ Some x) × (a ≤ word) × (word < a + x.size)
found_at extents found word a x of_word is =
    let of_some = rw is at of_word in
    let target = points_target extents word a of_some.0 in
    let same = same_Some x target.0 (sym of_some.1 ∙ target.1) in
    let inside = from_covers a word target.0 target.2 in
    let high : word < a + x.size = omega (arith, inside.1, ap (λ (x : Extent). x.size) same) in
    (of_some.0, of_some.1, inside.0, high)

module _ (extents : Map Extent) (word offset a : ℕ) (x : Extent) (pointed : points_in extents word ≡ Some a) (here : get extents a ≡ Some x) where
  judged : first_cause (place_causes_in extents word offset) ≡ cond (not (covers (a, x) (word + offset))) (Some OutsideObject) None
  judged =
      let outside : Bool → Option Refusal = λ b. cond (not b) (Some OutsideObject) None in
      let within : ℕ → Option Extent → Bool = λ s p. option_map_or (λ (x : Extent). covers (s, x) (word + offset)) p false in
      let whole : Option ℕ → Option Refusal = λ p. cond (is_none p) (Some NotPointer) (outside (option_map_or (λ s. within s (get extents s)) p false)) in
      ap whole pointed ∙ ap (λ p. outside (within a p)) here

  pub judged_outside : a + x.size ≤ word + offset → first_cause (place_causes_in extents word offset) ≡ Some OutsideObject
  judged_outside past = judged ∙ ap (λ b. cond (not b) (Some OutsideObject) None) (and_right _ _ (le-ltb (word + offset) (a + x.size) past))

  pub judged_inside : a ≤ word + offset → word + offset < a + x.size → first_cause (place_causes_in extents word offset) ≡ None
  judged_inside low high = judged ∙ ap (λ b. cond (not b) (Some OutsideObject) None) (to_covers a (word + offset) x low high)

-- ---- in a new heap, and where an object is gone

pub few_opened : (limit blocks : ℕ) → first_cause (bad_count limit blocks ∷ []) ≡ None → blocks ≤ limit
few_opened limit blocks e = cases _ refl e
  where
    cases : (b : Bool) → (nat_le 1 blocks && nat_le blocks limit) ≡ b → cond (not b) (Some BadCount) None ≡ None → blocks ≤ limit
    cases true is e = leb-true blocks limit (and_parts (nat_le 1 blocks) (nat_le blocks limit) is).1
    cases false is e = absurd (none-some BadCount (sym e))

pub apart_empty : AreApart empty
apart_empty a b word x y here there = absurd (none-some x (sym (get-empty nat_cmp a) ∙ here))

pub within_empty : (blocks : ℕ) → AreWithin blocks empty
within_empty blocks a x here = absurd (none-some x (sym (get-empty nat_cmp a) ∙ here))

pub apart_removed : (extents : Map Extent) (k : ℕ) → AreApart extents → AreApart (remove extents k)
apart_removed extents k apart a b word x y here there = apart a b word x y (removed_back extents k a x here).1 (removed_back extents k b y there).1

pub within_removed : (blocks : ℕ) (extents : Map Extent) (k : ℕ) → AreWithin blocks extents → AreWithin blocks (remove extents k)
within_removed blocks extents k within a x here = within a x (removed_back extents k a x here).1

pub apart_retained : (extents : Map Extent) (p : ℕ → Bool) → AreApart extents → AreApart (retain_keys extents p)
apart_retained extents p apart a b word x y here there = apart a b word x y (retained_back extents p a x here).1 (retained_back extents p b y there).1

pub within_retained : (blocks : ℕ) (extents : Map Extent) (p : ℕ → Bool) → AreWithin blocks extents → AreWithin blocks (retain_keys extents p)
within_retained blocks extents p within a x here = within a x (retained_back extents p a x here).1
