-- Objects: their kinds, their extents, and which of them a word points to.
use Rattle.std.proofs.Common.{◌≡◌, ℕ, ◌+◌, ◌<◌, ◌≤◌, true, Option, Some, None, option_map, nat_le, nat_lt, refl, ap, ◌∙◌, subst}
use Rattle.std.proofs.lemmas.Bool.{and_parts, and_from, leb-true, ltb-true, le-leb, lt-ltb, both_ways}
use Rattle.std.proofs.lemmas.Option.{same_Some, none-some}
use Rattle.std.specs.List.{find}
use Rattle.std.specs.FinMap.{get, entries}
use Rattle.fz_model.specs.declared.kinds.ObjKind.{ObjKind}
use Rattle.fz_model.specs.declared.kinds.ObjKind.TheVariants.{Scanned, Atomic}
use Rattle.fz_model.specs.State.{Map}
use Rattle.fz_model.specs.declared.extent.Extent.{Extent}
use Rattle.fz_model.specs.Extents.{covers, points_in, extents, AreApart}
use Rattle.fz_model.specs.Allocation.{same_kind}
use Rattle.fz_model.proofs.Lists.{find_place, found_some}
use Rattle.fz_model.proofs.MapEntries.{get_at, place_of_key}

-- ---- kinds

pub kind_itself : (k : ObjKind) → same_kind k k ≡ true
kind_itself Scanned = refl
kind_itself Atomic = refl

pub kinds_same : (k l : ObjKind) → same_kind k l ≡ true → k ≡ l
kinds_same Scanned Scanned e = refl
kinds_same Scanned Atomic e = absurd (both_ways _ refl e)
kinds_same Atomic Scanned e = absurd (both_ways _ refl e)
kinds_same Atomic Atomic e = refl

-- ---- extents

pub from_covers : (a w : ℕ) (x : Extent) → covers (a, x) w ≡ true → (a ≤ w) × (w < a + x.size)
from_covers a w x e =
    let parts = and_parts (nat_le a w) (nat_lt w (a + x.size)) e in
    (leb-true a w parts.0, ltb-true w (a + x.size) parts.1)

pub to_covers : (a w : ℕ) (x : Extent) → a ≤ w → w < a + x.size → covers (a, x) w ≡ true
to_covers a w x low high = and_from (nat_le a w) (nat_lt w (a + x.size)) (le-leb a w low) (lt-ltb w (a + x.size) high)

-- ---- what a word points to

-- it has the word,
pub points_target : (extents : Map Extent) (w a : ℕ) → points_in extents w ≡ Some a → (x : Extent) × (get extents a ≡ Some x) × (covers (a, x) w ≡ true)
points_target extents w a e = found (find (λ e. covers e w) (entries extents)) refl e
  where
    found : (f : Option (ℕ × Extent)) → find (λ e. covers e w) (entries extents) ≡ f → option_map (λ (e : ℕ × Extent). e.0) f ≡ Some a → (x : Extent) × (get extents a ≡ Some x) × (covers (a, x) w ≡ true)
    found None is e = absurd (none-some a e)
    found (Some f) is e =
        let place = find_place (λ e. covers e w) (entries extents) f is in
        let start = same_Some f.0 a e in
        (f.1, subst (λ s. get extents s ≡ Some f.1) start (get_at extents place.0 f place.1), subst (λ s. covers (s, f.1) w ≡ true) start place.2)

-- and where no two have one word, the one that has the word is it
pub points_at : (extents : Map Extent) → AreApart extents → (a w : ℕ) (x : Extent) → get extents a ≡ Some x → covers (a, x) w ≡ true → points_in extents w ≡ Some a
points_at extents apart a w x here has =
    let at = place_of_key extents a x here in
    let found = found_some (λ e. covers e w) (entries extents) at.0 (a, x) at.1 has in
    let place = find_place (λ e. covers e w) (entries extents) found.0 found.1 in
    ap (option_map (λ (e : ℕ × Extent). e.0)) found.1 ∙ ap Some (apart found.0.0 a w found.0.1 x (get_at extents place.0 found.0 place.1) here place.2 has)

-- nothing has it
pub points_nowhere : (extents : Map Extent) (w : ℕ) → ((a : ℕ) (x : Extent) → get extents a ≡ Some x → covers (a, x) w ≡ true → ⊥) → points_in extents w ≡ None
points_nowhere extents w none = at (points_in extents w) refl
  where
    at : (p : Option ℕ) → points_in extents w ≡ p → p ≡ None
    at None is = refl
    at (Some a) is = let target = points_target extents w a is in absurd (none a target.0 target.1 target.2)
