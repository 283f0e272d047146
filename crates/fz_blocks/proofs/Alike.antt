-- A block that changes and stays in the same sets.
use Rattle.std.proofs.Common.{◌≡◌, ◌≢◌, ℕ, ◌<◌, ◌≤◌, Bool, true, false, cond, not, ◌||◌, ◌&&◌, ◌==◌, nat_le, List, Some, slice_get, set, refl, sym, ap, ◌∙◌, subst, ⊎_elim, arith}
use Rattle.std.proofs.lemmas.Bool.{cases_Bool, cases_eq, cases_lt, eq-eqb, ne_eqb, eqb-true, and_left, and_from, and_parts, le-leb, both_ways, not-true, not_from_false}
use Rattle.std.proofs.lemmas.Option.{slice_get_within}
use Rattle.std.specs.Option.{option_map_or}
use Rattle.std.specs.FinSet.{contains}
use Rattle.fz_model.specs.declared.kinds.ObjKind.{ObjKind}
use Rattle.fz_model.specs.declared.kinds.ObjKind.TheVariants.{Scanned, Atomic}
use Rattle.fz_model.specs.Allocation.{same_kind}
use Rattle.fz_model.specs.Bits.{has_bit}
use Rattle.fz_model.proofs.Bits.{no_bits}
use Rattle.fz_blocks.specs.declared.block.Block.{Block}
use Rattle.fz_bits.specs.Flags.{Flagged}
use Rattle.fz_blocks.specs.Cells.{is_cell}
use Rattle.fz_blocks.specs.Blocks.{starts_at, is_bare, is_full, has_free_cell, has_same_room, IsAlike, Claims}
use Rattle.fz_blocks.specs.Layout.{has_room}
use Rattle.fz_blocks.specs.Listed.{AreListed, IsListedAlike}
use Rattle.fz_blocks.proofs.Bits.{cell_parts, same_test}
use Rattle.fz_blocks.proofs.Objects.{object_cell, same_bits, some_start, start_own}
use Rattle.fz_blocks.proofs.Listed.{changes_none, put_listed}

some_objects : (block : Block) (place : ℕ) → starts_at block place ≡ true → (block.objects == 0) ≡ false
some_objects block place on = ne_eqb block.objects 0 (λ none. both_ways _ (no_bits place) (ap (λ n. has_bit n place) (sym none) ∙ on))

-- a block of a cell longer than a block has no other, so it isn't unfull where it has an object
pub roomy : (block : Block) (place : ℕ) → starts_at block place ≡ true → is_full block ≡ false → has_free_cell block ≡ true
roomy block place on unfull =
    and_from (not (block.objects == 0)) _ (not_from_false _ (some_objects block place on)) (and_from (not (is_full block)) _ (not_from_false _ unfull) (le-leb block.size 64 small))
  where
    at_first : 64 < block.size → (p : ℕ) → is_cell block.size p ≡ true → p ≡ 0
    at_first long p cell = ⊎_elim (λ (is : p ≡ 0). is) (λ (ne : p ≢ 0). let fits = (cell_parts block.size p cell).1 ne in absurd (omega (arith, fits, long))) (cases_eq p 0)

    full : 64 < block.size → is_full block ≡ true
    full long =
        eq-eqb block.objects block.cells (same_bits block.objects block.cells (λ p.
        same_test _ _ (block.objects_are p) (λ cell. subst (λ q. starts_at block q ≡ true) (at_first long place (object_cell block place on) ∙ sym (at_first long p (sym (block.cells_are p) ∙ cell))) on)))

    small : block.size ≤ 64
    small = ⊎_elim (λ (long : 64 < block.size). absurd (both_ways _ unfull (full long))) (λ (le : block.size ≤ 64). le) (cases_lt 64 block.size)

pub roomy_unfull : (block : Block) → has_free_cell block ≡ true → is_full block ≡ false
roomy_unfull block on = not-true _ (and_parts (not (is_full block)) _ (and_parts (not (block.objects == 0)) _ on).1).0

pub roomy_own : (block : Block) → has_free_cell block ≡ true → block.back ≡ 0
roomy_own block on =
    ⊎_elim
    (λ (later : 0 < block.back). absurd (both_ways _ (not-true _ (and_parts (not (block.objects == 0)) _ on).0) (eq-eqb block.objects 0 (block.none_later later))))
    (λ (none : block.back ≤ 0). omega (arith, none))
    (cases_lt 0 block.back)

pub started_bare : (block : Block) (place : ℕ) → starts_at block place ≡ true → is_bare block ≡ false
started_bare block place on = and_left (block.objects == 0) (block.back == 0) (some_objects block place on)

module _ (old new : Block) where
  both_lack : has_free_cell old ≡ false → has_free_cell new ≡ false → has_same_room old new ≡ true
  both_lack off also =
      ap (λ t. cond t (has_free_cell new && ((old.size == new.size) && same_kind old.kind new.kind)) (not (has_free_cell new))) off
      ∙ not_from_false _ also

  module _ (alike : IsAlike old new) where
    both_have : has_free_cell old ≡ true → has_free_cell new ≡ true → has_same_room old new ≡ true
    both_have on also =
        ap (λ t. cond t (has_free_cell new && ((old.size == new.size) && same_kind old.kind new.kind)) (not (has_free_cell new))) on
        ∙ and_from (has_free_cell new) _ also (and_from (old.size == new.size) _ (eq-eqb old.size new.size (sym alike.size)) (subst (λ k. same_kind old.kind k ≡ true) (sym alike.kind) (itself old.kind)))
      where
        itself : (k : ObjKind) → same_kind k k ≡ true
        itself Scanned = refl
        itself Atomic = refl

    -- where the objects are the same
    module _ (objects : new.objects ≡ old.objects) where
      free_kept : has_free_cell new ≡ has_free_cell old
      free_kept =
          ap (λ n. not (n == 0) && (not (n == new.cells) && nat_le new.size 64)) objects
          ∙ ap (λ n. not (old.objects == 0) && (not (old.objects == n) && nat_le new.size 64)) alike.cells
          ∙ ap (λ n. not (old.objects == 0) && (not (old.objects == old.cells) && nat_le n 64)) alike.size

      pub kept_alike : (blocks : List Block) (at : ℕ) → slice_get blocks at ≡ Some old → IsListedAlike blocks at new
      kept_alike blocks at here = record {
        was = old;
        here = here;
        room = ⊎_elim (λ on. both_have on (free_kept ∙ on)) (λ off. both_lack off (free_kept ∙ off)) (cases_Bool (has_free_cell old));
        bare = sym (ap (λ n. (n == 0) && (new.back == 0)) objects ∙ ap (λ n. (old.objects == 0) && (n == 0)) alike.back);
      }

-- a cell is claimed
module _ (old new : Block) (place : ℕ) (claims : Claims old new place) where
  claimed_starts : starts_at new place ≡ true
  claimed_starts = claims.claimed place ∙ ap (λ t. t || starts_at old place) (eq-eqb place place refl)

  pub claimed_alike : has_free_cell old ≡ true → is_full new ≡ false → (blocks : List Block) (at : ℕ) → slice_get blocks at ≡ Some old → IsListedAlike blocks at new
  claimed_alike on unfull blocks at here = record {
    was = old;
    here = here;
    room = both_have old new claims.alike on (roomy new place claimed_starts unfull);
    bare = and_left (old.objects == 0) (old.back == 0) (not-true _ (and_parts (not (old.objects == 0)) _ on).0) ∙ sym (started_bare new place claimed_starts);
  }

-- an object is gone
module _ (old new : Block) (alike : IsAlike old new) (place : ℕ) (starts : starts_at old place ≡ true) (gone : starts_at new place ≡ false) where
  condemned_unfull : is_full new ≡ false
  condemned_unfull =
      ne_eqb new.objects new.cells (λ full. both_ways _ gone (ap (λ n. has_bit n place) (full ∙ alike.cells) ∙ old.objects_are place starts))

  -- where an object is left, there is room for another
  left_room : is_bare new ≡ false → has_free_cell new ≡ true
  left_room some = let left = some_start new (none_zero (new.objects == 0) refl) in roomy new left.0 left.1 condemned_unfull
    where
      own : old.back ≡ 0
      own = start_own old place starts

      none_zero : (t : Bool) → (new.objects == 0) ≡ t → (new.objects == 0) ≡ false
      none_zero true is = absurd (both_ways _ some (and_from (new.objects == 0) _ is (eq-eqb new.back 0 (alike.back ∙ own))))
      none_zero false is = is

  module _ (blocks : List Block) (at : ℕ) (here : slice_get blocks at ≡ Some old) where
    pub condemned_alike : (full bare : Bool) → full ≡ is_full old → bare ≡ is_bare new → (full || bare) ≡ false → IsListedAlike blocks at new
    condemned_alike full bare full_is bare_is stays =
        let parts = neither full bare stays in
        let some = sym bare_is ∙ parts.1 in
        record { was = old; here = here; room = both_have old new alike (roomy old place starts (sym full_is ∙ parts.0)) (left_room some); bare = started_bare old place starts ∙ sym some }
      where
        neither : (x y : Bool) → (x || y) ≡ false → (x ≡ false) × (y ≡ false)
        neither true y off = absurd (both_ways _ off refl)
        neither false y off = (refl, off)

-- ---- the sets

pub stays_listed : (blocks : List Block) (bare : Flagged) (rooms : List Flagged) → AreListed blocks bare rooms → (at : ℕ) (new : Block) → IsListedAlike blocks at new → AreListed (set blocks at new) bare rooms
stays_listed blocks bare rooms listed at new is =
    put_listed blocks bare bare rooms rooms at new listed (slice_get_within blocks at is.was is.here)
    (changes_none rooms at is.was new (λ class small. listed.rooms_are class at small ∙ ap (λ o. option_map_or (has_room class) o false) is.here) is.room)
    refl
    (λ b. stays b (b == at) refl)
  where
    stays : (b : ℕ) (t : Bool) → (b == at) ≡ t → contains bare.members b ≡ cond t (is_bare new) (contains bare.members b)
    stays b true same = ap (contains bare.members) (eqb-true b at same) ∙ listed.bare_are at ∙ ap (λ o. option_map_or is_bare o false) is.here ∙ is.bare
    stays b false other = refl
