-- A claim in a block with room, and in a run of bare ones.
use Rattle.std.proofs.Common.{suc, zero, Bool, ◌≢◌, ◌-◌, ◌≡◌, ℕ, ◌+◌, ◌%◌, ◌<◌, ◌≤◌, true, false, not, ◌||◌, ◌&&◌, ◌==◌, nat_le, List, length, set, Some, None, slice_get, refl, sym, ap, ◌∙◌, subst, ⊎_elim, arith, length-set}
use Rattle.std.proofs.Math.Nat.{zero-mod}
use Rattle.std.proofs.lemmas.Bool.{cases_eq, cases_Bool, cases_lt, and_parts, and_from, eq-eqb, eqb-true, eqb-false, leb-true, le-leb, both_ways, not-true}
use Rattle.std.proofs.lemmas.Option.{same_Some, slice_get_within}
use Rattle.std.specs.FinMap.{insert}
use Rattle.std.specs.List.{list_all, range_with_len}
use Rattle.fz_model.specs.declared.kinds.ObjKind.{ObjKind}
use Rattle.fz_model.specs.Allocation as allocation
use Rattle.fz_model.specs.Allocation.{block_start, block_of, has_run, blocks_for, place_in}
use Rattle.fz_blocks.specs.declared.block.Block.{Block}
use Rattle.fz_model.specs.Bits.{has_bit}
use Rattle.fz_blocks.specs.Classes.{class_of}
use Rattle.fz_blocks.specs.Cells.{is_cell}
use Rattle.fz_blocks.specs.Blocks.{starts_at, is_full, extent_of, Claims}
use Rattle.fz_blocks.specs.Layout.{extents_in, condemned_in, has_room, AreRuns}
use Rattle.fz_blocks.specs.Claimed.{swept}
use Rattle.fz_blocks.specs.Runs.{IsRun, IsFirstRun, TakesRun, WritesRun}
use Rattle.fz_blocks.specs.Listed.{IsFirst}
use Rattle.fz_blocks.specs.Claims.{IsClaimed}
use Rattle.fz_blocks.proofs.Bits.{cell_fits}
use Rattle.fz_model.proofs.Bits.{no_bits}
use Rattle.fz_blocks.proofs.Condemned.{swept_is}
use Rattle.fz_blocks.proofs.Places.{one_class, no_place, place_in_room, place_in_run, no_room, no_cells, is_bare-block, item_at, IsNowhere}
use Rattle.fz_blocks.proofs.Runs.{run_runs, run_extents}
use Rattle.fz_blocks.proofs.Listed.{slice_get-set_same, slice_get-set_other}
use Rattle.fz_blocks.proofs.Changes.{claim_extents, same_runs}

module _ (blocks now : List Block) (runs : AreRuns blocks) (size : ℕ) (kind : ObjKind) (sized : 1 ≤ size) (small : size ≤ 64) (at place : ℕ) (old new : Block) (claims : Claims old new place) (is : now ≡ set blocks at new) where
  pub room_claimed : slice_get blocks at ≡ Some old → IsFirst (has_room (class_of size kind)) blocks at → IsClaimed blocks now size kind (block_start at + place)
  room_claimed here first = record {
    long = ap length is ∙ length-set blocks at new;
    runs = subst AreRuns (sym is) (same_runs blocks at old new here runs own (λ _. short) (claims.alike.back ∙ own) (λ _. let same = claims.alike.size in omega (arith, same, short)));
    place = place_in_room blocks runs size kind sized small at place old here room first.before claims.cell claims.free claims.least;
    extents = ap extents_in is ∙ claim_extents blocks at old new here place claims ∙ ap (λ x. insert (extents_in blocks) (block_start at + place) x) extent;
    swept =
        let fits = cell_fits old.size place old.sized claims.cell in
        let block_is : block_of (block_start at + place) ≡ at = omega (arith, fits) in
        let one_block : blocks_for size ≡ 1 = omega (arith, sized, small) in
        swept_is blocks now at 1 (λ c out. ap (λ bs. slice_get bs c) is ∙ slice_get-set_other blocks at c new (λ same. ⊎_elim (λ less. omega (arith, same, less)) (λ past. omega (arith, same, past)) out))
        (λ c block low high there.
        let c_is : c ≡ at = omega (arith, low, high) in
        ap (λ (k : Block). k.condemned) (same_Some block new (sym there ∙ ap (λ bs. slice_get bs c) is ∙ ap (slice_get (set blocks at new)) c_is ∙ slice_get-set_same blocks at new lt)) ∙ claims.swept)
        ∙ ap (λ n. swept (condemned_in blocks) at n) (sym one_block) ∙ ap (λ b. swept (condemned_in blocks) b (blocks_for size)) (sym block_is);
  }
    where
      lt : at < length blocks
      lt = slice_get_within blocks at old here

      room : has_room (class_of size kind) old ≡ true
      room = subst (λ k. has_room (class_of size kind) k ≡ true) (same_Some first.block old (sym first.here ∙ here)) first.passes

      parts : (not (old.objects == 0) ≡ true) × ((not (is_full old) && (nat_le old.size 64 && class_of old.size old.kind == class_of size kind)) ≡ true)
      parts = and_parts (not (old.objects == 0)) _ room

      tests : (nat_le old.size 64 ≡ true) × ((class_of old.size old.kind == class_of size kind) ≡ true)
      tests = and_parts (nat_le old.size 64) _ (and_parts (not (is_full old)) _ parts.1).1

      short : old.size ≤ 64
      short = leb-true old.size 64 tests.0

      class_is : (old.size ≡ size) × (old.kind ≡ kind)
      class_is = one_class old.size size old.kind kind old.sized short sized small (eqb-true _ _ tests.1)

      own : old.back ≡ 0
      own = ⊎_elim (λ (later : 0 < old.back). absurd (eqb-false old.objects 0 (not-true _ parts.0) (old.none_later later))) (λ (none : old.back ≤ 0). omega (arith, none)) (cases_lt 0 old.back)

      extent : extent_of old ≡ record { size = size; kind = kind }
      extent = ap (λ n. record { size = n; kind = old.kind }) class_is.0 ∙ ap (λ k. record { size = size; kind = k }) class_is.1

-- ---- runs of bare blocks

all_from : (p : ℕ → Bool) (a n : ℕ) → ((i : ℕ) → a ≤ i → i < a + n → p i ≡ true) → list_all p (range_with_len a n) ≡ true
all_from p a zero on = refl
all_from p a (suc n) on = and_from (p a) (list_all p (range_with_len (a + 1) n)) (on a (omega arith) (omega arith)) (all_from p (a + 1) n (λ i low lt. on i (omega arith) (omega (arith, lt))))

all_to : (p : ℕ → Bool) (a n : ℕ) → list_all p (range_with_len a n) ≡ true → (i : ℕ) → a ≤ i → i < a + n → p i ≡ true
all_to p a zero on i low lt = absurd (omega (arith, low, lt))
all_to p a (suc n) on i low lt =
    let parts = and_parts (p a) (list_all p (range_with_len (a + 1) n)) on in
    ⊎_elim (λ (is : i ≡ a). ap p is ∙ parts.0) (λ (ne : i ≢ a). all_to p (a + 1) n parts.1 i (omega (arith, low, ne)) (omega (arith, lt))) (cases_eq i a)

pub run_within : (blocks : List Block) (count b : ℕ) → 1 ≤ count → IsRun blocks count b → b + count ≤ length blocks
run_within blocks count b some run =
    let last = run (count - 1) (omega (arith, some)) in
    let within = slice_get_within blocks (b + (count - 1)) last.0 last.1 in
    omega (arith, within, some)

module _ (blocks : List Block) (runs : AreRuns blocks) (count : ℕ) (some : 1 ≤ count) where
  run_is : (b : ℕ) → IsRun blocks count b → has_run (extents_in blocks) (length blocks) count b ≡ true
  run_is b run =
      and_from (nat_le (b + count) (length blocks)) _ (le-leb (b + count) (length blocks) (run_within blocks count b some run))
      (all_from (allocation.is_bare (extents_in blocks)) b count (λ i low lt.
      let one = run (i - b) (omega (arith, low, lt)) in
      let at : b + (i - b) ≡ i = omega (arith, low) in
      is_bare-block blocks runs i one.0 (ap (slice_get blocks) (sym at) ∙ one.1) ∙ one.2))

  is_run : (b : ℕ) → has_run (extents_in blocks) (length blocks) count b ≡ true → IsRun blocks count b
  is_run b on k lt =
      let parts = and_parts (nat_le (b + count) (length blocks)) (list_all (allocation.is_bare (extents_in blocks)) (range_with_len b count)) on in
      let within = leb-true (b + count) (length blocks) parts.0 in
      let found = item_at blocks (b + k) (omega (arith, within, lt)) in
      (found.0, found.1, sym (is_bare-block blocks runs (b + k) found.0 found.1) ∙ all_to (allocation.is_bare (extents_in blocks)) b count parts.1 (b + k) (omega arith) (omega (arith, lt)))

  no_run : (b : ℕ) → (IsRun blocks count b → ⊥) → has_run (extents_in blocks) (length blocks) count b ≡ false
  no_run b none = ⊎_elim (λ on. absurd (none (is_run b on))) (λ off. off) (cases_Bool (has_run (extents_in blocks) (length blocks) count b))

module _ (blocks : List Block) (runs : AreRuns blocks) (size : ℕ) (kind : ObjKind) (sized : 1 ≤ size) (no_rooms : size ≤ 64 → (b : ℕ) (block : Block) → slice_get blocks b ≡ Some block → has_room (class_of size kind) block ≡ false) where
  no_cell : IsNowhere blocks runs size kind sized
  no_cell = ⊎_elim (λ (short : size < 65). let small : size ≤ 64 = omega (arith, short) in no_room blocks runs size kind sized small (no_rooms small)) (λ (long : 65 ≤ size). no_cells blocks runs size kind sized (omega (arith, long))) (cases_lt size 65)

  pub nowhere : ((b : ℕ) → IsRun blocks (blocks_for size) b → ⊥) → place_in (extents_in blocks) (length blocks) size kind ≡ None
  nowhere none = no_place blocks runs size kind sized no_cell (λ b. no_run blocks runs (blocks_for size) (omega arith) b (none b))

  module _ (now : List Block) (at place : ℕ) (old new : Block) (claims : Claims old new place) (none : old.objects ≡ 0) (own : old.back ≡ 0) (size_is : old.size ≡ size) (kind_is : old.kind ≡ kind) (first : IsFirstRun blocks (blocks_for size) at) (writes : WritesRun blocks now at (blocks_for size) new) where
    bits_none : (p : ℕ) → starts_at old p ≡ false
    bits_none p = ap (λ n. has_bit n p) none ∙ no_bits p

    first_cell : is_cell old.size 0 ≡ true
    first_cell = and_from (0 % old.size == 0) true (eq-eqb (0 % old.size) 0 (zero-mod old.size)) refl

    zero_place : place ≡ 0
    zero_place = ⊎_elim (λ (more : 0 < place). absurd (both_ways _ (bits_none 0) (claims.least 0 more first_cell))) (λ (le : place ≤ 0). omega (arith, le)) (cases_lt 0 place)

    extent : extent_of new ≡ record { size = size; kind = kind }
    extent = ap (λ n. record { size = n; kind = new.kind }) (claims.alike.size ∙ size_is) ∙ ap (λ k. record { size = size; kind = k }) (claims.alike.kind ∙ kind_is)

    takes : TakesRun blocks now at (blocks_for size) new
    takes = record {
      long = writes.long;
      bare = first.run;
      here = writes.here;
      one = λ p. claims.claimed p ∙ ap (λ t. (p == place) || t) (bits_none p) ∙ ap (λ n. (p == n) || false) zero_place ∙ elim (p == 0) as (λ t. (t || false) ≡ t) [ true ↦ refl | false ↦ refl ];
      own = claims.alike.back ∙ own;
      enough = let same = claims.alike.size in omega (arith, same, size_is);
      few = let same = claims.alike.size in omega (arith, same, size_is, sized);
      later = writes.later;
      others = writes.others;
    }

    clean : (c : ℕ) (block : Block) → at ≤ c → c < at + blocks_for size → slice_get now c ≡ Some block → block.condemned ≡ 0
    clean c block low high here =
        ⊎_elim
        (λ (is : c ≡ at). ap (λ (k : Block). k.condemned) (same_Some block new (sym here ∙ ap (slice_get now) is ∙ writes.here)) ∙ claims.swept)
        (λ (ne : c ≢ at).
        let later = writes.later (c - at) (omega (arith, low, ne)) (omega (arith, low, high)) in
        let c_is : at + (c - at) ≡ c = omega (arith, low) in
        ap (λ (k : Block). k.condemned) (same_Some block later.0 (sym here ∙ ap (slice_get now) (sym c_is) ∙ later.1)) ∙ later.3)
        (cases_eq c at)

    pub run_claimed : IsClaimed blocks now size kind (block_start at)
    run_claimed = record {
      long = writes.long;
      runs = run_runs blocks now at (blocks_for size) new takes runs;
      place =
          let start = first.run 0 (omega arith) in
          let at_is : at + 0 ≡ at = omega arith in
          let within = slice_get_within blocks (at + 0) start.0 start.1 in
          place_in_run blocks runs size kind sized no_cell at (omega (arith, within)) (run_is blocks runs (blocks_for size) (omega arith) at first.run) (λ c less. no_run blocks runs (blocks_for size) (omega arith) c (first.before c less));
      extents = run_extents blocks now at (blocks_for size) new takes ∙ ap (λ x. insert (extents_in blocks) (block_start at) x) extent;
      swept = let block_is : block_of (block_start at) ≡ at = omega arith in swept_is blocks now at (blocks_for size) writes.others clean ∙ ap (λ b. swept (condemned_in blocks) b (blocks_for size)) (sym block_is);
    }
