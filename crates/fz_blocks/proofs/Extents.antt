-- The extents of a list of blocks: where they lie, that no two have one word, and which of them a word points to.
use Rattle.std.proofs.Common.{◌≡◌, ◌≢◌, ℕ, ◌+◌, ◌-◌, ◌*◌, ◌/◌, ◌%◌, ◌<◌, ◌≤◌, Bool, true, false, cond, List, length, Option, Some, None, option_and_then, slice_get, nat_lt, refl, sym, ap, ◌∙◌, subst, ⊎_elim, arith}
use Rattle.std.proofs.lemmas.Bool.{cond-true, cond-false, cases_eq, cases_lt, lt-ltb, le-ltb, ltb-false, both_ways}
use Rattle.std.proofs.lemmas.Option.{same_Some, none-some, slice_get_past, slice_get_within, cond_some}
use Rattle.std.specs.Cmp.{nat_cmp_total}
use Rattle.std.specs.FinMap.{get, same_map, nat_cmp-IsAntisymmetric}
use Rattle.fz_model.specs.declared.extent.Extent.{Extent}
use Rattle.fz_model.specs.Extents.{covers, points_in, AreApart, AreWithin}
use Rattle.fz_model.specs.Allocation.{block_start}
use Rattle.fz_model.specs.State.{Map}
use Rattle.fz_model.proofs.Objects.{from_covers, to_covers, points_at, points_nowhere}
use Rattle.fz_blocks.specs.declared.block.Block.{Block}
use Rattle.fz_blocks.specs.Blocks.{starts_at, extent_of, extent_in, IsCellOf}
use Rattle.fz_blocks.specs.Layout.{extent_at, extents_in, IsLater, AreRuns}
use Rattle.fz_blocks.proofs.Tabulating.{get-tabulated}
use Rattle.fz_blocks.proofs.Bits.{cell_parts}
use Rattle.fz_blocks.proofs.Objects.{object_cell, long_first, start_within, one_start, none_in_later}

-- what holds below the heap, and at each place of each block, holds at each address
pub by_place : (P : ℕ → Type 0) → ((a : ℕ) → a < 65536 → P a) → ((b p : ℕ) → p < 64 → P (block_start b + p)) → (a : ℕ) → P a
by_place P low high a =
    ⊎_elim (low a)
    (λ (ge : 65536 ≤ a). let at : block_start ((a - 65536) / 64) + (a - 65536) % 64 ≡ a = omega (arith, ge) in subst P at (high ((a - 65536) / 64) ((a - 65536) % 64) (omega arith)))
    (cases_lt a 65536)

module _ (blocks : List Block) where
  -- an address by its block and its place there
  pub opened : (b p : ℕ) → p < 64 → extent_at blocks (block_start b + p) ≡ option_and_then (extent_in p) (slice_get blocks b)
  opened b p small =
      let block_is : (block_start b + p - 65536) / 64 ≡ b = omega (arith, small) in
      let place_is : (block_start b + p - 65536) % 64 ≡ p = omega (arith, small) in
      cond-false (nat_lt (block_start b + p) 65536) None _ (le-ltb (block_start b + p) 65536 (omega arith))
      ∙ ap (λ q. option_and_then (extent_in q) (slice_get blocks ((block_start b + p - 65536) / 64))) place_is
      ∙ ap (λ c. option_and_then (extent_in p) (slice_get blocks c)) block_is

  pub get-extents_in : (a : ℕ) → get (extents_in blocks) a ≡ extent_at blocks a
  get-extents_in a =
      get-tabulated (extent_at blocks) (65536 + 64 * length blocks) a
      ∙ ⊎_elim
      (λ (lt : a < 65536 + 64 * length blocks). cond-true (nat_lt a (65536 + 64 * length blocks)) (extent_at blocks a) None (lt-ltb a (65536 + 64 * length blocks) lt))
      (λ (past : 65536 + 64 * length blocks ≤ a).
      cond-false (nat_lt a (65536 + 64 * length blocks)) (extent_at blocks a) None (le-ltb a (65536 + 64 * length blocks) past)
      ∙ sym (cond-false (nat_lt a 65536) None (option_and_then (extent_in ((a - 65536) % 64)) (slice_get blocks ((a - 65536) / 64))) (le-ltb a 65536 (omega arith))
      ∙ ap (option_and_then (extent_in ((a - 65536) % 64))) (slice_get_past blocks ((a - 65536) / 64) (omega arith))))
      (cases_lt a (65536 + 64 * length blocks))

  pub low_extent : (a : ℕ) → a < 65536 → get (extents_in blocks) a ≡ None
  low_extent a low = get-extents_in a ∙ cond-true (nat_lt a 65536) None _ (lt-ltb a 65536 low)

  pub get-place : (b p : ℕ) → p < 64 → get (extents_in blocks) (block_start b + p) ≡ option_and_then (extent_in p) (slice_get blocks b)
  get-place b p small = get-extents_in (block_start b + p) ∙ opened b p small

  -- a map that has just the objects of the blocks
  pub extents_are : (m : Map Extent) → ((a : ℕ) → a < 65536 → get m a ≡ None) → ((b p : ℕ) → p < 64 → get m (block_start b + p) ≡ option_and_then (extent_in p) (slice_get blocks b)) → extents_in blocks ≡ m
  extents_are m low high =
      same_map nat_cmp_total nat_cmp-IsAntisymmetric _ _
      (by_place (λ a. get (extents_in blocks) a ≡ get m a) (λ a lt. low_extent a lt ∙ sym (low a lt)) (λ b p small. get-place b p small ∙ sym (high b p small)))

  -- an extent, by its block and its place there
  pub record IsAt (a : ℕ) (x : Extent) : Type 0 where
    pub block : ℕ
    pub inside : Block
    pub here : slice_get blocks block ≡ Some inside
    pub place : ℕ
    pub small : place < 64
    pub starts : starts_at inside place ≡ true
    pub at : a ≡ block_start block + place
    pub is : extent_of inside ≡ x

  pub extent_is_at : (a : ℕ) (x : Extent) → get (extents_in blocks) a ≡ Some x → IsAt a x
  extent_is_at a x e = low (nat_lt a 65536) refl (sym (get-extents_in a) ∙ e)
    where
      inside : (o : Option Block) → slice_get blocks ((a - 65536) / 64) ≡ o → 65536 ≤ a → option_and_then (extent_in ((a - 65536) % 64)) o ≡ Some x → IsAt a x
      inside None here high e = absurd (none-some x e)
      inside (Some block) here high e =
          let one = cond_some (starts_at block ((a - 65536) % 64)) (extent_of block) x e in
          record { block = (a - 65536) / 64; inside = block; here = here; place = (a - 65536) % 64; small = omega arith; starts = one.0; at = omega (arith, high); is = one.1 }

      low : (t : Bool) → nat_lt a 65536 ≡ t → cond t None (option_and_then (extent_in ((a - 65536) % 64)) (slice_get blocks ((a - 65536) / 64))) ≡ Some x → IsAt a x
      low true is e = absurd (none-some x e)
      low false is e = inside (slice_get blocks ((a - 65536) / 64)) refl (ltb-false a 65536 is) e

  pub extent_here : (b p : ℕ) (block : Block) → slice_get blocks b ≡ Some block → starts_at block p ≡ true → get (extents_in blocks) (block_start b + p) ≡ Some (extent_of block)
  extent_here b p block here on =
      get-place b p (start_within block p on) ∙ ap (option_and_then (extent_in p)) here ∙ cond-true (starts_at block p) (Some (extent_of block)) None on

  -- where an extent that has the word starts, by the word alone: in the word's block, or as far back as that block says
  pub data IsFound (w a : ℕ) : Type 0 where
    Here : (block : Block) → slice_get blocks ((w - 65536) / 64) ≡ Some block → (start : ℕ) → IsCellOf block ((w - 65536) % 64) start → a ≡ w - (w - 65536) % 64 + start → IsFound w a
    Back : (later : Block) → slice_get blocks ((w - 65536) / 64) ≡ Some later → 0 < later.back → a ≡ w - (w - 65536) % 64 - 64 * later.back → IsFound w a

  found_once : (w a c : ℕ) → IsFound w a → IsFound w c → a ≡ c
  found_once w a c (Here block here start in_cell at) (Here other there next in_next also) =
      let same = same_Some block other (sym here ∙ there) in
      let starts : start ≡ next = one_start other ((w - 65536) % 64) start next (subst (λ k. IsCellOf k ((w - 65536) % 64) start) same in_cell) in_next in
      omega (arith, at, also, starts)
  found_once w a c (Here block here start in_cell at) (Back later there some also) =
      absurd (both_ways _ (none_in_later later some start) (subst (λ k. starts_at k start ≡ true) (same_Some block later (sym here ∙ there)) in_cell.starts))
  found_once w a c (Back later there some also) (Here block here start in_cell at) =
      absurd (both_ways _ (none_in_later later some start) (subst (λ k. starts_at k start ≡ true) (same_Some block later (sym here ∙ there)) in_cell.starts))
  found_once w a c (Back later here some at) (Back other there more also) =
      let same : later.back ≡ other.back = ap (λ (k : Block). k.back) (same_Some later other (sym here ∙ there)) in
      omega (arith, at, also, same)

  module _ (runs : AreRuns blocks) where
    pub covered : (a w : ℕ) (x : Extent) → get (extents_in blocks) a ≡ Some x → covers (a, x) w ≡ true → (65536 ≤ w) × IsFound w a
    covered a w x there has =
        let at = extent_is_at a x there in
        let start = at.at in
        let extent = from_covers a w x has in
        let size : at.inside.size ≡ x.size = ap (λ (x : Extent). x.size) at.is in
        let low = extent.0 in
        let high = extent.1 in
        let small = at.small in
        ⊎_elim
        (λ (same : (w - 65536) / 64 ≡ at.block). (omega (arith, start, low), Here at.inside (ap (slice_get blocks) same ∙ at.here) at.place (record { starts = at.starts; first = omega (arith, start, low, same, small); inside = omega (arith, start, low, high, size, same, small) }) (omega (arith, start, low, same))))
        (λ (ne : (w - 65536) / 64 ≢ at.block).
        let first = long_first at.inside at.place at.starts (omega (arith, start, low, high, size, small, ne)) in
        let k : (w - 65536) / 64 ≡ at.block + ((w - 65536) / 64 - at.block) = omega (arith, start, low, ne, small) in
        let later = runs.ahead at.block ((w - 65536) / 64 - at.block) at.inside at.here (subst (λ p. starts_at at.inside p ≡ true) first at.starts) (omega (arith, start, low, ne, small)) (omega (arith, start, low, high, size, first, ne)) in
        let back = later.2 in
        (omega (arith, start, low), Back later.0 (ap (slice_get blocks) k ∙ later.1) (omega (arith, back, start, low, ne, small)) (omega (arith, back, start, low, first, k))))
        (cases_eq ((w - 65536) / 64) at.block)

    pub apart : AreApart (extents_in blocks)
    apart a b w x y here there has also = found_once w a b (covered a w x here has).1 (covered b w y there also).1

    pub within : AreWithin (length blocks) (extents_in blocks)
    within a x there =
        let at = extent_is_at a x there in
        let start = at.at in
        let size : at.inside.size ≡ x.size = ap (λ (x : Extent). x.size) at.is in
        let sized = at.inside.sized in
        let in_list = slice_get_within blocks at.block at.inside at.here in (
          omega (arith, start),
          omega (arith, size, sized),
          ⊎_elim
              (λ (is : at.place ≡ 0). reach at is (omega (arith, size, sized)))
              (λ (ne : at.place ≢ 0). let fits = (cell_parts at.inside.size at.place (object_cell at.inside at.place at.starts)).1 ne in omega (arith, fits, start, size, in_list))
              (cases_eq at.place 0),
        )
      where
        reach : (at : IsAt a x) → at.place ≡ 0 → 1 ≤ x.size → a + x.size ≤ 65536 + 64 * length blocks
        reach at is some =
            let start = at.at in
            let size : at.inside.size ≡ x.size = ap (λ (x : Extent). x.size) at.is in
            let in_list = slice_get_within blocks at.block at.inside at.here in
            ⊎_elim
            (λ (short : x.size < 65). omega (arith, short, start, in_list, is))
            (λ (long : 65 ≤ x.size).
            let last = runs.ahead at.block ((x.size - 1) / 64) at.inside at.here (subst (λ p. starts_at at.inside p ≡ true) is at.starts) (omega (arith, long)) (omega (arith, size, long)) in
            let last_in = slice_get_within blocks (at.block + (x.size - 1) / 64) last.0 last.1 in
            omega (arith, last_in, start, is))
            (cases_lt x.size 65)

    -- ---- what a word points to

    pub points_low : (w : ℕ) → w < 65536 → points_in (extents_in blocks) w ≡ None
    points_low w low = points_nowhere (extents_in blocks) w (λ a x here has. let high = (covered a w x here has).0 in omega (arith, high, low))

    -- by the word's offset in the heap, as the code has it
    module _ (w o : ℕ) (high : 65536 ≤ w) (is : o ≡ w - 65536) where
      pub points_past : slice_get blocks (o / 64) ≡ None → points_in (extents_in blocks) w ≡ None
      points_past past = points_nowhere (extents_in blocks) w (λ a x here has. nothing a (covered a w x here has).1)
        where
          at : slice_get blocks ((w - 65536) / 64) ≡ None
          at = subst (λ o. slice_get blocks (o / 64) ≡ None) is past

          nothing : (a : ℕ) → IsFound w a → ⊥
          nothing a (Here block here start in_cell e) = none-some block (sym at ∙ here)
          nothing a (Back later here some e) = none-some later (sym at ∙ here)

      module _ (block : Block) (here : slice_get blocks (o / 64) ≡ Some block) where
        at : slice_get blocks ((w - 65536) / 64) ≡ Some block
        at = subst (λ o. slice_get blocks (o / 64) ≡ Some block) is here

        -- in the word's block
        pub points_here : (start : ℕ) → IsCellOf block (o % 64) start → (points_in (extents_in blocks) w ≡ Some (w - o % 64 + start)) × (get (extents_in blocks) (w - o % 64 + start) ≡ Some (extent_of block))
        points_here start in_cell =
            let low = in_cell.first in
            let inside = in_cell.inside in
            let address : block_start (o / 64) + start ≡ w - o % 64 + start = omega (arith, high, is) in
            let there = subst (λ a. get (extents_in blocks) a ≡ Some (extent_of block)) address (extent_here (o / 64) start block here in_cell.starts) in
            (points_at (extents_in blocks) apart (w - o % 64 + start) w (extent_of block) there (to_covers (w - o % 64 + start) w (extent_of block) (omega (arith, high, is, low)) (omega (arith, high, is, inside))), there)

        -- no extent that starts in the word's block has the word
        not_here : (a : ℕ) → ((start : ℕ) → starts_at block start ≡ true → start ≤ o % 64 → start + block.size ≤ o % 64) → IsFound w a → (0 < block.back) × (a ≡ w - o % 64 - 64 * block.back)
        not_here a none (Here other there start in_cell e) =
            let same = same_Some other block (sym there ∙ at) in
            let cell = subst (λ k. IsCellOf k ((w - 65536) % 64) start) same in_cell in
            let first = cell.first in
            let inside = cell.inside in
            let far = none start cell.starts (omega (arith, first, is)) in
            absurd (omega (arith, far, inside, is))
        not_here a none (Back later there some e) =
            let same : later.back ≡ block.back = ap (λ (k : Block). k.back) (same_Some later block (sym there ∙ at)) in
            (omega (arith, some, same), omega (arith, e, same, is))

        module _ (none : (start : ℕ) → starts_at block start ≡ true → start ≤ o % 64 → start + block.size ≤ o % 64) where
          pub points_free : block.back ≡ 0 → points_in (extents_in blocks) w ≡ None
          points_free own = points_nowhere (extents_in blocks) w (λ a x there has. let at = not_here a none (covered a w x there has).1 in let some = at.0 in omega (arith, some, own))

          module _ (later : block.back ≢ 0) (first : Block) (there : slice_get blocks (o / 64 - block.back) ≡ Some first) where
            run : IsLater blocks (o / 64) block.back
            run = runs.behind (o / 64) block here (omega (arith, later))

            starts : starts_at first 0 ≡ true
            starts = subst (λ k. starts_at k 0 ≡ true) (same_Some run.first first (sym run.here ∙ there)) run.starts

            there_extent : get (extents_in blocks) (w - o % 64 - 64 * block.back) ≡ Some (extent_of first)
            there_extent =
                let low = run.within in
                let address : block_start (o / 64 - block.back) + 0 ≡ w - o % 64 - 64 * block.back = omega (arith, high, is, low) in
                subst (λ a. get (extents_in blocks) a ≡ Some (extent_of first)) address (extent_here (o / 64 - block.back) 0 first there starts)

            -- in a run that began before the word's block
            pub points_back : w - (w - o % 64 - 64 * block.back) < first.size → (points_in (extents_in blocks) w ≡ Some (w - o % 64 - 64 * block.back)) × (get (extents_in blocks) (w - o % 64 - 64 * block.back) ≡ Some (extent_of first))
            points_back lt =
                (points_at (extents_in blocks) apart (w - o % 64 - 64 * block.back) w (extent_of first) there_extent (to_covers (w - o % 64 - 64 * block.back) w (extent_of first) (omega arith) (omega (arith, lt))), there_extent)

            -- in the rest of its last block
            pub points_rest : first.size ≤ w - (w - o % 64 - 64 * block.back) → points_in (extents_in blocks) w ≡ None
            points_rest ge = points_nowhere (extents_in blocks) w (λ a x here has.
                let at = not_here a none (covered a w x here has).1 in
                let same : extent_of first ≡ x = same_Some _ _ (sym there_extent ∙ subst (λ a. get (extents_in blocks) a ≡ Some x) at.1 here) in
                let size : first.size ≡ x.size = ap (λ (x : Extent). x.size) same in
                let extent = from_covers a w x has in
                let start = at.1 in
                let end = extent.1 in
                omega (arith, ge, size, start, end))
