-- What one changed block does to the extents and to the runs.
use Rattle.std.proofs.Common.{◌≡◌, ◌≢◌, ℕ, ◌+◌, ◌-◌, ◌*◌, ◌/◌, ◌%◌, ◌<◌, ◌≤◌, Bool, true, false, cond, not, ◌||◌, ◌&&◌, ◌==◌, List, length, set, Option, Some, None, option_and_then, slice_get, refl, sym, ap, ◌∙◌, subst, ⊎_elim, arith}
use Rattle.std.proofs.lemmas.Bool.{cond-true, cases_eq, eq-eqb, ne_eqb}
use Rattle.std.proofs.lemmas.Option.{same_Some, slice_get_within}
use Rattle.std.specs.FinMap.{get, insert, retain_keys}
use Rattle.fz_model.specs.declared.extent.Extent.{Extent}
use Rattle.fz_model.specs.Allocation.{block_start}
use Rattle.fz_model.specs.Bits.{has_bit}
use Rattle.fz_model.specs.State.{Map}
use Rattle.fz_model.proofs.Maps.{get-insert_same, get-insert_other, get-retain}
use Rattle.fz_blocks.specs.declared.block.Block.{Block}
use Rattle.fz_blocks.specs.Blocks.{starts_at, extent_of, extent_in, IsAlike, Claims, CondemnsAll}
use Rattle.fz_blocks.specs.Claimed.{stands_at}
use Rattle.fz_blocks.specs.Layout.{extents_in, IsLater, AreRuns}
use Rattle.fz_blocks.proofs.Bits.{cell_fits}
use Rattle.fz_blocks.proofs.Extents.{low_extent, get-place, extents_are}
use Rattle.fz_blocks.proofs.Listed.{slice_get-set_same, slice_get-set_other}

-- whether an address is one of some places of a block
pub stands_place : (b c places p : ℕ) → p < 64 → stands_at b places (block_start c + p) ≡ ((c == b) && has_bit places p)
stands_place b c places p small =
    let block_is : (block_start c + p - 65536) / 64 ≡ c = omega (arith, small) in
    let place_is : (block_start c + p - 65536) % 64 ≡ p = omega (arith, small) in
    ap (λ n. (n == b) && has_bit places ((block_start c + p - 65536) % 64)) block_is ∙ ap (λ q. (c == b) && has_bit places q) place_is

module _ (blocks : List Block) (b : ℕ) (old new : Block) (here : slice_get blocks b ≡ Some old) where
  in_list : b < length blocks
  in_list = slice_get_within blocks b old here

  -- the map after the change: in other blocks as it was, in this one by what the block is
  changed_extents : (m : Map Extent) → ((a : ℕ) → a < 65536 → get m a ≡ None) → ((c p : ℕ) → c ≢ b → p < 64 → get m (block_start c + p) ≡ get (extents_in blocks) (block_start c + p)) → ((p : ℕ) → p < 64 → get m (block_start b + p) ≡ extent_in p new) → extents_in (set blocks b new) ≡ m
  changed_extents m low others own =
      extents_are (set blocks b new) m low (λ c p small.
      ⊎_elim
      (λ (is : c ≡ b). ap (λ c. get m (block_start c + p)) is ∙ own p small ∙ sym (ap (option_and_then (extent_in p)) (ap (slice_get (set blocks b new)) is ∙ slice_get-set_same blocks b new in_list)))
      (λ (ne : c ≢ b). others c p ne small ∙ get-place blocks c p small ∙ sym (ap (option_and_then (extent_in p)) (slice_get-set_other blocks b c new ne)))
      (cases_eq c b))

  was_inside : (p : ℕ) → p < 64 → get (extents_in blocks) (block_start b + p) ≡ extent_in p old
  was_inside p small = get-place blocks b p small ∙ ap (option_and_then (extent_in p)) here

  -- an extent comes or goes at one place of the block
  one_extent : (m : Map Extent) (place : ℕ) → place < 64 → get m (block_start b + place) ≡ extent_in place new → ((a : ℕ) → a ≢ block_start b + place → get m a ≡ get (extents_in blocks) a) → ((p : ℕ) → p ≢ place → extent_in p old ≡ extent_in p new) → extents_in (set blocks b new) ≡ m
  one_extent m place small own others rest =
      changed_extents m (λ a lt. others a (λ e. omega (arith, e, lt)) ∙ low_extent blocks a lt) (λ c p ne lt. others (block_start c + p) (λ e. ne (omega (arith, e, small, lt)))) (λ p lt.
      ⊎_elim
      (λ (is : p ≡ place). subst (λ p. get m (block_start b + p) ≡ extent_in p new) (sym is) own)
      (λ (ne : p ≢ place). others (block_start b + p) (λ e. ne (omega (arith, e))) ∙ was_inside p lt ∙ rest p ne)
      (cases_eq p place))

  module _ (alike : IsAlike old new) where
    same_extent : extent_of new ≡ extent_of old
    same_extent = ap (λ n. record { size = n; kind = new.kind }) alike.size ∙ ap (λ k. record { size = old.size; kind = k }) alike.kind

    same_inside : (p : ℕ) → starts_at new p ≡ starts_at old p → extent_in p old ≡ extent_in p new
    same_inside p same = sym (ap (λ t. cond t (Some (extent_of new)) None) same ∙ ap (λ x. cond (starts_at old p) (Some x) None) same_extent)

    pub swept_extents : new.objects ≡ old.objects → extents_in (set blocks b new) ≡ extents_in blocks
    swept_extents objects = changed_extents (extents_in blocks) (low_extent blocks) (λ c p ne lt. refl) (λ p lt. was_inside p lt ∙ same_inside p (ap (λ n. has_bit n p) objects))

  pub claim_extents : (start : ℕ) → Claims old new start → extents_in (set blocks b new) ≡ insert (extents_in blocks) (block_start b + start) (extent_of old)
  claim_extents start claims =
      one_extent (insert (extents_in blocks) (block_start b + start) (extent_of old)) start (cell_fits old.size start old.sized claims.cell)
      (get-insert_same (extents_in blocks) (block_start b + start) (extent_of old) ∙ sym (cond-true (starts_at new start) (Some (extent_of new)) None (claims.claimed start ∙ ap (λ t. t || starts_at old start) (eq-eqb start start refl)) ∙ ap Some (same_extent claims.alike)))
      (get-insert_other (extents_in blocks) (block_start b + start) (extent_of old))
      (λ p ne. same_inside claims.alike p (claims.claimed p ∙ ap (λ t. t || starts_at old p) (ne_eqb p start ne)))

  -- the objects at chosen places of the block are condemned
  module _ (places : ℕ) (all : CondemnsAll old new places) where
    pub chosen_extents : extents_in (set blocks b new) ≡ retain_keys (extents_in blocks) (λ a. not (stands_at b places a))
    chosen_extents = changed_extents (retain_keys (extents_in blocks) (λ a. not (stands_at b places a))) low others own
      where
        table : (s t : Bool) (x : Extent) → cond (not t) (cond s (Some x) None) None ≡ cond (not t && s) (Some x) None
        table true true x = refl
        table true false x = refl
        table false true x = refl
        table false false x = refl

        got : (a : ℕ) → get (retain_keys (extents_in blocks) (λ a. not (stands_at b places a))) a ≡ cond (not (stands_at b places a)) (get (extents_in blocks) a) None
        got = get-retain (extents_in blocks) (λ a. not (stands_at b places a))

        low : (a : ℕ) → a < 65536 → get (retain_keys (extents_in blocks) (λ a. not (stands_at b places a))) a ≡ None
        low a lt = got a ∙ ap (λ o. cond (not (stands_at b places a)) o None) (low_extent blocks a lt) ∙ elim (not (stands_at b places a)) as (λ t. ◌≡◌ {A = Option Extent} (cond t None None) None) [ true ↦ refl | false ↦ refl ]

        others : (c p : ℕ) → c ≢ b → p < 64 → get (retain_keys (extents_in blocks) (λ a. not (stands_at b places a))) (block_start c + p) ≡ get (extents_in blocks) (block_start c + p)
        others c p ne lt = got (block_start c + p) ∙ ap (λ t. cond (not t) (get (extents_in blocks) (block_start c + p)) None) (stands_place b c places p lt ∙ ap (λ t. t && has_bit places p) (ne_eqb c b ne))

        own : (p : ℕ) → p < 64 → get (retain_keys (extents_in blocks) (λ a. not (stands_at b places a))) (block_start b + p) ≡ extent_in p new
        own p lt =
            got (block_start b + p)
            ∙ ap (λ t. cond (not t) (get (extents_in blocks) (block_start b + p)) None) (stands_place b b places p lt ∙ ap (λ t. t && has_bit places p) (eq-eqb b b refl))
            ∙ ap (λ o. cond (not (has_bit places p)) o None) (was_inside p lt)
            ∙ table (starts_at old p) (has_bit places p) (extent_of old)
            ∙ sym (ap (λ t. cond t (Some (extent_of new)) None) (all.gone p) ∙ ap (λ x. cond (not (has_bit places p) && starts_at old p) (Some x) None) (same_extent all.alike))

  -- a block that is part of no run changes, and is part of none
  pub same_runs : AreRuns blocks → old.back ≡ 0 → (starts_at old 0 ≡ true → old.size ≤ 64) → new.back ≡ 0 → (starts_at new 0 ≡ true → new.size ≤ 64) → AreRuns (set blocks b new)
  same_runs runs old_own old_short new_own new_short = record { ahead = ahead; behind = behind }
    where
      kept : (c : ℕ) → c ≢ b → slice_get (set blocks b new) c ≡ slice_get blocks c
      kept c ne = slice_get-set_other blocks b c new ne

      put : (c : ℕ) → c ≡ b → slice_get (set blocks b new) c ≡ Some new
      put c is = ap (slice_get (set blocks b new)) is ∙ slice_get-set_same blocks b new in_list

      ahead : (c k : ℕ) (first : Block) → slice_get (set blocks b new) c ≡ Some first → starts_at first 0 ≡ true → 0 < k → 64 * k < first.size → (later : Block) × (slice_get (set blocks b new) (c + k) ≡ Some later) × (later.back ≡ k)
      ahead c k first at on low reach =
          ⊎_elim
          (λ (is : c ≡ b).
          let same = same_Some new first (sym (put c is) ∙ at) in
          let short = new_short (subst (λ x. starts_at x 0 ≡ true) (sym same) on) in
          let size : new.size ≡ first.size = ap (λ (x : Block). x.size) same in
          absurd (omega (arith, short, size, low, reach)))
          (λ (ne : c ≢ b).
          let was = runs.ahead c k first (sym (kept c ne) ∙ at) on low reach in
          let back = was.2 in
          (was.0, kept (c + k) (λ is. let same : was.0.back ≡ old.back = ap (λ (x : Block). x.back) (same_Some was.0 old (sym was.1 ∙ ap (slice_get blocks) is ∙ here)) in omega (arith, same, back, low, old_own)) ∙ was.1, was.2))
          (cases_eq c b)

      behind : (c : ℕ) (later : Block) → slice_get (set blocks b new) c ≡ Some later → 0 < later.back → IsLater (set blocks b new) c later.back
      behind c later at low =
          ⊎_elim
          (λ (is : c ≡ b). let same : new.back ≡ later.back = ap (λ (x : Block). x.back) (same_Some new later (sym (put c is) ∙ at)) in absurd (omega (arith, same, low, new_own)))
          (λ (ne : c ≢ b).
          let was = runs.behind c later (sym (kept c ne) ∙ at) low in
          let reaches = was.reaches in
          record {
            within = was.within;
            first = was.first;
            here = kept (c - later.back) (λ is.
                let same = same_Some was.first old (sym was.here ∙ ap (slice_get blocks) is ∙ here) in
                let short = old_short (subst (λ x. starts_at x 0 ≡ true) same was.starts) in
                let size : was.first.size ≡ old.size = ap (λ (x : Block). x.size) same in
                omega (arith, short, size, low, reaches))
                ∙ was.here;
            starts = was.starts;
            reaches = was.reaches;
          })
          (cases_eq c b)
