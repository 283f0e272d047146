-- What the claim of a run leaves.
use Rattle.std.proofs.Common.{◌≡◌, ◌≢◌, ℕ, ◌+◌, ◌-◌, ◌*◌, ◌<◌, ◌≤◌, ◌⊎◌, inl, inr, true, false, cond, ◌==◌, List, Some, None, option_and_then, slice_get, sym, ap, ◌∙◌, subst, ⊎_elim, arith}
use Rattle.std.proofs.lemmas.Bool.{cond-true, cond-false, cases_eq, cases_lt, eq-eqb, ne_eqb, eqb-true, and_parts, both_ways}
use Rattle.std.proofs.lemmas.Option.{same_Some}
use Rattle.std.specs.FinMap.{get, insert}
use Rattle.fz_model.specs.Allocation.{block_start}
use Rattle.fz_model.proofs.Maps.{get-insert_same, get-insert_other}
use Rattle.fz_blocks.specs.declared.block.Block.{Block}
use Rattle.fz_blocks.specs.Blocks.{starts_at, is_bare, extent_of, extent_in}
use Rattle.fz_blocks.specs.Layout.{extents_in, IsLater, AreRuns}
use Rattle.fz_blocks.specs.Runs.{TakesRun}
use Rattle.fz_blocks.proofs.Objects.{none_bare, none_in_later}
use Rattle.fz_blocks.proofs.Extents.{low_extent, get-place, extents_are}

pub no_extent : (block : Block) (p : ℕ) → starts_at block p ≡ false → extent_in p block ≡ None
no_extent block p off = cond-false (starts_at block p) (Some (extent_of block)) None off

-- a block before the run, its first, a later one, or one past it
pub outside_or : (b count c : ℕ) → ((c < b) ⊎ (b + count ≤ c)) ⊎ ((c ≡ b) ⊎ ((b < c) × (c < b + count)))
outside_or b count c =
    ⊎_elim (λ (lt : c < b). inl (inl lt))
    (λ (ge : b ≤ c). ⊎_elim (λ (is : c ≡ b). inr (inl is))
    (λ (ne : c ≢ b). ⊎_elim (λ (lt : c < b + count). inr (inr (omega (arith, ge, ne), lt))) (λ (past : b + count ≤ c). inl (inr past)) (cases_lt c (b + count)))
    (cases_eq c b))
    (cases_lt c b)

module _ (old new : List Block) (b count : ℕ) (first : Block) (takes : TakesRun old new b count first) where
  some : 0 < count
  some = let enough = takes.enough in let sized = first.sized in omega (arith, enough, sized)

  was_bare : (c : ℕ) (block : Block) → b ≤ c → c < b + count → slice_get old c ≡ Some block → is_bare block ≡ true
  was_bare c block low high here =
      let was = takes.bare (c - b) (omega (arith, low, high)) in
      let at : b + (c - b) ≡ c = omega (arith, low) in
      subst (λ k. is_bare k ≡ true) (same_Some was.0 block (sym was.1 ∙ ap (slice_get old) at ∙ here)) was.2

  is_later : (c : ℕ) (block : Block) → b < c → c < b + count → slice_get new c ≡ Some block → block.back ≡ c - b
  is_later c block low high here =
      let is = takes.later (c - b) (omega (arith, low)) (omega (arith, low, high)) in
      let at : b + (c - b) ≡ c = omega (arith, low) in
      ap (λ (k : Block). k.back) (same_Some block is.0 (sym here ∙ ap (slice_get new) (sym at) ∙ is.1)) ∙ is.2

  pub run_runs : AreRuns old → AreRuns new
  run_runs runs = record { ahead = ahead; behind = behind }
    where
      ahead : (c k : ℕ) (start : Block) → slice_get new c ≡ Some start → starts_at start 0 ≡ true → 0 < k → 64 * k < start.size → (later : Block) × (slice_get new (c + k) ≡ Some later) × (later.back ≡ k)
      ahead c k start here on low reach = ⊎_elim outside (⊎_elim own between) (outside_or b count c)
        where
          outside : (c < b) ⊎ (b + count ≤ c) → (later : Block) × (slice_get new (c + k) ≡ Some later) × (later.back ≡ k)
          outside out =
              let was = runs.ahead c k start (sym (takes.others c out) ∙ here) on low reach in
              let back = was.2 in
              ⊎_elim
              (λ apart. (was.0, takes.others (c + k) apart ∙ was.1, was.2))
              (λ within. let range = in_range within in
              let none = eqb-true was.0.back 0 (and_parts (was.0.objects == 0) (was.0.back == 0) (was_bare (c + k) was.0 range.0 range.1 was.1)).1 in
              absurd (omega (arith, none, back, low)))
              (outside_or b count (c + k))
            where
              in_range : ((c + k ≡ b) ⊎ ((b < c + k) × (c + k < b + count))) → (b ≤ c + k) × (c + k < b + count)
              in_range within = ⊎_elim (λ (is : c + k ≡ b). (omega (arith, is), omega (arith, is, some))) (λ p. (omega (arith, p.0), p.1)) within

          own : c ≡ b → (later : Block) × (slice_get new (c + k) ≡ Some later) × (later.back ≡ k)
          own is =
              let enough = takes.enough in
              let size : start.size ≡ first.size = ap (λ (k : Block). k.size) (same_Some start first (sym here ∙ ap (slice_get new) is ∙ takes.here)) in
              let later = takes.later k low (omega (arith, enough, size, reach)) in
              (later.0, ap (λ x. slice_get new (x + k)) is ∙ later.1, later.2)

          between : (b < c) × (c < b + count) → (later : Block) × (slice_get new (c + k) ≡ Some later) × (later.back ≡ k)
          between range = let back = is_later c start range.0 range.1 here in let past = range.0 in absurd (both_ways _ (none_in_later start (omega (arith, back, past)) 0) on)

      behind : (c : ℕ) (later : Block) → slice_get new c ≡ Some later → 0 < later.back → IsLater new c later.back
      behind c later here low = ⊎_elim outside (⊎_elim own between) (outside_or b count c)
        where
          outside : (c < b) ⊎ (b + count ≤ c) → IsLater new c later.back
          outside out =
              let was = runs.behind c later (sym (takes.others c out) ∙ here) low in
              ⊎_elim
              (λ apart. record { within = was.within; first = was.first; here = takes.others (c - later.back) apart ∙ was.here; starts = was.starts; reaches = was.reaches })
              (λ within. let range = in_range within in absurd (both_ways _ (none_bare was.first (was_bare (c - later.back) was.first range.0 range.1 was.here) 0) was.starts))
              (outside_or b count (c - later.back))
            where
              in_range : ((c - later.back ≡ b) ⊎ ((b < c - later.back) × (c - later.back < b + count))) → (b ≤ c - later.back) × (c - later.back < b + count)
              in_range within = ⊎_elim (λ (is : c - later.back ≡ b). (omega (arith, is), omega (arith, is, some))) (λ p. (omega (arith, p.0), p.1)) within

          own : c ≡ b → IsLater new c later.back
          own is =
              let back : later.back ≡ first.back = ap (λ (k : Block). k.back) (same_Some later first (sym here ∙ ap (slice_get new) is ∙ takes.here)) in
              let none = takes.own in
              absurd (omega (arith, back, none, low))

          between : (b < c) × (c < b + count) → IsLater new c later.back
          between range =
              let back = is_later c later range.0 range.1 here in
              let past = range.0 in
              let high = range.1 in
              let few = takes.few in
              let at : c - later.back ≡ b = omega (arith, back, past) in
              record { within = omega (arith, back, past); first = first; here = ap (slice_get new) at ∙ takes.here; starts = takes.one 0; reaches = omega (arith, back, past, high, few) }

  pub run_extents : extents_in new ≡ insert (extents_in old) (block_start b) (extent_of first)
  run_extents = extents_are new (insert (extents_in old) (block_start b) (extent_of first)) (λ a lt. elsewhere a (λ is. omega (arith, is, lt)) ∙ low_extent old a lt) (λ c p small. ⊎_elim (outside c p small) (⊎_elim (own c p small) (between c p small)) (outside_or b count c))
    where
      elsewhere : (a : ℕ) → a ≢ block_start b → get (insert (extents_in old) (block_start b) (extent_of first)) a ≡ get (extents_in old) a
      elsewhere = get-insert_other (extents_in old) (block_start b) (extent_of first)

      -- no extent starts in a block that was bare
      old_none : (c p : ℕ) → p < 64 → b ≤ c → c < b + count → get (extents_in old) (block_start c + p) ≡ None
      old_none c p small from to =
          let was = takes.bare (c - b) (omega (arith, from, to)) in
          let at : b + (c - b) ≡ c = omega (arith, from) in
          get-place old c p small ∙ ap (option_and_then (extent_in p)) (ap (slice_get old) (sym at) ∙ was.1) ∙ no_extent was.0 p (none_bare was.0 was.2 p)

      outside : (c p : ℕ) → p < 64 → (c < b) ⊎ (b + count ≤ c) → get (insert (extents_in old) (block_start b) (extent_of first)) (block_start c + p) ≡ option_and_then (extent_in p) (slice_get new c)
      outside c p small out =
          elsewhere (block_start c + p) (λ is. ⊎_elim (λ lt. omega (arith, is, lt, small)) (λ past. omega (arith, is, past, some)) out)
          ∙ get-place old c p small
          ∙ ap (option_and_then (extent_in p)) (sym (takes.others c out))

      own : (c p : ℕ) → p < 64 → c ≡ b → get (insert (extents_in old) (block_start b) (extent_of first)) (block_start c + p) ≡ option_and_then (extent_in p) (slice_get new c)
      own c p small is =
          ⊎_elim
          (λ (start : p ≡ 0). let at : block_start c + p ≡ block_start b = omega (arith, is, start) in
          ap (get (insert (extents_in old) (block_start b) (extent_of first))) at ∙ get-insert_same (extents_in old) (block_start b) (extent_of first) ∙ sym (now ∙ cond-true (p == 0) (Some (extent_of first)) None (eq-eqb p 0 start)))
          (λ (ne : p ≢ 0). elsewhere (block_start c + p) (λ same. ne (omega (arith, same, is))) ∙ old_none c p small (omega (arith, is)) (omega (arith, is, some)) ∙ sym (now ∙ cond-false (p == 0) (Some (extent_of first)) None (ne_eqb p 0 ne)))
          (cases_eq p 0)
        where
          now : option_and_then (extent_in p) (slice_get new c) ≡ cond (p == 0) (Some (extent_of first)) None
          now = ap (option_and_then (extent_in p)) (ap (slice_get new) is ∙ takes.here) ∙ ap (λ t. cond t (Some (extent_of first)) None) (takes.one p)

      between : (c p : ℕ) → p < 64 → (b < c) × (c < b + count) → get (insert (extents_in old) (block_start b) (extent_of first)) (block_start c + p) ≡ option_and_then (extent_in p) (slice_get new c)
      between c p small range =
          let past = range.0 in
          let to = range.1 in
          let is = takes.later (c - b) (omega (arith, past)) (omega (arith, past, to)) in
          let at : b + (c - b) ≡ c = omega (arith, past) in
          let back = is.2 in
          elsewhere (block_start c + p) (λ same. omega (arith, same, past))
          ∙ old_none c p small (omega (arith, past)) to
          ∙ sym (ap (option_and_then (extent_in p)) (ap (slice_get new) (sym at) ∙ is.1) ∙ no_extent is.0 p (none_in_later is.0 (omega (arith, back, past)) p))
