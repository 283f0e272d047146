-- What is left where an object is condemned, in its first block and in the later ones of its run.
use Rattle.std.proofs.Common.{◌≡◌, ◌≢◌, ℕ, ◌+◌, ◌-◌, ◌*◌, ◌/◌, ◌<◌, ◌≤◌, ◌⊎◌, inl, inr, true, false, cond, List, length, set, Some, None, option_and_then, slice_get, sym, ap, ◌∙◌, subst, ⊎_elim, arith}
use Rattle.std.proofs.lemmas.Bool.{cases_lt, both_ways}
use Rattle.std.proofs.lemmas.Option.{same_Some, slice_get_within}
use Rattle.fz_model.specs.Allocation.{blocks_for}
use Rattle.fz_blocks.specs.declared.block.Block.{Block}
use Rattle.fz_model.specs.Bits.{has_bit}
use Rattle.fz_blocks.specs.Blocks.{starts_at, extent_of, extent_in, IsAlike, Detaches}
use Rattle.fz_blocks.specs.Layout.{extents_in, IsLater, AreRuns}
use Rattle.fz_blocks.specs.Runs.{FreesLater}
use Rattle.fz_blocks.proofs.Objects.{long_first, start_own, none_in_later}
use Rattle.fz_blocks.proofs.Runs.{outside_or}
use Rattle.fz_blocks.proofs.Extents.{low_extent, get-place, extents_are}
use Rattle.fz_blocks.proofs.Listed.{slice_get-set_same, slice_get-set_other}

-- a block that leaves its run has the extents that it had
detached_extent : (was now : Block) (p : ℕ) → Detaches was now → extent_in p now ≡ extent_in p was
detached_extent was now p is =
    ap (λ n. cond (has_bit n p) (Some (extent_of now)) None) is.objects
    ∙ ap (λ x. cond (has_bit was.objects p) (Some x) None) (ap (λ n. record { size = n; kind = now.kind }) is.size ∙ ap (λ k. record { size = was.size; kind = k }) is.kind)

module _ (old new : List Block) (b count : ℕ) (frees : FreesLater old new b count) where
  same_extents_at : (c p : ℕ) → option_and_then (extent_in p) (slice_get new c) ≡ option_and_then (extent_in p) (slice_get old c)
  same_extents_at c p =
      ⊎_elim
      (λ (before : c < b + 1). ap (option_and_then (extent_in p)) (frees.others c (inl (omega (arith, before)))))
      (λ (after : b + 1 ≤ c).
      ⊎_elim
      (λ (within : c < b + count).
      let is = frees.later (c - b) (omega (arith, after)) (omega (arith, after, within)) in
      let at : b + (c - b) ≡ c = omega (arith, after) in
      ap (option_and_then (extent_in p)) (ap (slice_get new) (sym at) ∙ is.3) ∙ detached_extent is.0 is.1 p is.4 ∙ ap (option_and_then (extent_in p)) (sym (ap (slice_get old) (sym at) ∙ is.2)))
      (λ (past : b + count ≤ c). ap (option_and_then (extent_in p)) (frees.others c (inr past)))
      (cases_lt c (b + count)))
      (cases_lt c (b + 1))

  pub later_extents : extents_in new ≡ extents_in old
  later_extents = extents_are new (extents_in old) (low_extent old) (λ c p small. get-place old c p small ∙ sym (same_extents_at c p))

-- ---- a whole object

module _ (old new : List Block) (runs : AreRuns old) (b place : ℕ) (was now : Block) (here : slice_get old b ≡ Some was) (starts : starts_at was place ≡ true) (alike : IsAlike was now) (gone : 64 < was.size → starts_at now 0 ≡ false) (frees : FreesLater (set old b now) new b (blocks_for was.size)) where
  count : ℕ
  count = blocks_for was.size

  kept : (c : ℕ) → c ≢ b → slice_get (set old b now) c ≡ slice_get old c
  kept c ne = slice_get-set_other old b c now ne

  new_first : slice_get new b ≡ Some now
  new_first = frees.others b (inl (omega arith)) ∙ slice_get-set_same old b now (slice_get_within old b was here)

  new_other : (c : ℕ) → (c < b) ⊎ (b + blocks_for was.size ≤ c) → slice_get new c ≡ slice_get old c
  new_other c out =
      frees.others c (⊎_elim (λ (lt : c < b). inl (omega (arith, lt))) (λ (past : b + blocks_for was.size ≤ c). inr past) out)
      ∙ kept c (λ is. ⊎_elim (λ (lt : c < b). omega (arith, is, lt)) (λ (past : b + blocks_for was.size ≤ c). omega (arith, is, past)) out)

  own : was.back ≡ 0
  own = start_own was place starts

  -- a later block of the object, as it was
  was_later : (k : ℕ) → 0 < k → k < blocks_for was.size → (later : Block) × (slice_get old (b + k) ≡ Some later) × (later.back ≡ k)
  was_later k low high = let long : 64 < was.size = omega (arith, low, high) in runs.ahead b k was here (subst (λ p. starts_at was p ≡ true) (long_first was place starts (omega (arith, long))) starts) low (omega (arith, low, high))

  -- and as it is
  no_later : (c : ℕ) (block : Block) → b < c → c < b + blocks_for was.size → slice_get new c ≡ Some block → (block.back ≡ 0) × ((p : ℕ) → starts_at block p ≡ false)
  no_later c block low high at =
      let is = frees.later (c - b) (omega (arith, low)) (omega (arith, low, high)) in
      let before = was_later (c - b) (omega (arith, low)) (omega (arith, low, high)) in
      let back = before.2 in
      let c_is : b + (c - b) ≡ c = omega (arith, low) in
      let same = same_Some is.1 block (sym is.3 ∙ ap (slice_get new) c_is ∙ at) in
      let first = same_Some is.0 before.0 (sym is.2 ∙ kept (b + (c - b)) (λ e. omega (arith, e, low)) ∙ before.1) in (
        ap (λ (k : Block). k.back) (sym same) ∙ is.4.own,
        λ p.
            ap (λ (k : Block). starts_at k p) (sym same) ∙ ap (λ n. has_bit n p) is.4.objects ∙ ap (λ (k : Block). starts_at k p) first ∙ none_in_later before.0 (omega (arith, back, low)) p,
      )

  pub freed_runs : AreRuns new
  freed_runs = record { ahead = ahead; behind = behind }
    where
      ahead : (c k : ℕ) (first : Block) → slice_get new c ≡ Some first → starts_at first 0 ≡ true → 0 < k → 64 * k < first.size → (later : Block) × (slice_get new (c + k) ≡ Some later) × (later.back ≡ k)
      ahead c k first at on low reach = ⊎_elim outside (⊎_elim itself between) (outside_or b (blocks_for was.size) c)
        where
          outside : (c < b) ⊎ (b + blocks_for was.size ≤ c) → (later : Block) × (slice_get new (c + k) ≡ Some later) × (later.back ≡ k)
          outside out =
              let before = runs.ahead c k first (sym (new_other c out) ∙ at) on low reach in
              let back = before.2 in
              ⊎_elim
              (λ apart. (before.0, new_other (c + k) apart ∙ before.1, before.2))
              (λ within. ⊎_elim
              (λ (is : c + k ≡ b). let same : before.0.back ≡ was.back = ap (λ (x : Block). x.back) (same_Some before.0 was (sym before.1 ∙ ap (slice_get old) is ∙ here)) in absurd (omega (arith, same, back, own, low)))
              (λ range.
              let from = range.0 in
              let to = range.1 in
              let other = was_later (c + k - b) (omega (arith, from)) (omega (arith, from, to)) in
              let c_is : b + (c + k - b) ≡ c + k = omega (arith, from) in
              let same : other.0.back ≡ before.0.back = ap (λ (x : Block). x.back) (same_Some other.0 before.0 (sym other.1 ∙ ap (slice_get old) c_is ∙ before.1)) in
              let also = other.2 in
              let c_b : c ≡ b = omega (arith, same, back, also, from) in
              absurd (⊎_elim (λ (lt : c < b). omega (arith, lt, c_b)) (λ (past : b + blocks_for was.size ≤ c). omega (arith, past, c_b, from, to)) out))
              within)
              (outside_or b (blocks_for was.size) (c + k))

          itself : c ≡ b → (later : Block) × (slice_get new (c + k) ≡ Some later) × (later.back ≡ k)
          itself is =
              let same = same_Some first now (sym at ∙ ap (slice_get new) is ∙ new_first) in
              let size : first.size ≡ now.size = ap (λ (x : Block). x.size) same in
              let as_was = alike.size in
              absurd (both_ways _ (gone (omega (arith, size, as_was, low, reach))) (subst (λ x. starts_at x 0 ≡ true) same on))

          between : (b < c) × (c < b + blocks_for was.size) → (later : Block) × (slice_get new (c + k) ≡ Some later) × (later.back ≡ k)
          between range = absurd (both_ways _ ((no_later c first range.0 range.1 at).1 0) on)

      behind : (c : ℕ) (later : Block) → slice_get new c ≡ Some later → 0 < later.back → IsLater new c later.back
      behind c later at low = ⊎_elim outside (⊎_elim itself between) (outside_or b (blocks_for was.size) c)
        where
          outside : (c < b) ⊎ (b + blocks_for was.size ≤ c) → IsLater new c later.back
          outside out =
              let before = runs.behind c later (sym (new_other c out) ∙ at) low in
              let within_old = before.within in
              let reaches = before.reaches in
              ⊎_elim
              (λ apart. record { within = before.within; first = before.first; here = new_other (c - later.back) apart ∙ before.here; starts = before.starts; reaches = before.reaches })
              (λ within. ⊎_elim
              (λ (is : c - later.back ≡ b).
              let size : before.first.size ≡ was.size = ap (λ (x : Block). x.size) (same_Some before.first was (sym before.here ∙ ap (slice_get old) is ∙ here)) in
              absurd (⊎_elim (λ (lt : c < b). omega (arith, lt, is)) (λ (past : b + blocks_for was.size ≤ c). omega (arith, past, is, size, reaches, low, within_old)) out))
              (λ range.
              let from = range.0 in
              let to = range.1 in
              let other = was_later (c - later.back - b) (omega (arith, from)) (omega (arith, from, to)) in
              let c_is : b + (c - later.back - b) ≡ c - later.back = omega (arith, from) in
              let same = same_Some other.0 before.first (sym other.1 ∙ ap (slice_get old) c_is ∙ before.here) in
              let back = other.2 in
              absurd (both_ways _ (none_in_later other.0 (omega (arith, back, from)) 0) (subst (λ x. starts_at x 0 ≡ true) (sym same) before.starts)))
              within)
              (outside_or b (blocks_for was.size) (c - later.back))

          itself : c ≡ b → IsLater new c later.back
          itself is =
              let back : later.back ≡ now.back = ap (λ (x : Block). x.back) (same_Some later now (sym at ∙ ap (slice_get new) is ∙ new_first)) in
              let as_was = alike.back in
              absurd (omega (arith, back, as_was, own, low))

          between : (b < c) × (c < b + blocks_for was.size) → IsLater new c later.back
          between range = let none = (no_later c later range.0 range.1 at).0 in absurd (omega (arith, none, low))

-- an object of more than one block is gone from its block's first word
pub gone_first : (was now : Block) (place : ℕ) → starts_at was place ≡ true → starts_at now place ≡ false → 64 < was.size → starts_at now 0 ≡ false
gone_first was now place starts gone long =
    subst (λ p. starts_at now p ≡ false) (long_first was place starts (omega (arith, long))) gone

-- the later blocks of an object lie in the list
pub span_within : (blocks : List Block) (runs : AreRuns blocks) (b place : ℕ) (was : Block) → slice_get blocks b ≡ Some was → starts_at was place ≡ true → b + blocks_for was.size ≤ length blocks
span_within blocks runs b place was here starts =
    let lt = slice_get_within blocks b was here in
    let sized = was.sized in
    ⊎_elim
    (λ (short : was.size < 65). omega (arith, short, lt, sized))
    (λ (long : 65 ≤ was.size).
    let first = long_first was place starts (omega (arith, long)) in
    let last = runs.ahead b ((was.size - 1) / 64) was here (subst (λ p. starts_at was p ≡ true) first starts) (omega (arith, long)) (omega (arith, long)) in
    let last_in = slice_get_within blocks (b + (was.size - 1) / 64) last.0 last.1 in
    omega (arith, last_in))
    (cases_lt was.size 65)
