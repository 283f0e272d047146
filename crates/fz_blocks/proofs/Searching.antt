-- The least run of blocks, by the bits of a set.
use Rattle.std.proofs.Common.{◌≡◌, ◌≢◌, ℕ, ◌+◌, ◌-◌, ◌*◌, ◌/◌, ◌<◌, ◌≤◌, true, false, nat_lt, List, Option, Some, None, MatchOption, slice_get, refl, sym, ap, ◌∙◌, subst, ⊎_elim, arith, w64}
use Rattle.std.proofs.lemmas.Bool.{cond-true, cond-false, cases_lt, lt-ltb, le-ltb, both_ways}
use Rattle.std.specs.Option.{option_map_or}
use Rattle.std.specs.Int.{trailing_zeros}
use Rattle.std.specs.FinSet.{contains}
use Rattle.fz_blocks.specs.declared.block.Block.{Block}
use Rattle.fz_blocks.specs.Blocks.{is_bare}
use Rattle.fz_blocks.specs.BlockSets.{BlockNumbers, has_pair_bit, AreRunsOf, HasRun, IsLeastRun}
use Rattle.fz_bits.specs.Flags.{IsNext}
use Rattle.fz_model.specs.Bits.{has_bit}
use Rattle.fz_blocks.specs.Runs.{IsRun, IsFirstRun}
use Rattle.fz_blocks.proofs.Bits.{lowest}
use Rattle.fz_model.proofs.Bits.{no_bits}

-- ---- among the words of a set

module _ (set : BlockNumbers) (row word next : ℕ) (word_is : (p : ℕ) → p < 64 → has_bit word p ≡ contains set (64 * row + p)) (next_is : (p : ℕ) → p < 64 → has_bit next p ≡ contains set (64 * (row + 1) + p)) where
  pair_bit : (p : ℕ) → p < 128 → has_pair_bit word next p ≡ contains set (64 * row + p)
  pair_bit p small =
      ⊎_elim
      (λ (lt : p < 64). cond-true (nat_lt p 64) (has_bit word p) (has_bit next (p - 64)) (lt-ltb p 64 lt) ∙ word_is p lt)
      (λ (ge : 64 ≤ p).
      let at : 64 * (row + 1) + (p - 64) ≡ 64 * row + p = omega (arith, ge) in
      cond-false (nat_lt p 64) (has_bit word p) (has_bit next (p - 64)) (le-ltb p 64 ge) ∙ next_is (p - 64) (omega (arith, ge, small)) ∙ ap (contains set) at)
      (cases_lt p 64)

  module _ (runs count : ℕ) (few : count ≤ 64) (are : AreRunsOf runs word next count) where
    run_here : (p : ℕ) → p < 64 → has_bit runs p ≡ true → HasRun set count (64 * row + p)
    run_here p small on k lt =
        let at : 64 * row + p + k ≡ 64 * row + (p + k) = omega arith in
        ap (contains set) at ∙ sym (pair_bit (p + k) (omega (arith, small, lt, few))) ∙ are.all p k small on lt

    bit_here : (p : ℕ) → p < 64 → HasRun set count (64 * row + p) → has_bit runs p ≡ true
    bit_here p small run = are.each p small (λ k lt.
        let at : 64 * row + p + k ≡ 64 * row + (p + k) = omega arith in
        pair_bit (p + k) (omega (arith, small, lt, few)) ∙ ap (contains set) (sym at) ∙ run k lt)

    -- the first bit is the least run of those from the word on
    pub least_run : (z : ℕ) → runs ≢ 0 → runs < 18446744073709551616 → z ≡ trailing_zeros w64 runs → ((b : ℕ) → b < 64 * row → HasRun set count b → ⊥) → IsLeastRun set count (64 * row + z)
    least_run z some fits is none =
        let low = lowest runs z some fits is in
        record {
          run = run_here z low.0 low.1;
          before = λ b lt run. ⊎_elim
              (λ (early : b < 64 * row). none b early run)
              (λ (late : 64 * row ≤ b).
              let at : 64 * row + (b - 64 * row) ≡ b = omega (arith, late) in
              let less : b - 64 * row < z = omega (arith, late, lt) in
              let within = low.0 in
              both_ways _ (low.2 (b - 64 * row) less) (bit_here (b - 64 * row) (omega (arith, less, within)) (subst (HasRun set count) (sym at) run)))
              (cases_lt b (64 * row));
        }

    pub none_in_row : runs ≡ 0 → ((b : ℕ) → b < 64 * row → HasRun set count b → ⊥) → (b : ℕ) → b < 64 * (row + 1) → HasRun set count b → ⊥
    none_in_row zero none b lt run =
        ⊎_elim
        (λ (early : b < 64 * row). none b early run)
        (λ (late : 64 * row ≤ b).
        let at : 64 * row + (b - 64 * row) ≡ b = omega (arith, late) in
        both_ways _ (ap (λ n. has_bit n (b - 64 * row)) zero ∙ no_bits (b - 64 * row)) (bit_here (b - 64 * row) (omega (arith, late, lt)) (subst (HasRun set count) (sym at) run)))
        (cases_lt b (64 * row))

module _ (set : BlockNumbers) (count : ℕ) (some : 1 ≤ count) where
  begins : (b : ℕ) → HasRun set count b → contains set b ≡ true
  begins b run = let at : b ≡ b + 0 = omega arith in ap (contains set) at ∙ run 0 (omega (arith, some))

  -- no run begins in an empty set
  pub none_at_all : ((n : ℕ) → 0 ≤ n → contains set n ≡ false) → (b : ℕ) → HasRun set count b → ⊥
  none_at_all none b run = both_ways _ (none b (omega arith)) (begins b run)

  -- nor before the word of the least member
  pub none_before : (first row : ℕ) → IsNext set 0 first → row ≡ first / 64 → (b : ℕ) → b < 64 * row → HasRun set count b → ⊥
  none_before first row is row_is b lt run = both_ways _ (is.before b (omega arith) (omega (arith, lt, row_is))) (begins b run)

  -- nor past the last
  pub none_past : (size b : ℕ) → ((n : ℕ) → contains set n ≡ true → n < size) → size ≤ b → HasRun set count b → ⊥
  none_past size b within past run = let lt = within b (begins b run) in absurd (omega (arith, lt, past))

-- ---- among blocks

module _ (blocks : List Block) (bare : BlockNumbers) (are : (b : ℕ) → contains bare b ≡ option_map_or is_bare (slice_get blocks b) false) where
  to_run : (count b : ℕ) → HasRun bare count b → IsRun blocks count b
  to_run count b has k lt = member (slice_get blocks (b + k)) refl (sym (are (b + k)) ∙ has k lt)
    where
      member : (o : Option Block) → slice_get blocks (b + k) ≡ o → option_map_or is_bare o false ≡ true → (block : Block) × (slice_get blocks (b + k) ≡ Some block) × (is_bare block ≡ true)
      member None is on = absurd (both_ways _ refl on)
      member (Some block) is on = (block, is, on)

  from_run : (count b : ℕ) → IsRun blocks count b → HasRun bare count b
  from_run count b run k lt = let one = run k lt in are (b + k) ∙ ap (λ o. option_map_or is_bare o false) one.1 ∙ one.2

  pub run_found : (count : ℕ) (r : Option ℕ) → MatchOption r ((b : ℕ) → HasRun bare count b → ⊥) (λ b. IsLeastRun bare count b) → MatchOption r ((b : ℕ) → IsRun blocks count b → ⊥) (λ b. IsFirstRun blocks count b)
  run_found count None none = λ b run. none b (from_run count b run)
  run_found count (Some b) least = record { run = to_run count b least.run; before = λ c lt run. least.before c lt (from_run count c run) }
