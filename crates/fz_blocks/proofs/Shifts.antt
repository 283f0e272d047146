-- Two words as one: the places from which on bits are set.
use Rattle.std.proofs.Common.{◌≡◌, ◌≢◌, ℕ, ◌+◌, ◌-◌, ◌*◌, ◌/◌, ◌%◌, ◌^◌, ◌<◌, ◌≤◌, nat_lt, nat_eq, bit_and, bit_or, sym, ap, ◌∙◌, ⊎_elim, arith}
use Rattle.std.proofs.lemmas.Bool.{cond-true, cond-false, cases_eq, cases_lt, lt-ltb, le-ltb}
use Rattle.std.proofs.lemmas.Nat.{shr-shr, and_mask, pow_pos}
use Rattle.std.proofs.lemmas.Nat.Bits.{bit_at-zero, bit_at_and, bit_at_or, bit_at_above, bit_at_ones, bit_at-lt, bit_at_cat_low, bit_at_cat_high}
use Rattle.std.specs.Int.{bit_at}
use Rattle.fz_blocks.specs.BlockSets.{has_pair_bit, AreRunsOf}
use Rattle.fz_model.specs.Bits.{has_bit}
use Rattle.fz_blocks.proofs.Bits.{and_bit, and_bits}

-- what is kept of a shift to the left
low_bits : (n p : ℕ) → p < 64 → bit_at (n % 2 ^ 64) p ≡ bit_at n p
low_bits n p lt =
    let both = bit_at_and n (2 ^ 64 - 1) p in
    let one = bit_at_ones 64 p lt in
    let two = bit_at-lt n p in
    ap (λ m. bit_at m p) (sym (and_mask n 64)) ∙ omega (arith, both, one, two)

shifted_left : (next s p : ℕ) → p < 64 → bit_at (next * 2 ^ s % 2 ^ 64) p ≡ bit_at (next * 2 ^ s + 0) p
shifted_left next s p lt = let same : next * 2 ^ s ≡ next * 2 ^ s + 0 = omega arith in low_bits (next * 2 ^ s) p lt ∙ ap (λ n. bit_at n p) same

shifted_right : (word s p : ℕ) → bit_at (word / 2 ^ s) p ≡ bit_at word (s + p)
shifted_right word s p = ap (λ x. x % 2) (shr-shr word s p)

pub pair_bit : (word next s p : ℕ) → word < 2 ^ 64 → 1 ≤ s → s < 64 → p < 64 → has_bit (bit_or (word / 2 ^ s) (next * 2 ^ (64 - s) % 2 ^ 64)) p ≡ has_pair_bit word next (p + s)
pair_bit word next s p fits some few lt =
    let either = bit_at_or (word / 2 ^ s) (next * 2 ^ (64 - s) % 2 ^ 64) p in
    let right = shifted_right word s p in
    let left = shifted_left next (64 - s) p lt in
    ⊎_elim
    (λ (low : p + s < 64).
    let none : bit_at (next * 2 ^ (64 - s) + 0) p ≡ 0 = bit_at_cat_low next (64 - s) 0 p (omega (arith, low)) ∙ bit_at-zero p in
    let swap : s + p ≡ p + s = omega arith in
    let at = ap (bit_at word) swap in
    let is : bit_at (bit_or (word / 2 ^ s) (next * 2 ^ (64 - s) % 2 ^ 64)) p ≡ bit_at word (p + s) = omega (arith, either, right, left, none, at) in
    ap (λ n. nat_eq n 1) is ∙ sym (cond-true (nat_lt (p + s) 64) (has_bit word (p + s)) (has_bit next (p + s - 64)) (lt-ltb (p + s) 64 low)))
    (λ (high : 64 ≤ p + s).
    let some_next : bit_at (next * 2 ^ (64 - s) + 0) p ≡ bit_at next (p - (64 - s)) = bit_at_cat_high next (64 - s) 0 p (pow_pos (64 - s)) (omega (arith, high)) in
    let swap : p - (64 - s) ≡ p + s - 64 = omega (arith, few, high) in
    let at = ap (bit_at next) swap in
    let none : bit_at word (s + p) ≡ 0 = bit_at_above word 64 (s + p) fits (omega (arith, high)) in
    let is : bit_at (bit_or (word / 2 ^ s) (next * 2 ^ (64 - s) % 2 ^ 64)) p ≡ bit_at next (p + s - 64) = omega (arith, either, right, left, none, some_next, at) in
    ap (λ n. nat_eq n 1) is ∙ sym (cond-false (nat_lt (p + s) 64) (has_bit word (p + s)) (has_bit next (p + s - 64)) (le-ltb (p + s) 64 high)))
    (cases_lt (p + s) 64)

pub more_runs : (runs word next s : ℕ) → word < 2 ^ 64 → 1 ≤ s → s < 64 → AreRunsOf runs word next s → AreRunsOf (bit_and runs (bit_or (word / 2 ^ s) (next * 2 ^ (64 - s) % 2 ^ 64))) word next (s + 1)
more_runs runs word next s fits some few are = record {
  all = λ place k small on lt.
      let both = and_bits runs (bit_or (word / 2 ^ s) (next * 2 ^ (64 - s) % 2 ^ 64)) place on in
      ⊎_elim
      (λ (is : k ≡ s). ap (λ n. has_pair_bit word next (place + n)) is ∙ sym (pair_bit word next s place fits some few small) ∙ both.1)
      (λ (ne : k ≢ s). are.all place k small both.0 (omega (arith, lt, ne)))
      (cases_eq k s);
  each = λ place small on.
      and_bit runs (bit_or (word / 2 ^ s) (next * 2 ^ (64 - s) % 2 ^ 64)) place (are.each place small (λ k lt. on k (omega (arith, lt)))) (pair_bit word next s place fits some few small ∙ on s (omega arith));
}
