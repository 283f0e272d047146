-- A set of numbers below 64, by the bits of one word.
use Rattle.std.proofs.Common.{◌≡◌, ℕ, ◌+◌, ◌-◌, ◌*◌, ◌/◌, ◌%◌, ◌^◌, ◌<◌, ◌≤◌, ◌∷◌, [], false, slice_index, get_or, slice_set, sym, ap, ◌∙◌, subst, ⊎_elim, arith, w64, bit_and, bit_or}
use Rattle.std.proofs.lemmas.Bool.{cases_lt}
use Rattle.std.specs.Int.{bit_not, trailing_zeros}
use Rattle.std.specs.FinSet.{contains, insert, remove}
use Rattle.fz_bits.specs.Flags.{flagged, IsNext, IsRest}
use Rattle.fz_bits.proofs.Words.{flag_inserted, flag_removed, word_read, rest_of_word, rest_none, rest_found, none_past}

row : (n : ℕ) → n < 64 → (n - 0) / 64 ≡ 0
row n lt = omega (arith, lt)

column : (n : ℕ) → n < 64 → (n - 0) % 64 ≡ n
column n lt = omega (arith, lt)

module _ (word n : ℕ) (lt : n < 64) where
  pub one_inserted : flagged 0 (bit_or word (1 * 2 ^ n % 18446744073709551616) ∷ []) ≡ insert (flagged 0 (word ∷ [])) n
  one_inserted =
      sym (λ i. flagged 0 (slice_set (word ∷ []) (row n lt i) (bit_or word (1 * 2 ^ column n lt i % 18446744073709551616))))
      ∙ flag_inserted 0 (word ∷ []) n word (omega arith) (omega (arith, lt)) (sym (ap (λ k. get_or (word ∷ []) k word) (row n lt)))

  pub one_removed : flagged 0 (bit_and word (bit_not w64 (1 * 2 ^ n % 18446744073709551616)) ∷ []) ≡ remove (flagged 0 (word ∷ [])) n
  one_removed =
      sym (λ i. flagged 0 (slice_set (word ∷ []) (row n lt i) (bit_and word (bit_not w64 (1 * 2 ^ column n lt i % 18446744073709551616)))))
      ∙ flag_removed 0 (word ∷ []) n word (omega arith) (omega (arith, lt)) (sym (ap (λ k. get_or (word ∷ []) k word) (row n lt)))

-- no number from 64 on is in the set
pub none_from_64 : (word n : ℕ) → 64 ≤ n → contains (flagged 0 (word ∷ [])) n ≡ false
none_from_64 word n past = none_past 0 (word ∷ []) n (omega (arith, past))

module _ (word from rest : ℕ) (fits : word < 2 ^ 64) (lt : from < 64) (is : rest ≡ word / 2 ^ from * 2 ^ from % 2 ^ 64) where
  rest_is : IsRest 0 (flagged 0 (word ∷ [])) from 0 rest
  rest_is =
      subst (λ k. IsRest 0 (flagged 0 (word ∷ [])) from k rest) (row from lt)
      (rest_of_word 0 (flagged 0 (word ∷ [])) from word rest fits
      (word_read 0 (word ∷ []) ((from - 0) / 64) word (ap (slice_index (word ∷ [])) (row from lt)))
      (is ∙ ap (λ k. word / 2 ^ k * 2 ^ k % 2 ^ 64) (sym (column from lt)))
      (λ n low. absurd (omega (arith, low))))

  pub none_left : rest ≡ 0 → (n : ℕ) → from ≤ n → contains (flagged 0 (word ∷ [])) n ≡ false
  none_left none n above =
      ⊎_elim
      (λ (small : n < 64). rest_none 0 (flagged 0 (word ∷ [])) from 0 rest rest_is none n above (omega (arith, small)))
      (λ (past : 64 ≤ n). none_from_64 word n past)
      (cases_lt n 64)

  pub next_left : (zeros : ℕ) → 0 < rest → rest < 2 ^ 64 → zeros ≡ trailing_zeros w64 rest → IsNext (flagged 0 (word ∷ [])) from zeros
  next_left zeros some small zeros_are =
      let at : 0 + 64 * 0 + zeros ≡ zeros = omega arith in
      subst (IsNext (flagged 0 (word ∷ [])) from) at (rest_found 0 (flagged 0 (word ∷ [])) from 0 rest zeros rest_is some small zeros_are).0
