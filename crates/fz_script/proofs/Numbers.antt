-- Numbers as words.
use Rattle.std.proofs.Common.{◌≡◌, ℕ, ◌<◌, ◌≤◌, ◌+◌, ◌*◌, ◌^◌, List, length, take, get_or, decimal, Option, Some, None, ◌∙◌, sym, ap, nat_lt, refl, ltb-true, lt-ltb, zero, suc, true, arith}
use Rattle.std.proofs.lemmas.Bool.{and_parts}
use Rattle.std.proofs.lemmas.Fmt.{decimal_is_IsNumeral, decimal_nonempty, first_decimal, decimal_digit, decimal-digits_value}
use Rattle.std.proofs.lemmas.Int.Digits.{digits_value_more}
use Rattle.std.proofs.lemmas.Str.Parse.{numerals_by_value, tells_digits, digit_at, digits_value-take-le}
use Rattle.std.proofs.lemmas.Slice.Eq.{bytes_eq-Decides}
use Rattle.std.proofs.lemmas.Option.{cond_some}
use Rattle.std.specs.Char.{digit_value}
use Rattle.std.specs.Int.{IsInRange}
use Rattle.std.specs.Str.{bytes_eq}
use Rattle.std.specs.Str.Parse.{AllDigits, digits_value}
use Rattle.fz_script.specs.Reading.{number}

-- what is written is read
pub number_again : (n : ℕ) → n < 2 ^ 64 → number (decimal n) ≡ Some n
unfolding number
number_again n lt =
    let worth : digits_value 10 (decimal n) ≡ n = (decimal_is_IsNumeral n lt).1 in
    let small : nat_lt n (2 ^ 64) ≡ true = lt-ltb n (2 ^ 64) lt in
    let same : bytes_eq (decimal n) (decimal n) ≡ true = (bytes_eq-Decides (decimal n) (decimal n)).1 refl in
    rw (worth, small, same) refl

-- what is read is how it is written
pub number_takes : (word : List ℕ) (n : ℕ) → number word ≡ Some n → (word ≡ decimal n) × (n < 2 ^ 64)
unfolding number
number_takes word n h =
    let t = cond_some _ _ _ h in
    let p = and_parts _ _ t.0 in
    let e : word ≡ decimal (digits_value 10 word) = (bytes_eq-Decides _ _).0 p.1 in
    let lt : digits_value 10 word < 2 ^ 64 = ltb-true (digits_value 10 word) (2 ^ 64) p.0 in
    (e ∙ ap decimal t.1, rw (← t.1) lt)

none_is : (word : List ℕ) → ((n : ℕ) → n < 2 ^ 64 → word ≡ decimal n → ⊥) → number word ≡ None
none_is word never = none_at (number word) refl
  where
    none_at : (r : Option ℕ) → number word ≡ r → number word ≡ None
    none_at None h = h
    none_at (Some n) h = let t = number_takes word n h in absurd (never n t.1 t.0)

-- ---- words that are no number

pub empty : (word : List ℕ) → length word ≡ 0 → number word ≡ None
empty word none = none_is word (λ n lt e. let some = decimal_nonempty n lt in let same = ap length e in omega (arith, some, same, none))

pub zero_leads : (word : List ℕ) → 1 < length word → get_or word 0 0 ≡ 48 → number word ≡ None
zero_leads word more first = none_is word (λ n lt e. leads n lt (sym e))
  where
    leads : (n : ℕ) → n < 2 ^ 64 → decimal n ≡ word → ⊥
    leads zero lt e = let one = ap length (decimal_digit 0 (omega arith)) in let same = ap length e in omega (arith, one, same, more)
    leads (suc n) lt e = let high = first_decimal (suc n) (omega arith) lt in let same = ap (λ (w : List ℕ). get_or w 0 0) e in omega (arith, high, same, first)

pub other_byte : (word : List ℕ) (i : ℕ) → i < length word → (IsInRange 48 57 (get_or word i 0) → ⊥) → number word ≡ None
other_byte word i within other = none_is word (λ n lt e. other (digit_at word i (rw e (decimal_is_IsNumeral n lt).0.1) within))

pub too_large : (word : List ℕ) (i value more : ℕ) → i < length word → value ≡ digits_value 10 (take i word) → more ≤ digit_value (get_or word i 0) → 2 ^ 64 ≤ value * 10 + more → number word ≡ None
too_large word i value more within so_far digit large = none_is word (λ n lt e.
    let worth : digits_value 10 word ≡ n = ap (digits_value 10) e ∙ (decimal_is_IsNumeral n lt).1 in
    let part = digits_value-take-le 10 word (i + 1) (omega arith) in
    let next = digits_value_more 10 word i within in
    omega (arith, worth, part, next, so_far, digit, large, lt))

-- ---- and those that are

pub all_digits : (word : List ℕ) (value : ℕ) → AllDigits 10 word → 0 < length word → (get_or word 0 0 ≡ 48 → length word ≡ 1) → value ≡ digits_value 10 word → value < 2 ^ 64 → number word ≡ Some value
all_digits word value digits some leads is lt =
    let e : decimal (digits_value 10 word) ≡ word = decimal-digits_value (numerals_by_value (AllDigits 10) tells_digits) word digits some leads (rw (← is) lt) in
    ap number (sym e ∙ ap decimal (sym is)) ∙ number_again value lt
