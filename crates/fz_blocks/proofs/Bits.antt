-- The bits of a word, as tests of their places.
use Rattle.std.proofs.Common.{◌≡◌, ◌≢◌, ℕ, suc, ◌+◌, ◌-◌, ◌*◌, ◌/◌, ◌%◌, ◌^◌, ◌<◌, ◌≤◌, Bool, true, false, not, ◌||◌, ◌&&◌, ◌==◌, bit_and, bit_or, nat_eq, nat_le, refl, sym, ap, ◌∙◌, subst, ⊎_elim, arith, w64, mul-le-mul_right, suc-mul, pow-suc}
use Rattle.std.proofs.Math.Nat.{div-add-mod, mul_comm, div-lt_iff_lt-mul, le-div_iff_mul-le}
use Rattle.std.proofs.lemmas.Bool.{and_from, cases_eq, cases_lt, cases_Bool, eq-eqb, ne_eqb, eqb-true, and_parts, both_ways, true≢false, leb-true}
use Rattle.std.proofs.lemmas.Nat.{leading_top, and_le_l, and_mask, pow_pos}
use Rattle.std.proofs.lemmas.Nat.Bits.{bit_at_and, bit_at_or, bit_at-trailing_zeros, bit_at_set_same, bit_at_set_other, bit_at_above, bit_at_ones, bit_at_ones_above, ones_shr, same_from_bits, bit_at-lt}
use Rattle.std.specs.Int.Bits.{or_zero_l}
use Rattle.std.specs.Int.{bit_at, bit_not, trailing_zeros}
use Rattle.std.specs.Int.Count.{count_leading_zeros}
use Rattle.fz_model.specs.Bits.{has_bit}
use Rattle.fz_model.proofs.Bits.{bit_on, bit_off, on_bit, off_bit, no_bits, not_bit}
use Rattle.fz_blocks.specs.Cells.{is_cell}

pub same_test : (x y : Bool) → (x ≡ true → y ≡ true) → (y ≡ true → x ≡ true) → x ≡ y
same_test true y f g = sym (f refl)
same_test false true f g = absurd (true≢false (sym (g refl)))
same_test false false f g = refl

-- ---- one bit

pub none_past : (n i : ℕ) → n < 2 ^ 64 → 64 ≤ i → has_bit n i ≡ false
none_past n i fits past = off_bit n i (bit_at_above n 64 i fits past)

pub within_word : (n i : ℕ) → n < 2 ^ 64 → has_bit n i ≡ true → i < 64
within_word n i fits on = ⊎_elim (λ lt. lt) (λ (past : 64 ≤ i). absurd (both_ways _ (none_past n i fits past) on)) (cases_lt i 64)

-- a word whose bits are all below 64 fits
pub fits_word : (n : ℕ) → ((i : ℕ) → has_bit n i ≡ true → i < 64) → n < 2 ^ 64
fits_word n below =
    let same : n ≡ n % 2 ^ 64 = same_from_bits n (n % 2 ^ 64) (λ i. low i ∙ ap (λ m. bit_at m i) (and_mask n 64)) in
    omega (arith, same)
  where
    low : (i : ℕ) → bit_at n i ≡ bit_at (bit_and n (2 ^ 64 - 1)) i
    low i =
        let both = bit_at_and n (2 ^ 64 - 1) i in
        let two = bit_at-lt n i in
        ⊎_elim
        (λ (lt : i < 64). let one = bit_at_ones 64 i lt in omega (arith, both, two, one))
        (λ (past : 64 ≤ i). let off = bit_off n i (⊎_elim (λ on. let lt = below i on in absurd (omega (arith, lt, past))) (λ off. off) (cases_Bool (has_bit n i))) in omega (arith, both, off))
        (cases_lt i 64)

pub and_bit : (a b i : ℕ) → has_bit a i ≡ true → has_bit b i ≡ true → has_bit (bit_and a b) i ≡ true
and_bit a b i on also = let both = bit_at_and a b i in let one = bit_on a i on in let two = bit_on b i also in on_bit (bit_and a b) i (omega (arith, both, one, two))

pub and_bits : (a b i : ℕ) → has_bit (bit_and a b) i ≡ true → (has_bit a i ≡ true) × (has_bit b i ≡ true)
and_bits a b i on =
    let both = bit_at_and a b i in let one = bit_on (bit_and a b) i on in let two = bit_at-lt a i in let three = bit_at-lt b i in
    (on_bit a i (omega (arith, both, one, two, three)), on_bit b i (omega (arith, both, one, two, three)))

pub and_is : (a b i : ℕ) → has_bit (bit_and a b) i ≡ (has_bit a i && has_bit b i)
and_is a b i = same_test _ _ (λ on. let parts = and_bits a b i on in and_from (has_bit a i) (has_bit b i) parts.0 parts.1) (λ on. let parts = and_parts (has_bit a i) (has_bit b i) on in and_bit a b i parts.0 parts.1)

pub or_is : (a b i : ℕ) → has_bit (bit_or a b) i ≡ (has_bit a i || has_bit b i)
or_is a b i = at (has_bit a i) (has_bit b i) refl refl
  where
    at : (x y : Bool) → has_bit a i ≡ x → has_bit b i ≡ y → has_bit (bit_or a b) i ≡ (x || y)
    at true y one two = let either = bit_at_or a b i in let on = bit_on a i one in let less = bit_at-lt b i in let more = bit_at-lt (bit_or a b) i in on_bit (bit_or a b) i (omega (arith, either, on, less, more))
    at false true one two = let either = bit_at_or a b i in let off = bit_off a i one in let on = bit_on b i two in on_bit (bit_or a b) i (omega (arith, either, on, off))
    at false false one two = let either = bit_at_or a b i in let off = bit_off a i one in let none = bit_off b i two in off_bit (bit_or a b) i (omega (arith, either, off, none))

pub without_is : (n m i : ℕ) → n < 2 ^ 64 → m < 2 ^ 64 → has_bit (bit_and n (bit_not w64 m)) i ≡ (not (has_bit m i) && has_bit n i)
without_is n m i fits small =
    ⊎_elim
    (λ (lt : i < 64). and_is n (bit_not w64 m) i ∙ ap (λ t. has_bit n i && t) (not_bit m i small lt) ∙ swap (has_bit n i) (has_bit m i))
    (λ (past : 64 ≤ i). and_is n (bit_not w64 m) i ∙ ap (λ t. t && has_bit (bit_not w64 m) i) (none_past n i fits past) ∙ sym (ap (λ t. not (has_bit m i) && t) (none_past n i fits past) ∙ never (has_bit m i)))
    (cases_lt i 64)
  where
    swap : (x y : Bool) → (x && not y) ≡ (not y && x)
    swap true true = refl
    swap true false = refl
    swap false true = refl
    swap false false = refl

    never : (y : Bool) → (not y && false) ≡ false
    never true = refl
    never false = refl

-- a bit is set, or cleared
pub set_bit : (n k i : ℕ) → k < 64 → has_bit (bit_or n (1 * 2 ^ k % 2 ^ 64)) i ≡ (i == k || has_bit n i)
set_bit n k i lt =
    ⊎_elim
    (λ (is : i ≡ k). ap (λ n. nat_eq n 1) (ap (bit_at (bit_or n (1 * 2 ^ k % 2 ^ 64))) is ∙ bit_at_set_same w64 n k lt) ∙ sym (ap (λ t. t || has_bit n i) (eq-eqb i k is)))
    (λ (ne : i ≢ k). ap (λ n. nat_eq n 1) (bit_at_set_other w64 n k lt i ne) ∙ sym (ap (λ t. t || has_bit n i) (ne_eqb i k ne)))
    (cases_eq i k)

pub one_bit : (k i : ℕ) → k < 64 → has_bit (1 * 2 ^ k % 2 ^ 64) i ≡ (i == k)
one_bit k i lt = ap (λ n. has_bit n i) (sym (or_zero_l (1 * 2 ^ k % 2 ^ 64))) ∙ set_bit 0 k i lt ∙ ap (λ t. (i == k) || t) (no_bits i) ∙ elim (i == k) as (λ t. (t || false) ≡ t) [ true ↦ refl | false ↦ refl ]

-- ---- the lowest and the highest bit

pub lowest : (n z : ℕ) → n ≢ 0 → n < 2 ^ 64 → z ≡ trailing_zeros w64 n → (z < 64) × (has_bit n z ≡ true) × ((i : ℕ) → i < z → has_bit n i ≡ false)
lowest n z some fits is =
    let at = bit_at-trailing_zeros w64 n (omega (arith, some)) fits in
    subst (λ z. (z < 64) × (has_bit n z ≡ true) × ((i : ℕ) → i < z → has_bit n i ≡ false)) (sym is) (at.0, on_bit n _ at.1, λ i lt. off_bit n i (at.2 i lt))

pub highest : (n z : ℕ) → n ≢ 0 → n < 2 ^ 64 → z ≡ count_leading_zeros 64 n → (z ≤ 63) × (has_bit n (63 - z) ≡ true) × ((i : ℕ) → 63 - z < i → has_bit n i ≡ false)
highest n z some fits is =
    let top = leading_top 64 n (omega (arith, some)) fits in
    let count = top.1 in
    let j : top.0 ≡ 63 - z = omega (arith, count, is) in
    (omega (arith, count, is), subst (λ k. has_bit n k ≡ true) j (on_bit n top.0 (one top.0 top.2 top.3)), λ i lt. off_bit n i (bit_at_above n (suc top.0) i top.3 (omega (arith, j, lt))))
  where
    one : (j : ℕ) → 2 ^ j ≤ n → n < 2 ^ suc j → bit_at n j ≡ 1
    one j low high = ap (λ q. q % 2) (quotient j low high)
      where
        quotient : (j : ℕ) → 2 ^ j ≤ n → n < 2 ^ suc j → n / 2 ^ j ≡ 1
        quotient j low high =
            let double : 2 ^ suc j ≡ 2 ^ j * 2 = pow-suc 2 j in
            let pos = pow_pos j in
            let least = (le-div_iff_mul-le {k = 2 ^ j} {x = 1} {y = n} pos).1 (omega (arith, low)) in
            let most = (div-lt_iff_lt-mul {k = 2 ^ j} {x = n} {y = 2} pos).1 (omega (arith, high, double)) in
            omega (arith, least, most)

-- ---- cells

pub cell_parts : (size place : ℕ) → is_cell size place ≡ true → (place % size ≡ 0) × (place ≢ 0 → place + size ≤ 64)
cell_parts size place on =
    let parts = and_parts (place % size == 0) ((place == 0) || nat_le (place + size) 64) on in
    (eqb-true (place % size) 0 parts.0, λ ne. leb-true (place + size) 64 (ap (λ t. t || nat_le (place + size) 64) (sym (ne_eqb place 0 ne)) ∙ parts.1))

pub cell_fits : (size place : ℕ) → 1 ≤ size → is_cell size place ≡ true → place < 64
cell_fits size place sized on =
    ⊎_elim (λ (is : place ≡ 0). omega (arith, is)) (λ (ne : place ≢ 0). let fits = (cell_parts size place on).1 ne in omega (arith, fits, sized)) (cases_eq place 0)

-- two multiples of a size are a size apart
pub multiples_apart : (size p r : ℕ) → p % size ≡ 0 → r % size ≡ 0 → p < r → p + size ≤ r
multiples_apart size p r one two lt =
    let left : size * (p / size) + p % size ≡ p = div-add-mod p size in
    let right : size * (r / size) + r % size ≡ r = div-add-mod r size in
    let swap : p / size * size ≡ size * (p / size) = mul_comm (p / size) size in
    let swap_right : r / size * size ≡ size * (r / size) = mul_comm (r / size) size in
    ⊎_elim
    (λ (less : p / size < r / size). let rows : suc (p / size) * size ≤ r / size * size = mul-le-mul_right size less in omega (arith, rows, suc-mul (p / size) size, left, right, swap, swap_right, one, two))
    (λ (ge : r / size ≤ p / size). let rows : r / size * size ≤ p / size * size = mul-le-mul_right size ge in absurd (omega (arith, rows, left, right, swap, swap_right, one, two, lt)))
    (cases_lt (p / size) (r / size))

pub cells_apart : (size p r : ℕ) → is_cell size p ≡ true → is_cell size r ≡ true → p < r → p + size ≤ r
cells_apart size p r one two lt = multiples_apart size p r (cell_parts size p one).0 (cell_parts size r two).0 lt

-- ---- the start at or below a place

module _ (objects place below z : ℕ) (fits : objects < 2 ^ 64) (small : place < 64) (below_is : below ≡ bit_and objects (18446744073709551615 / 2 ^ (63 - place))) (z_is : z ≡ count_leading_zeros 64 below) where
  mask_is : 18446744073709551615 / 2 ^ (63 - place) ≡ 2 ^ (place + 1) - 1
  mask_is = let width : 64 - (63 - place) ≡ place + 1 = omega arith in ones_shr 64 (63 - place) (omega arith) ∙ ap (λ k. 2 ^ k - 1) width

  kept : (i : ℕ) → has_bit objects i ≡ true → i ≤ place → has_bit below i ≡ true
  kept i on le = ap (λ n. has_bit n i) (below_is ∙ ap (bit_and objects) mask_is) ∙ and_bit objects (2 ^ (place + 1) - 1) i on (on_bit _ i (bit_at_ones (place + 1) i (omega (arith, le))))

  from_kept : (i : ℕ) → has_bit below i ≡ true → (has_bit objects i ≡ true) × (i ≤ place)
  from_kept i on =
      let parts = and_bits objects (2 ^ (place + 1) - 1) i (sym (ap (λ n. has_bit n i) (below_is ∙ ap (bit_and objects) mask_is)) ∙ on) in
      (parts.0, ⊎_elim (λ (lt : i < place + 1). omega (arith, lt)) (λ (past : place + 1 ≤ i). absurd (both_ways _ (off_bit _ i (bit_at_ones_above (place + 1) i past)) parts.1)) (cases_lt i (place + 1)))

  pub none_below : below ≡ 0 → (start : ℕ) → has_bit objects start ≡ true → start ≤ place → ⊥
  none_below none start on le = both_ways _ (no_bits start) (ap (λ n. has_bit n start) (sym none) ∙ kept start on le)

  below_fits : below < 2 ^ 64
  below_fits = let le = and_le_l objects (18446744073709551615 / 2 ^ (63 - place)) in omega (arith, fits, below_is, le)

  pub start_below : below ≢ 0 → (z ≤ 63) × (has_bit objects (63 - z) ≡ true) × (63 - z ≤ place)
  start_below some = let top = highest below z some below_fits z_is in let at = from_kept (63 - z) top.1 in (top.0, at.0, at.1)

  pub highest_below : below ≢ 0 → (start : ℕ) → has_bit objects start ≡ true → start ≤ place → start ≤ 63 - z
  highest_below some start on le =
      let top = highest below z some below_fits z_is in
      ⊎_elim (λ (lt : 63 - z < start). absurd (both_ways _ (top.2 start lt) (kept start on le))) (λ (ge : start ≤ 63 - z). ge) (cases_lt (63 - z) start)
