-- The places of a region, and the bits of words for them.
use Rattle.std.proofs.Common.{◌≡◌, ◌≢◌, ℕ, min, ◌+◌, ◌*◌, ◌%◌, ◌^◌, ◌<◌, Bool, true, false, not, ◌&&◌, nat_eq, refl, sym, ap, ◌∙◌, arith, w64, bit_and, bit_or}
use Rattle.std.proofs.lemmas.Bool.{ne_eqb}
use Rattle.std.proofs.lemmas.Nat.{pow_pos}
use Rattle.std.proofs.lemmas.Nat.Bits.{and_pow, bit_at_and, bit_at_or, bit_at-pow_same, bit_at-pow_other, bit_at_clear_same, bit_at_clear_other, bit_at-lt}
use Rattle.std.proofs.Math.Pow.{pow-lt}
use Rattle.std.specs.Int.{bit_at, bit_not}
use Rattle.fz_model.specs.Bits.{has_bit}
use Rattle.fz_model.proofs.Bits.{bit_on, bit_off, on_bit, off_bit, not_bit}
use Rattle.fz_machine.specs.Regions.{place_in, region_of}

-- ---- one bit

pub small : (place : ℕ) → place < 64 → 1 * 2 ^ place % 2 ^ 64 ≡ 2 ^ place
small place lt = let less : 2 ^ place < 2 ^ 64 = pow-lt lt in omega (arith, less)

pub cleared_here : (n place : ℕ) → place < 64 → has_bit (bit_and n (bit_not w64 (2 ^ place))) place ≡ false
cleared_here n place lt = off_bit _ place (ap (λ k. bit_at (bit_and n (bit_not w64 k)) place) (sym (small place lt)) ∙ bit_at_clear_same w64 n place lt)

pub cleared_there : (n place i : ℕ) → place < 64 → i < 64 → i ≢ place → has_bit (bit_and n (bit_not w64 (2 ^ place))) i ≡ has_bit n i
cleared_there n place i lt within ne = ap (λ k. nat_eq k 1) (ap (λ k. bit_at (bit_and n (bit_not w64 k)) i) (sym (small place lt)) ∙ bit_at_clear_other w64 n place lt i within ne)

pub set_here : (n place : ℕ) → has_bit (bit_or n (2 ^ place)) place ≡ true
set_here n place =
    let both = bit_at_or n (2 ^ place) place in
    let one = bit_at-pow_same place in
    let two = bit_at-lt n place in
    on_bit _ place (omega (arith, both, one, two))

pub set_there : (n m i : ℕ) → has_bit n i ≡ true → has_bit (bit_or n m) i ≡ true
set_there n m i on =
    let both = bit_at_or n m i in
    let one = bit_on n i on in
    let two = bit_at-lt m i in
    on_bit _ i (omega (arith, both, one, two))

-- the bits of one word that aren't in another
pub without : (a b i : ℕ) → b < 2 ^ 64 → i < 64 → has_bit (bit_and a (bit_not w64 b)) i ≡ (has_bit a i && not (has_bit b i))
without a b i fits lt = by (has_bit a i) refl (has_bit b i) refl
  where
    rest : bit_at (bit_and a (bit_not w64 b)) i ≡ min (bit_at a i) (bit_at (bit_not w64 b) i)
    rest = bit_at_and a (bit_not w64 b) i

    other : (v : Bool) → has_bit b i ≡ v → has_bit (bit_not w64 b) i ≡ not v
    other v is = not_bit b i fits lt ∙ ap not is

    by : (u : Bool) → has_bit a i ≡ u → (v : Bool) → has_bit b i ≡ v → has_bit (bit_and a (bit_not w64 b)) i ≡ (u && not v)
    by false off v is = let none = bit_off a i off in off_bit _ i (omega (arith, rest, none))
    by true on true is = let none = bit_off (bit_not w64 b) i (other true is) in off_bit _ i (omega (arith, rest, none))
    by true on false is = let one = bit_on a i on in let too = bit_on (bit_not w64 b) i (other false is) in on_bit _ i (omega (arith, rest, one, too))

pub set_other : (n place i : ℕ) → i ≢ place → has_bit (bit_or n (2 ^ place)) i ≡ has_bit n i
set_other n place i ne = let none = bit_at-pow_other place i ne in let both = bit_at_or n (2 ^ place) i in ap (λ k. nat_eq k 1) (let same : bit_at (bit_or n (2 ^ place)) i ≡ bit_at n i = omega (arith, both, none) in same)

pub in_both : (a b i : ℕ) → has_bit (bit_and a b) i ≡ (has_bit a i && has_bit b i)
in_both a b i = by (has_bit a i) refl (has_bit b i) refl
  where
    least : bit_at (bit_and a b) i ≡ min (bit_at a i) (bit_at b i)
    least = bit_at_and a b i

    by : (u : Bool) → has_bit a i ≡ u → (v : Bool) → has_bit b i ≡ v → has_bit (bit_and a b) i ≡ (u && v)
    by false off v is = let none = bit_off a i off in off_bit _ i (omega (arith, least, none))
    by true on false off = let none = bit_off b i off in off_bit _ i (omega (arith, least, none))
    by true on true too = let one = bit_on a i on in let other = bit_on b i too in on_bit _ i (omega (arith, least, one, other))

-- whether a word has the bit of a place
pub tested : (n place : ℕ) → not (nat_eq (bit_and n (2 ^ place)) 0) ≡ has_bit n place
tested n place = by (has_bit n place) refl
  where
    some : 0 < 2 ^ place
    some = pow_pos place

    by : (v : Bool) → has_bit n place ≡ v → not (nat_eq (bit_and n (2 ^ place)) 0) ≡ v
    by true on =
        let one : bit_at n place * 2 ^ place ≡ 2 ^ place = ap (λ k. k * 2 ^ place) (bit_on n place on) ∙ (let same : 1 * 2 ^ place ≡ 2 ^ place = omega arith in same) in
        ap not (ne_eqb (bit_and n (2 ^ place)) 0 (λ none. let more = some in let is = sym one ∙ sym (and_pow n place) ∙ none in omega (arith, more, is)))
    by false off = ap (λ k. not (nat_eq k 0)) (and_pow n place ∙ ap (λ k. k * 2 ^ place) (bit_off n place off) ∙ (let none : 0 * 2 ^ place ≡ 0 = omega arith in none))

-- ---- places and objects

pub place_back : (region place : ℕ) → place_in region ≡ 0 → place < 64 → place_in (region + 16 * place) ≡ place
place_back region place begin lt = omega (arith, begin, lt)

pub region_back : (region place : ℕ) → place_in region ≡ 0 → place < 64 → region_of (region + 16 * place) ≡ region
region_back region place begin lt = let back = place_back region place begin lt in omega (arith, back)

pub object_back : (object : ℕ) → region_of object + 16 * place_in object ≡ object
object_back object = omega arith

pub place_less : (object : ℕ) → place_in object < 64
place_less object = omega arith

pub region_begins : (object : ℕ) → place_in (region_of object) ≡ 0
region_begins object = omega arith

-- a region lies within the addresses
pub within_addresses : (region place : ℕ) → place_in region ≡ 0 → region < 2 ^ 64 → place < 64 → region + 16 * place < 2 ^ 64
within_addresses region place begin fits lt = omega (arith, begin, fits, lt)
