-- Bits, as tests of their places: of a word, and of words of 64 bits one after another.
use Rattle.std.proofs.Common.{◌≡◌, ◌≢◌, ℕ, zero, suc, ◌-◌, ◌/◌, ◌%◌, ◌^◌, ◌<◌, Bool, true, false, cond, not, ◌==◌, List, length, set, slice_index, nat_eq, refl, sym, ap, ◌∙◌, subst, ⊎_elim, arith, w64}
use Rattle.std.proofs.lemmas.Bool.{cond-true, cond-false, cases_eq, eq-eqb, ne_eqb, eqb-true, eqb-false}
use Rattle.std.proofs.lemmas.List.{get_or-set_same, get_or-set_other}
use Rattle.std.proofs.lemmas.Nat.Bits.{bit_at-zero, bit_at-lt, bit_at_not}
use Rattle.std.specs.Int.{bit_at, bit_not}
use Rattle.fz_model.specs.Bits.{has_bit, has_flag}

-- ---- one bit

pub bit_on : (n i : ℕ) → has_bit n i ≡ true → bit_at n i ≡ 1
bit_on n i on = eqb-true (bit_at n i) 1 on

pub bit_off : (n i : ℕ) → has_bit n i ≡ false → bit_at n i ≡ 0
bit_off n i off = let two = bit_at-lt n i in let ne = eqb-false (bit_at n i) 1 off in omega (arith, two, ne)

pub on_bit : (n i : ℕ) → bit_at n i ≡ 1 → has_bit n i ≡ true
on_bit n i one = eq-eqb (bit_at n i) 1 one

pub off_bit : (n i : ℕ) → bit_at n i ≡ 0 → has_bit n i ≡ false
off_bit n i off = ne_eqb (bit_at n i) 1 (λ one. omega (arith, off, one))

pub no_bits : (i : ℕ) → has_bit 0 i ≡ false
no_bits i = off_bit 0 i (bit_at-zero i)

pub not_bit : (n i : ℕ) → n < 2 ^ 64 → i < 64 → has_bit (bit_not w64 n) i ≡ not (has_bit n i)
not_bit n i fits lt = ap (λ k. k == 1) (bit_at_not w64 n i fits lt) ∙ flip (bit_at n i) (bit_at-lt n i)
  where
    flip : (k : ℕ) → k < 2 → ((1 - k) == 1) ≡ not (k == 1)
    flip zero lt = refl
    flip (suc zero) lt = refl
    flip (suc (suc k)) lt = absurd (omega (arith, lt))

-- ---- a word is put in

-- a word whose bit for place k is new, and whose other bits are as they were
pub has_flag-set : (words : List ℕ) (k x : ℕ) (v : Bool) → k / 64 < length words → has_bit x (k % 64) ≡ v → ((i : ℕ) → i < 64 → i ≢ k % 64 → bit_at x i ≡ bit_at (slice_index words (k / 64)) i) → (q : ℕ) → has_flag (set words (k / 64) x) q ≡ cond (nat_eq q k) v (has_flag words q)
has_flag-set words k x v within new others q =
    ⊎_elim
    (λ (is : q ≡ k).
    subst (λ q. has_flag (set words (k / 64) x) q ≡ v) (sym is) (ap (λ w. has_bit w (k % 64)) (get_or-set_same words (k / 64) x 0 within) ∙ new)
    ∙ sym (cond-true (nat_eq q k) v (has_flag words q) (eq-eqb q k is)))
    (λ (ne : q ≢ k). kept ne ∙ sym (cond-false (nat_eq q k) v (has_flag words q) (ne_eqb q k ne)))
    (cases_eq q k)
  where
    kept : q ≢ k → has_flag (set words (k / 64) x) q ≡ has_flag words q
    kept ne =
        ⊎_elim
        (λ (same : q / 64 ≡ k / 64).
        let apart : q % 64 ≢ k % 64 = omega arith in
        ap (λ j. has_bit (slice_index (set words (k / 64) x) j) (q % 64)) same
        ∙ ap (λ w. has_bit w (q % 64)) (get_or-set_same words (k / 64) x 0 within)
        ∙ ap (λ n. nat_eq n 1) (others (q % 64) (omega arith) apart)
        ∙ ap (λ j. has_bit (slice_index words j) (q % 64)) (sym same))
        (λ (ne : q / 64 ≢ k / 64). ap (λ w. has_bit w (q % 64)) (get_or-set_other words (k / 64) (q / 64) x 0 ne))
        (cases_eq (q / 64) (k / 64))
