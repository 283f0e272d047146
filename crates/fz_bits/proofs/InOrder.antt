-- The members of a set in order.
use Rattle.std.proofs.Common.{◌≡◌, ℕ, zero, suc, ◌+◌, ◌-◌, ◌^◌, ◌<◌, ◌≤◌, Bool, true, false, cond, [], ◌∷◌, filter, Option, Some, None, refl, sym, ap, ◌∙◌, arith}
use Rattle.std.proofs.lemmas.Bool.{cond-true, cond-false}
use Rattle.std.specs.List.{range_with_len}
use Rattle.std.specs.Option.{SomeIff}
use Rattle.std.specs.FinSet.{contains}
use Rattle.fz_bits.specs.Flags.{Flagged, IsNext, members_from, members_left}

module _ (p : ℕ → Bool) where
  pass_over : (a k n : ℕ) → ((x : ℕ) → a ≤ x → x < a + k → p x ≡ false) → filter p (range_with_len a (k + n)) ≡ filter p (range_with_len (a + k) n)
  pass_over a zero n none = ap (λ m. filter p (range_with_len a m)) least ∙ ap (λ b. filter p (range_with_len b n)) here
    where
      least : 0 + n ≡ n
      least = omega arith

      here : a ≡ a + 0
      here = omega arith
  pass_over a (suc k) n none =
      ap (λ m. filter p (range_with_len a m)) more
      ∙ cond-false (p a) (a ∷ filter p (range_with_len (a + 1) (k + n))) (filter p (range_with_len (a + 1) (k + n))) (none a (omega arith) (omega arith))
      ∙ pass_over (a + 1) k n (λ x low lt. none x (omega (arith, low)) (omega (arith, lt)))
      ∙ ap (λ b. filter p (range_with_len b n)) next
    where
      more : suc k + n ≡ suc (k + n)
      more = omega arith

      next : a + 1 + k ≡ a + suc k
      next = omega arith

pub no_more : (first : ℕ) (f : Flagged) (next : ℕ) → ((n : ℕ) → next ≤ n → contains f.members n ≡ false) → members_from first f next ≡ []
no_more first f next none =
    ap (λ m. filter (contains f.members) (range_with_len next m)) whole ∙ pass_over (contains f.members) next (first + f.size - next) 0 (λ x low lt. none x low)
  where
    whole : first + f.size - next ≡ (first + f.size - next) + 0
    whole = omega arith

pub one_member : (first : ℕ) (f : Flagged) (next found : ℕ) → IsNext f.members next found → found < first + f.size → members_from first f next ≡ found ∷ members_from first f (found + 1)
one_member first f next found is within =
    ap (λ m. filter (contains f.members) (range_with_len next m)) split
    ∙ pass_over (contains f.members) next (found - next) (suc (first + f.size - (found + 1))) (λ x low lt. is.before x low (omega (arith, low, lt, after)))
    ∙ ap (λ a. filter (contains f.members) (range_with_len a (suc (first + f.size - (found + 1))))) at
    ∙ cond-true (contains f.members found) (found ∷ filter (contains f.members) (range_with_len (found + 1) (first + f.size - (found + 1)))) (filter (contains f.members) (range_with_len (found + 1) (first + f.size - (found + 1)))) is.member
  where
    after : next ≤ found
    after = is.after

    split : first + f.size - next ≡ (found - next) + suc (first + f.size - (found + 1))
    split = omega (arith, after, within)

    at : next + (found - next) ≡ found
    at = omega (arith, after)

-- after the greatest number that there is, none is left
pub left_after : (first : ℕ) (f : Flagged) (found : ℕ) (after : Option ℕ) → first + f.size ≤ 2 ^ 64 → SomeIff after (found + 1 < 2 ^ 64) (found + 1) → members_left first f after ≡ members_from first f (found + 1)
left_after first f found None fits last =
    let none : first + f.size - (found + 1) ≡ 0 = omega (arith, fits, last) in
    sym (ap (λ n. filter (contains f.members) (range_with_len (found + 1) n)) none)
left_after first f found (Some after) fits next = ap (members_from first f) next.1

-- ---- all members

pub all_members : (first : ℕ) (f : Flagged) → members_from first f first ≡ filter (contains f.members) (range_with_len first f.size)
all_members first f = let whole : first + f.size - first ≡ f.size = omega arith in ap (λ n. filter (contains f.members) (range_with_len first n)) whole
