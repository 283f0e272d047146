-- How many pass a test.
use Rattle.std.proofs.Common.{◌≡◌, ℕ, zero, suc, ◌+◌, ◌≤◌, Bool, true, false, cond, List, [], ◌∷◌, Some, slice_get, refl, ap, ◌∙◌, arith, IsTrue}
use Rattle.std.proofs.lemmas.Bool.{both_ways}
use Rattle.std.proofs.lemmas.Option.{same_Some, none-some}
use Rattle.std.proofs.lemmas.List.Sums.{sum_by-le-sum_by}
use Rattle.std.specs.List.{count_by}
use Rattle.fz_model.proofs.Lists.{count_cons}

abbrev pub count_is : Bool → ℕ
count_is b = cond b 1 0

-- two tests of which at most one passes, and only where a third does
pub count_two : (p q r : ℕ → Bool) → ((a : ℕ) → count_is (p a) + count_is (q a) ≤ count_is (r a)) → (xs : List ℕ) → count_by p xs + count_by q xs ≤ count_by r xs
count_two p q r each [] = omega arith
count_two p q r each (x ∷ xs) =
    let here = each x in
    let rest = count_two p q r each xs in
    let a = count_cons p x xs in
    let b = count_cons q x xs in
    let c = count_cons r x xs in
    omega (arith, here, rest, a, b, c)

-- a test that passes only where one of two others does
pub count_either : (p q r : ℕ → Bool) → ((a : ℕ) → count_is (p a) ≤ count_is (q a) + count_is (r a)) → (xs : List ℕ) → count_by p xs ≤ count_by q xs + count_by r xs
count_either p q r each [] = omega arith
count_either p q r each (x ∷ xs) =
    let here = each x in
    let rest = count_either p q r each xs in
    let a = count_cons p x xs in
    let b = count_cons q x xs in
    let c = count_cons r x xs in
    omega (arith, here, rest, a, b, c)

module _ (p q : ℕ → Bool) (weaker : (a : ℕ) → IsTrue (p a) → IsTrue (q a)) where
  one_le : (s t : Bool) → (IsTrue s → IsTrue t) → cond s 1 0 ≤ cond t 1 0
  one_le true true h = omega arith
  one_le true false h = absurd (both_ways false refl (h refl))
  one_le false true h = omega arith
  one_le false false h = omega arith

  pub count_le : (xs : List ℕ) → count_by p xs ≤ count_by q xs
  count_le xs = sum_by-le-sum_by (λ a. cond (p a) 1 0) (λ a. cond (q a) 1 0) xs (λ a. one_le (p a) (q a) (weaker a))

  pub count_less : (xs : List ℕ) (k x : ℕ) → slice_get xs k ≡ Some x → p x ≡ false → q x ≡ true → count_by p xs + 1 ≤ count_by q xs
  count_less [] k x at off on = absurd (none-some x at)
  count_less (y ∷ xs) zero x at off on =
      let same = same_Some y x at in
      let rest = count_le xs in
      let before = count_cons p y xs ∙ ap (λ a. cond (p a) 1 0 + count_by p xs) same ∙ ap (λ b. cond b 1 0 + count_by p xs) off in
      let after = count_cons q y xs ∙ ap (λ a. cond (q a) 1 0 + count_by q xs) same ∙ ap (λ b. cond b 1 0 + count_by q xs) on in
      omega (arith, rest, before, after)
  count_less (y ∷ xs) (suc k) x at off on =
      let rest = count_less xs k x at off on in
      let first = one_le (p y) (q y) (weaker y) in
      let before = count_cons p y xs in
      let after = count_cons q y xs in
      omega (arith, rest, first, before, after)
