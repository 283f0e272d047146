-- Items that are passed, and kept or not.
use Rattle.std.proofs.Common.{◌≡◌, ◌≤◌, ◌+◌, ℕ, zero, suc, List, [], ◌∷◌, drop, set, slice_get, Some, None, refl, sym, ap, ◌∙◌, add-one, arith}
use Rattle.std.proofs.lemmas.List.{drop-set-lt}
use Rattle.std.proofs.lemmas.Option.{none-some, same_Some}

module _ {X : Type 0} where
  one_on : (n : ℕ) (xs : List X) → drop 1 (drop n xs) ≡ drop (suc n) xs
  one_on zero [] = refl
  one_on zero (x ∷ xs) = refl
  one_on (suc n) [] = refl
  one_on (suc n) (x ∷ xs) = one_on n xs

  pub passed : (n : ℕ) (xs : List X) → drop (n + 1) xs ≡ drop 1 (drop n xs)
  passed n xs = ap (λ k. drop k xs) (add-one n) ∙ sym (one_on n xs)

  pub passed_set : (n k : ℕ) (xs : List X) (x : X) → k ≤ n → drop (n + 1) (set xs k x) ≡ drop 1 (drop n xs)
  passed_set n k xs x le = drop-set-lt (n + 1) xs k x (omega (arith, le)) ∙ passed n xs

  -- a list with a first item
  pub first_is : (xs : List X) (x : X) → slice_get xs 0 ≡ Some x → xs ≡ x ∷ drop 1 xs
  first_is [] x h = absurd (none-some x h)
  first_is (y ∷ xs) x h = ap (λ z. z ∷ xs) (same_Some y x h)

  pub none_left : (xs : List X) → slice_get xs 0 ≡ None → xs ≡ []
  none_left [] h = refl
  none_left (y ∷ xs) h = absurd (none-some y (sym h))
