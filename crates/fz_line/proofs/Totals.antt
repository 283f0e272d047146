-- Totals over lists, and facts of each element.
use Rattle.std.proofs.Common.{◌≡◌, ◌≢◌, ℕ, zero, suc, ◌+◌, ◌≤◌, List, [], ◌∷◌, ◌++◌, length, set, refl, sym, ap, arith}
use mathlib.Core.Option.{some, some-ne-none, some-injective}
use lib.ListN.{get_elem?}
use Rattle.std.specs.List.{AllByRecursion}
use Rattle.fz_line.specs.Views.{total}

module _ {X : Type 0} (f : X → ℕ) where
  -- after a change of one element
  pub total_set : (xs : List X) (i : ℕ) (v w : X) → get_elem? xs i ≡ some v → total f (set xs i w) + f v ≡ total f xs + f w
  total_set [] i v w at = absurd (some-ne-none v (sym at))
  total_set (x ∷ xs) zero v w at = let e : f x ≡ f v = ap f (some-injective _ _ at) in omega arith
  total_set (x ∷ xs) (suc i) v w at = let h = total_set xs i v w at in omega arith

  pub total-append : (xs ys : List X) → total f (xs ++ ys) ≡ total f xs + total f ys
  total-append [] ys = omega arith
  total-append (x ∷ xs) ys = let h = total-append xs ys in omega arith

  pub total_same : (g : X → ℕ) → ((x : X) → f x ≡ g x) → (xs : List X) → total f xs ≡ total g xs
  total_same g e [] = refl
  total_same g e (x ∷ xs) = let h = total_same g e xs in let a = e x in omega arith

  -- where g is 0 in all, and f where g is, f is 0 in all
  pub total_none : (g : X → ℕ) (xs : List X) → total g xs ≡ 0 → ((i : ℕ) (x : X) → get_elem? xs i ≡ some x → g x ≡ 0 → f x ≡ 0) → total f xs ≡ 0
  total_none g [] none zeros = refl
  total_none g (x ∷ xs) none zeros =
      let a : f x ≡ 0 = zeros 0 x refl (omega arith) in
      let b : total f xs ≡ 0 = total_none g xs (omega arith) (λ i y at. zeros (suc i) y at) in omega arith

  -- where one element has all of g, it has all of f
  pub total_alone : (g : X → ℕ) (xs : List X) (i : ℕ) (v : X) → get_elem? xs i ≡ some v → total g xs ≡ g v → ((j : ℕ) (x : X) → j ≢ i → get_elem? xs j ≡ some x → g x ≡ 0 → f x ≡ 0) → total f xs ≡ f v
  total_alone g [] i v at whole zeros = absurd (some-ne-none v (sym at))
  total_alone g (x ∷ xs) zero v at whole zeros =
      let e : x ≡ v = some-injective _ _ at in
      let a : g x ≡ g v = ap g e in
      let b : f x ≡ f v = ap f e in
      let c : total f xs ≡ 0 = total_none g xs (omega arith) (λ j y at'. zeros (suc j) y (λ (no : suc j ≡ 0). omega arith) at') in omega arith
  total_alone g (x ∷ xs) (suc i) v at whole zeros =
      let n : ℕ = total g xs in
      let d = total_at g xs i v at in
      let a : f x ≡ 0 = zeros 0 x (λ (no : 0 ≡ suc i). omega arith) refl (omega arith) in
      let b : total f xs ≡ f v = total_alone g xs i v at (omega arith) (λ j y ne at'. zeros (suc j) y (λ (same : suc j ≡ suc i). ne (omega arith)) at') in omega arith
    where
      total_at : (k : X → ℕ) (ys : List X) (j : ℕ) (y : X) → get_elem? ys j ≡ some y → k y ≤ total k ys
      total_at k [] j y at' = absurd (some-ne-none y (sym at'))
      total_at k (z ∷ ys) zero y at' = let e : k z ≡ k y = ap k (some-injective _ _ at') in omega arith
      total_at k (z ∷ ys) (suc j) y at' = let h = total_at k ys j y at' in omega arith

pub total_ones : {X : Type 0} (xs : List X) → total (λ _. 1) xs ≡ length xs
total_ones [] = refl
total_ones (x ∷ xs) = let h = total_ones xs in omega arith

pub AllByRecursion-more : {X : Type 0} (P Q : X → Type 0) → ((x : X) → P x → Q x) → (xs : List X) → AllByRecursion P xs → AllByRecursion Q xs
AllByRecursion-more P Q f [] h = tt
AllByRecursion-more P Q f (x ∷ xs) h = (f x h.0, AllByRecursion-more P Q f xs h.1)

pub AllByRecursion-append : {X : Type 0} (P : X → Type 0) (xs ys : List X) → AllByRecursion P xs → AllByRecursion P ys → AllByRecursion P (xs ++ ys)
AllByRecursion-append P [] ys a b = b
AllByRecursion-append P (x ∷ xs) ys a b = (a.0, AllByRecursion-append P xs ys a.1 b)
