-- A loop over entries.
use Rattle.std.proofs.Common.{◌≡◌, ◌++◌, List, [], ◌∷◌, refl, sym, ap, ◌∙◌, subst, arith, Contains, append_assoc, append-nil}
use Rattle.std.proofs.lemmas.List.Elements.{Contains-append_right}

module _ {X : Type 0} where
  pub first_of : (e : X) (xs : List X) → Contains (e ∷ xs) e
  first_of e xs = (0, omega arith, refl)

  -- the next one is an entry
  pub in_middle : (ys it es next : List X) (e : X) → ys ++ it ≡ es → it ≡ e ∷ next → Contains es e
  in_middle ys it es next e rest steps = subst (λ zs. Contains zs e) rest (Contains-append_right ys it e (subst (λ zs. Contains zs e) (sym steps) (first_of e next)))

  pub one_on : (ys it es next : List X) (e : X) → ys ++ it ≡ es → it ≡ e ∷ next → (ys ++ e ∷ []) ++ next ≡ es
  one_on ys it es next e rest steps = append_assoc ys (e ∷ []) next ∙ ap (λ zs. ys ++ zs) (sym steps) ∙ rest

  pub all_of : (ys it es : List X) → ys ++ it ≡ es → it ≡ [] → ys ≡ es
  all_of ys it es rest none = sym (append-nil ys) ∙ ap (λ zs. ys ++ zs) (sym none) ∙ rest
