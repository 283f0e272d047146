-- Whether all that is registered, or linked, was listed.
use Rattle.std.proofs.Common.{◌≡◌, ℕ, ◌++◌, Bool, List, [], ◌∷◌, Some, nat_eq, Contains, IsTrue, ⊎_elim, sym, ap, ◌∙◌, subst, arith}
use Rattle.std.proofs.lemmas.List.Elements.{Contains-append_left, Contains-push, Contains-push_cases}
use Rattle.std.specs.FinMap.{get, from_entries}
use Rattle.std.specs.List.{IsDistinct}
use Rattle.std.specs.Map.{keys_of}
use Rattle.fz_model.specs.State.{Map}
use Rattle.fz_model.proofs.KeyedEntries.{listed, got}

module _ {X : Type 0} (p : X → Bool) where
  pub has_none : (x : X) → Contains [] x → IsTrue (p x)
  has_none x h = absurd (omega (arith, h.1))

  pub has_more : (xs : List X) (x : X) → ((y : X) → Contains xs y → IsTrue (p y)) → IsTrue (p x) → (y : X) → Contains (xs ++ x ∷ []) y → IsTrue (p y)
  has_more xs x each last y h = ⊎_elim (λ before. each y before) (λ same. subst (λ z. IsTrue (p z)) same last) (Contains-push_cases xs x y h)

-- what comes next is among the items
pub is_next : {X : Type 0} (yielded : List X) (x : X) (rest all : List X) → (yielded ++ x ∷ []) ++ rest ≡ all → Contains all x
is_next yielded x rest all is = subst (λ xs. Contains xs x) is (Contains-append_left (yielded ++ x ∷ []) rest x (Contains-push yielded x))

-- what holds of all entries holds of the map, and the other way
module _ {X : Type 0} (P : ℕ → X → Type 0) (m : Map X) (es : List (ℕ × X)) (is : from_entries es ≡ m) where
  pub by_entries : ((e : ℕ × X) → Contains es e → P e.0 e.1) → (k : ℕ) (x : X) → get m k ≡ Some x → P k x
  by_entries each k x at = each (k, x) (listed es k x (ap (λ (n : Map X). get n k) is ∙ at))

  pub of_entry : IsDistinct nat_eq (keys_of es) → ((k : ℕ) (x : X) → get m k ≡ Some x → P k x) → (e : ℕ × X) → Contains es e → P e.0 e.1
  of_entry once each e within = each e.0 e.1 (ap (λ (n : Map X). get n e.0) (sym is) ∙ got es e.0 e.1 once within)
