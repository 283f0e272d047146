-- Any item of a list, and the entries of a table.
use Rattle.std.proofs.Common.{ℕ, ◌↔◌, ◌⊎◌, ◌++◌, ◌∷◌, [], List, sym, subst, inl, inr, ⊎_elim, arith, IsTrue, nat_eq, Bool}
use Rattle.std.proofs.lemmas.List.Elements.{Contains-append_left, Contains-push, Contains-push_cases}
use Rattle.std.specs.List.{IsDistinct}
use Rattle.std.specs.Map.{keys_of}
use Rattle.std.specs.FinMap.{from_entries}
use Rattle.fz_model.specs.declared.answers.Registration.{Registration}
use Rattle.fz_model.specs.State.{Map, Object}
use Rattle.fz_model.proofs.KeyedEntries.{listed, got}
use Rattle.fz_pass.specs.Leading.{AnyOf, IsLeading, AreLeading}

pub any_none : {X : Type 0} (P : X → ℕ → Type 0) (a : ℕ) → AnyOf [] P a → ⊥
any_none P a (x, is_in, p) = absurd (omega (arith, is_in.1))

pub any_push : {X : Type 0} (P : X → ℕ → Type 0) (xs : List X) (x : X) (a : ℕ) → (AnyOf xs P a ⊎ P x a) ↔ AnyOf (xs ++ x ∷ []) P a
any_push P xs x a = (
  ⊎_elim (λ (y, is_in, p). (y, Contains-append_left xs (x ∷ []) y is_in, p)) (λ p. (x, Contains-push xs x, p)),
  λ (y, is_in, p). ⊎_elim (λ old. inl (y, old, p)) (λ is. inr (subst (λ z. P z a) (sym is) p)) (Contains-push_cases xs x y is_in),
)

abbrev pub LeadsIf : Map Object → (ℕ → Bool) → ℕ × Registration → ℕ → Type 0
LeadsIf objects test e a = IsTrue (test e.0) × IsLeading objects e.0 e.1.kind a

pub leading_entries : (objects : Map Object) (test : ℕ → Bool) (es : List (ℕ × Registration)) → IsDistinct nat_eq (keys_of es) → (a : ℕ) → AnyOf es (LeadsIf objects test) a ↔ AreLeading objects (from_entries es) test a
leading_entries objects test es once a = (
  λ (e, is_in, (on, leads)). (e.0, e.1, got es e.0 e.1 once is_in, on, leads),
  λ (o, r, here, on, leads). ((o, r), listed es o r here, (on, leads)),
)
