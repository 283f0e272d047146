-- What registered objects reach.
-- code: fz_pass/src/leading.rt
use Rattle.std.specs.Prelude.{◌≡◌, ℕ, Bool, not, ◌&&◌, List, Contains, Some, IsTrue}
use Rattle.std.specs.FinMap.{get, contains_key}
use Rattle.fz_model.specs.declared.kinds.RegKind.{RegKind}
use Rattle.fz_model.specs.declared.answers.Registration.{Registration}
use Rattle.fz_model.specs.State.{Map, Object}
use Rattle.fz_model.specs.Reachability.{Leads}
use Rattle.fz_model.specs.Pass.{LeadsFirst, is_outside}

-- some element of the list has it
abbrev pub AnyOf : {X : Type 0} → List X → (X → ℕ → Type 0) → ℕ → Type 0
AnyOf {X} xs P a = (x : X) × Contains xs x × P x a

-- the object reaches it; the first step depends on the kind
abbrev pub IsLeading : Map Object → ℕ → RegKind → ℕ → Type 0
IsLeading objects object kind a = (first : ℕ) × LeadsFirst objects object kind first × Leads objects first a

-- a listed registration reaches it
abbrev pub AreLeading : Map Object → Map Registration → (ℕ → Bool) → ℕ → Type 0
AreLeading objects registrations listed a =
    (o : ℕ) × (r : Registration) × (get registrations o ≡ Some r) × IsTrue (listed o) × IsLeading objects o r.kind a

-- a registered object outside a set
abbrev pub is_unreachable : Map Object → Map Registration → (ℕ → Bool) → ℕ → Bool
is_unreachable objects registrations found a = contains_key registrations a && is_outside objects found a

-- what the unmarked registered objects reach, by their kinds, is marked
abbrev pub LedAreMarked : Map Object → Map Registration → (ℕ → Bool) → Type 0
LedAreMarked objects registrations marked =
    (o : ℕ) (r : Registration) → get registrations o ≡ Some r → IsTrue (not (marked o)) → (a : ℕ) → IsLeading objects o r.kind a → IsTrue (marked a)
