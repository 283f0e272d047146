-- How marking changes the marks of a host's heap.
-- code: fz_pass/src/host.rt; fz_marked/src/marked.rt; own_heap/src/host.rt
use Rattle.std.specs.Prelude.{◌≡◌, ◌≢◌, ℕ, Bool, false, not, ◌⊎◌, IsTrue, Option, Some}
use Rattle.std.specs.FinMap.{get, contains_key, retain_keys}
use Rattle.std.specs.Option.{option_map_or}
use Rattle.fz_model.specs.State.{Map, Object}
use Rattle.fz_model.specs.Reachability.{Child, Leads}
use Rattle.fz_model.specs.declared.answers.Registration.{Registration}
use Rattle.fz_pass.specs.Places.{is_held}

-- the marks are closed under children
abbrev pub IsClosed : Map Object → (ℕ → Bool) → Type 0
IsClosed objects marked = (a b : ℕ) → IsTrue (marked a) → Child objects a b → IsTrue (marked b)

-- these were added to the marks, which are closed; if marking is exact, nothing else was added
pub record Marks (Exact : Type 0) (objects : Map Object) (old new : ℕ → Bool) (gained : ℕ → Type 0) : Type 0 where
  pub closed : IsClosed objects new
  pub least : (a : ℕ) → IsTrue (old a) ⊎ gained a → IsTrue (new a)
  pub most : Exact → (a : ℕ) → IsTrue (new a) → IsTrue (old a) ⊎ gained a

-- an object's children reach it; with `but_itself` the object itself doesn't count as its child
abbrev pub IsLeadingBut : Map Object → Bool → ℕ → ℕ → Type 0
IsLeadingBut objects but_itself object a = (first : ℕ) × Child objects object first × (IsTrue but_itself → first ≢ object) × Leads objects first a

-- everything that an object reaches is marked, except possibly the object itself
abbrev pub IsLastToMark : Map Object → (ℕ → Bool) → ℕ → Type 0
IsLastToMark objects marked object = (a : ℕ) → Leads objects object a → IsTrue (marked a) ⊎ (a ≡ object)

-- the objects of a table's registrations exist, and so do the targets of links
abbrev pub AreRegistered : Map Object → Map Registration → Type 0
AreRegistered objects registrations = (a : ℕ) (r : Registration) → get registrations a ≡ Some r → IsTrue (contains_key objects a)

abbrev pub AreTargets : Map Object → Map ℕ → Type 0
AreTargets objects links = (link target : ℕ) → get links link ≡ Some target → IsTrue (contains_key objects target)

-- an unmarked registered object reaches it
abbrev pub AreReached : Map Object → Map Registration → (ℕ → Bool) → ℕ → Type 0
AreReached objects registrations marked a = (o : ℕ) × (r : Registration) × (get registrations o ≡ Some r) × IsTrue (not (marked o)) × Leads objects o a

-- the links whose targets are marked, and the links that marked objects hold
abbrev pub with_targets : Map ℕ → (ℕ → Bool) → Map ℕ
with_targets links marked = retain_keys links (λ link. option_map_or marked (get links link) false)

abbrev pub with_holders : (ℕ → Option ℕ) → Map Object → Map ℕ → (ℕ → Bool) → Map ℕ
with_holders place objects links marked = retain_keys links (λ link. option_map_or (λ _. is_held place objects marked link) (get links link) false)
