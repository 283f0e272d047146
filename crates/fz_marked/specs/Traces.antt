-- How the second set of marks grows.
-- code: fz_marked/src/children.rt, marked.rt
use Rattle.std.specs.Prelude.{◌≡◌, ◌≢◌, ℕ, Bool, Option, Some, ◌↔◌, ◌⊎◌, IsTrue}
use Rattle.std.specs.FinSet.{contains}
use Rattle.fz_model.specs.State.{Map, Object}
use Rattle.fz_model.specs.Memory.{points, word_at}
use Rattle.fz_model.specs.Reachability.{Leads}
use Rattle.fz_marker.specs.Marking.{Marking, IsClosed}

-- the second set gained exactly these objects, and is closed under children
pub record Traces (objects : Map Object) (old new : Marking) (gained : ℕ → Type 0) : Type 0 where
  pub same : new ≡ record old { traced = new.traced }
  pub closed : IsClosed objects new.traced
  pub members : (a : ℕ) → IsTrue (contains new.traced a) ↔ (IsTrue (contains old.traced a) ⊎ gained a)

-- a word of the object reaches it; with `but_itself`, not by pointing to the object itself
abbrev pub IsTargetBut : Map Object → Bool → ℕ → ℕ → ℕ → Type 0
IsTargetBut objects but_itself object word a = (first : ℕ) × (points objects word ≡ Some first) × (IsTrue but_itself → first ≢ object) × Leads objects first a

-- the object to which the word at an address points
abbrev pub value_at : Map Object → ℕ → Option ℕ
value_at objects address = points objects (word_at objects address)
