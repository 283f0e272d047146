-- The input and the result of a pass.
-- code: fz_finalizers/src/passes.rt
use Rattle.std.specs.Prelude.{ℕ, Bool, false, Option, length}
use Rattle.fz_model.specs.declared.kinds.LinkKind.TheVariants.{Short, Long}
use Rattle.std.specs.FinMap.{retain_keys}
use Rattle.std.specs.FinSet.{contains}
use Rattle.fz_model.specs.State.{Map, Object}
use Rattle.fz_pass.specs.Decides.{Parts}
use Rattle.fz_pass.specs.Flagged.{DecidesFlagged}
use Rattle.fz_pass.specs.Holds.{IsOfKey, Settles}
use Rattle.fz_pass.specs.Whole.{DecidesWhole}
use Rattle.fz_finalizers.specs.Cleanups.{is_due}
use Rattle.fz_finalizers.specs.Follows.{Follows, Cleans, Pass, next_pass}
use Rattle.fz_finalizers.specs.States.{State}

-- the host's objects, with the registrations and the links
abbrev pub parts_in : Map Object → State → Parts
parts_in objects s = record { objects = objects; registrations = s.registrations; short = s.short; long = s.long }

-- the same after a pass: only the marked objects remain
abbrev pub parts_left_in : Map Object → (ℕ → Bool) → State → Parts
parts_left_in objects marked s = parts_in (retain_keys objects marked) s

-- how a pass over a host's objects changes the state: which entries are queued, and what remains
abbrev pub DecidesFor : Type 0 → (ℕ → Option ℕ) → ℕ → State → Map Object → (ℕ → Bool) → State → Map Object → (ℕ → Bool) → Type 0
DecidesFor Exact place pass old objects found new new_objects marked =
    DecidesFlagged Exact place (contains old.late) pass (length old.queue) (parts_in objects old) found (parts_left_in new_objects marked new) old.queue new.queue

-- a pass with cleanups. Before what the pass itself queues come the short cleanups whose objects aren't found, and after it the long ones whose objects aren't
-- retained.
pub record PassesFor (Exact : Type 0) (place : ℕ → Option ℕ) (old : State) (objects : Map Object) (found : ℕ → Bool) (new : State) (new_objects : Map Object) (marked : ℕ → Bool) : Type 0 where
  pub begun : State
  pub passed : State
  pub short : Cleans (next_pass old.passes) (is_due Short found) old begun
  pub decided : DecidesFor Exact place (next_pass old.passes) begun objects found passed new_objects marked
  pub follows : Follows begun Pass passed
  pub long : Cleans (next_pass old.passes) (is_due Long marked) passed new

-- the same over a host with ephemerons
abbrev pub DecidesWholeFor : Type 0 → (ℕ → Option ℕ) → (Map Object → ℕ → Option ℕ) → ℕ → State → Map Object → (ℕ → Bool) → State → Map Object → (ℕ → Bool) → Type 0
DecidesWholeFor Exact place value pass old objects found new new_objects marked =
    DecidesWhole Exact place value (contains old.late) pass (length old.queue) (parts_in objects old) old.ephemerons found (parts_left_in new_objects marked new) new.ephemerons old.queue new.queue

pub record PassesFound (Exact : Type 0) (place : ℕ → Option ℕ) (value : Map Object → ℕ → Option ℕ) (old : State) (objects : Map Object) (found : ℕ → Bool) (new : State) (new_objects : Map Object) (new_marked : ℕ → Bool) : Type 0 where
  pub begun : State
  pub passed : State
  pub short : Cleans (next_pass old.passes) (is_due Short found) old begun
  pub decided : DecidesWholeFor Exact place value (next_pass old.passes) begun objects found passed new_objects new_marked
  pub follows : Follows begun Pass passed
  pub long : Cleans (next_pass old.passes) (is_due Long new_marked) passed new

-- a whole pass: what the marked objects hold is found
abbrev pub PassesWhole : Type 0 → (ℕ → Option ℕ) → (Map Object → ℕ → Option ℕ) → State → Map Object → (ℕ → Bool) → State → Map Object → (ℕ → Bool) → Type 0
PassesWhole Exact place value old objects marked new new_objects new_marked =
    (found : ℕ → Bool) × Settles place value objects (IsOfKey old.ephemerons) Exact marked found × PassesFound Exact place value old objects found new new_objects new_marked

-- every cleanup is queued, as if nothing were marked
abbrev pub CleansAll : State → State → Type 0
CleansAll old new = (mid : State) × Cleans 0 (is_due Short (λ _. false)) old mid × Cleans 0 (is_due Long (λ _. false)) mid new
