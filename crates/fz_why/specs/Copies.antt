-- What is told by a copy of a heap.
-- code: fz_why/src/snapshot.rt, stuck_objects.rt
use Rattle.std.specs.Prelude.{ℕ, List}
use Rattle.fz_model.specs.declared.answers.Registration.{Registration}
use Rattle.fz_finalizers.specs.States.{State}
use Rattle.fz_why.specs.declared.reason.Reason.{Reason}
use Rattle.fz_why.specs.Snapshot.{Copy, HasAll, objects_of, place_of, value_of}
use Rattle.fz_why.specs.Why.{IsToldOf, ListsStuck}

-- the copy has what it should have, and the reason is true of the object
abbrev pub IsToldIn : Copy → State → Reason → ℕ → Type 0
IsToldIn copy s reason object = HasAll (objects_of copy.cells) s × IsToldOf (place_of copy.cells copy.links) (value_of copy.cells copy.links) (objects_of copy.cells) copy.roots s reason object

-- the copy has what it should have, and these are the objects that wait for a ring
abbrev pub AreStuckIn : Copy → State → List (ℕ × Registration) → List ℕ → Type 0
AreStuckIn copy s registrations objects = HasAll (objects_of copy.cells) s × ListsStuck (place_of copy.cells copy.links) (value_of copy.cells copy.links) (objects_of copy.cells) copy.roots s registrations objects
