-- Queueing every registration, whatever is marked.
-- code: fz_pass/src/all.rt
use Rattle.std.specs.Prelude.{◌≡◌, ℕ, Bool, List, [], ◌++◌, map, Some, Contains, All, AllPairs}
use Rattle.std.specs.FinMap.{get}
use Rattle.fz_model.specs.declared.kinds.ObjKind.TheVariants.{Atomic}
use Rattle.fz_model.specs.declared.answers.Entry.{Entry}
use Rattle.fz_model.specs.declared.answers.Pick.{Pick}
use Rattle.fz_model.specs.declared.answers.Registration.{Registration}
use Rattle.fz_model.specs.Extents.{mapped}
use Rattle.fz_model.specs.State.{Map, Object}
use Rattle.fz_model.specs.Pass.{entries_of}
use Rattle.fz_pass.specs.Flagged.{ComesAfterFlag}
use Rattle.fz_pass.specs.Picking.{pick_of}

-- an object of which nothing is known
abbrev pub unknown : Object
unknown = record { kind = Atomic; birth = 0; words = [] }

abbrev pub unknown_objects : Map Registration → Map Object
unknown_objects registrations = mapped (λ _ _. unknown) registrations

-- it is the pick of its registration, without a birth
abbrev pub IsQueuedOf : Map Registration → Pick → Type 0
IsQueuedOf registrations p = (r : Registration) × (get registrations p.obj ≡ Some r) × (p ≡ pick_of r p.obj unknown)

-- the entry of each registration is appended to the queue, the flagged ones after the others, by rank, then address, with successive numbers, and with pass 0
pub record QueuesAll (first : ℕ) (registrations : Map Registration) (late : ℕ → Bool) (queue new_queue : List Entry) : Type 0 where
  pub picks : List Pick
  pub queued : new_queue ≡ queue ++ entries_of 0 first picks
  pub ordered : AllPairs (ComesAfterFlag late registrations) picks
  pub each : All (IsQueuedOf registrations) picks
  pub whole : (a : ℕ) (r : Registration) → get registrations a ≡ Some r → Contains (map (λ (p : Pick). p.obj) picks) a
