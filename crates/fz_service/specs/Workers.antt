-- How workers change their seats.
-- code: fz_service/src/worker_threads.rt, workers.rt
use Rattle.std.specs.Prelude.{◌≡◌, ℕ, ◌+◌, ◌<◌, List, [], ◌∷◌, ◌++◌, length, map, slice_get, slice_index_or, Option, Some, None, IsSomeAnd, Bool, true, false}
use Rattle.fz_model.specs.declared.answers.Entry.{Entry}
use Rattle.fz_line.specs.States.{SeatState, DutyState}

-- the same seat, with what it took since appended to its list
pub record Extends (old new : SeatState) : Type 0 where
  pub line : new.line ≡ old.line
  pub index : new.index ≡ old.index
  pub since : List Entry
  pub took : new.took ≡ old.took ++ since

-- the duty became a seat again, finished or forfeited
abbrev pub Serves : DutyState → SeatState → Bool → Type 0
Serves duty seat true = seat ≡ record duty.seat { finished = duty.seat.finished + 1 }
Serves duty seat false = seat ≡ record duty.seat { forfeited = duty.seat.forfeited + 1 }

-- each has kept its position: the same seat, with what it took since
abbrev pub ExtendEach : List SeatState → List SeatState → Type 0
ExtendEach old new = (length new ≡ length old) × ((i : ℕ) (d : SeatState) → i < length old → Extends (slice_index_or old i d) (slice_index_or new i d))

-- each of these is where it was, of the same size
pub record KeepSizes {X : Type 0} (size : X → ℕ) (old new : List X) : Type 0 where
  pub each : (i : ℕ) (x : X) → slice_get old i ≡ Some x → IsSomeAnd (slice_get new i) (λ y. size y ≡ size x)

---- how seats are sent to threads and back: means only

abbrev pub slots_of : List SeatState → List (Option SeatState)
slots_of seats = map Some seats

-- the seats in the slots that aren't empty
abbrev pub in_slots : List (Option SeatState) → List SeatState
in_slots [] = []
in_slots (Some seat ∷ slots) = seat ∷ in_slots slots
in_slots (None ∷ slots) = in_slots slots

-- an empty slot stays empty
abbrev pub SlotExtends : Option SeatState → Option SeatState → Type 0
SlotExtends (Some old) (Some new) = Extends old new
SlotExtends (Some old) None = ⊥
SlotExtends None (Some new) = ⊥
SlotExtends None None = Unit {0}
