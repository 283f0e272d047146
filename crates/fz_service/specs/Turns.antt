-- How the turns of a worker change its seat and its diary.
-- code: fz_service/src/turn.rt, workers.rt
use Rattle.std.specs.Prelude.{◌≡◌, ℕ, ◌+◌, ◌≤◌, List, [], ◌∷◌, length, Option, Some, None}
use Rattle.fz_line.specs.States.{SeatState, DutyState}
use Rattle.fz_line.specs.Takes.{GainsEntry}
use Rattle.fz_service.specs.Workers.{Serves}
use Rattle.fz_service.specs.Diary.{run_of}
use Rattle.fz_service.specs.declared.event.Event.{Event}
use Rattle.fz_service.specs.declared.event.Event.TheVariants.{FoundEmpty}
use Rattle.fz_service.specs.declared.seat.Take.{Take}
use Rattle.fz_service.specs.declared.seat.Take.TheVariants as take
use Rattle.fz_service.specs.declared.turn.CameTo.{CameTo}
use Rattle.fz_service.specs.declared.turn.CameTo.TheVariants.{Served, Empty, Busy}

-- a duty became a seat again, or the seat is the one that the take returned; the turn's result says which
abbrev pub IsAnswered : {O : Type 0} → Take O → CameTo → SeatState → Type 0
IsAnswered (take.Taken duty) (Served finished) seat = Serves duty seat finished
IsAnswered (take.Empty same) Empty seat = seat ≡ same
IsAnswered (take.Busy same) Busy seat = seat ≡ same
IsAnswered _ _ _ = ⊥

-- the seat took an entry, whose duty has ended, and the entry's procedure was run, if a list of this many has it; or the seat is unchanged, and the line was
-- found empty or not
abbrev pub Turns : ℕ → SeatState → CameTo → SeatState → List Event → Type 0
Turns count old (Served finished) new events = (duty : DutyState) × GainsEntry old duty × Serves duty new finished × (events ≡ run_of count duty.entry)
Turns count old Empty new events = (new ≡ old) × (events ≡ FoundEmpty ∷ [])
Turns count old Busy new events = (new ≡ old) × (events ≡ [])

-- no more entries were taken than the limit; if fewer, the last turn took none
abbrev pub UsesUp : ℕ → SeatState → Option CameTo → SeatState → Type 0
UsesUp limit old None new = length new.took ≡ length old.took + limit
UsesUp limit old (Some (Served finished)) new = ⊥
UsesUp limit old (Some Empty) new = length new.took ≤ length old.took + limit
UsesUp limit old (Some Busy) new = length new.took ≤ length old.took + limit
