-- What a take returns, and what a finish replies.
-- code: fz_service/src/seat.rt, locked.rt
use Rattle.std.specs.Prelude.{◌≡◌, ℕ, Result, Ok, Err}
use Rattle.fz_model.specs.declared.refusal.Refusal.{Refusal}
use Rattle.fz_line.specs.States.{Line, SeatState, DutyState}
use Rattle.fz_line.specs.declared.seat.Take as line
use Rattle.fz_line.specs.declared.seat.Take.TheVariants as of_line
use Rattle.fz_service.specs.declared.seat.Take.{Take}
use Rattle.fz_service.specs.declared.seat.Take.TheVariants.{Taken, Empty, Busy}

-- a claim about the duty, if the take returned one, and else about the seat
abbrev pub MatchTake : {O : Type 0} → Take O → (DutyState → Type 0) → (SeatState → Type 0) → Type 0
MatchTake (Taken duty) taken same = taken duty
MatchTake (Empty seat) taken same = same seat
MatchTake (Busy seat) taken same = same seat

-- the share has this amount, which is how many entries its seat finished; the seat belongs to this line. Means only.
abbrev pub IsShareOf : Line → ℕ → line.Take → Type 0
IsShareOf line amount (of_line.Taken duty) = (duty.seat.line ≡ line) × (amount ≡ duty.seat.finished)
IsShareOf line amount (of_line.Empty seat) = (seat.line ≡ line) × (amount ≡ seat.finished)
IsShareOf line amount (of_line.Busy seat) = (seat.line ≡ line) × (amount ≡ seat.finished)

-- a take returns what the line returned
abbrev pub IsSameTake : {O : Type 0} → line.Take → Take O → Type 0
IsSameTake (of_line.Taken old) (Taken duty) = duty ≡ old
IsSameTake (of_line.Empty old) (Empty seat) = seat ≡ old
IsSameTake (of_line.Busy old) (Busy seat) = seat ≡ old
IsSameTake _ _ = ⊥

-- the world's reply, without the seat or the duty
abbrev pub reply_of : Result SeatState (Refusal × DutyState) → Result (Unit {0}) Refusal
reply_of (Ok seat) = Ok tt
reply_of (Err refused) = Err refused.0
