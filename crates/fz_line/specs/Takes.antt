-- What a take returns.
-- code: fz_line/src/seat.rt
use Rattle.std.specs.Prelude.{◌≡◌, ◌<◌, ◌+◌, [], ◌∷◌, ◌++◌, length, All}
use Rattle.crossbeam_deque.specs.declared.steal.Steal.{Steal}
use Rattle.crossbeam_deque.specs.declared.steal.Steal.TheVariants as steal
use Rattle.crossbeam_deque.specs.Steals.{MatchSteal}
use Rattle.fz_model.specs.declared.answers.Entry as answers
use Rattle.fz_line.specs.States.{SeatState, DutyState}
use Rattle.fz_line.specs.declared.seat.Take.{Take}
use Rattle.fz_line.specs.declared.seat.Take.TheVariants.{Taken, Empty, Busy}

-- a claim about the duty, if the take returned one, and else about the seat
abbrev pub MatchTake : Take → (DutyState → Type 0) → (SeatState → Type 0) → Type 0
MatchTake (Taken duty) taken same = taken duty
MatchTake (Empty seat) taken same = same seat
MatchTake (Busy seat) taken same = same seat

-- the duty is the seat with the entry appended to its list; the entry's number exceeds all that the seat took before
abbrev pub GainsEntry : SeatState → DutyState → Type 0
GainsEntry seat duty = (duty.seat ≡ record seat { took = seat.took ++ duty.entry ∷ [] }) × All (λ e. e.seq < duty.entry.seq) seat.took

-- ---- the steal of a take

-- what a steal added to the seat: one entry, or nothing
abbrev pub Gives : Steal answers.Entry → SeatState → SeatState → Type 0
Gives r old seat = MatchSteal r (seat ≡ old) (seat ≡ old) (λ x. GainsEntry old (record { seat = seat; entry = x }))

-- each result of a steal is returned as the matching result of a take
abbrev pub IsReplyTo : Steal answers.Entry → Take → Type 0
IsReplyTo (steal.Success entry) (Taken duty) = duty.entry ≡ entry
IsReplyTo steal.Empty (Empty seat) = Unit {0}
IsReplyTo steal.Retry (Busy seat) = Unit {0}
IsReplyTo _ _ = ⊥

-- the take says what one steal returned
abbrev pub Tells : (Steal answers.Entry → Type 0) → Take → Type 0
Tells replies taken = (stolen : Steal answers.Entry) × replies stolen × IsReplyTo stolen taken

-- ---- means only

-- if the steal returned an entry, the seat's list has one entry more than it finished and forfeited
abbrev pub FitsSteal : Steal answers.Entry → SeatState → Type 0
FitsSteal (steal.Success entry) seat = length seat.took ≡ seat.finished + seat.forfeited + 1
FitsSteal steal.Empty seat = length seat.took ≡ seat.finished + seat.forfeited
FitsSteal steal.Retry seat = length seat.took ≡ seat.finished + seat.forfeited

-- each result of the steal is returned as the matching result of the take
abbrev pub AnswersSteal : Steal answers.Entry → SeatState → Take → Type 0
AnswersSteal (steal.Success entry) seat (Taken duty) = duty ≡ record { seat = seat; entry = entry }
AnswersSteal steal.Empty seat (Empty same) = same ≡ seat
AnswersSteal steal.Retry seat (Busy same) = same ≡ seat
AnswersSteal _ _ _ = ⊥
