-- What C is told of a take, from what the line answered.
use Rattle.std.proofs.Common.{◌≡◌, ℕ, ◌∙◌, sym, inl, inr, subst}
use Rattle.fz_model.specs.declared.answers.Entry.{Entry}
use Rattle.fz_line.specs.States.{SeatState, DutyState}
use Rattle.fz_line.specs.Takes.{MatchTake, GainsEntry}
use Rattle.fz_line.specs.declared.seat.Take.{Take}
use Rattle.fz_line.specs.declared.seat.Take.TheVariants as take
use Rattle.fz_c.specs.declared.line.seat_session.SeatSession.{SeatSession}
use Rattle.fz_c.specs.declared.line.seat_session.SeatSession.TheVariants.{Idle, Working, Away}
use Rattle.fz_c.specs.Seats.{Takes, AnswersTake, Asks, code_of_take}

pub code_is : (taken : Take) (new : SeatSession) (code : ℕ) (told : Entry → Type 0) (kept : Type 0) → AnswersTake taken new code told kept → code ≡ code_of_take taken
code_is (take.Taken duty) (Working same) code told kept is = is.1
code_is (take.Taken duty) (Idle other) code told kept is = absurd is
code_is (take.Taken duty) Away code told kept is = absurd is
code_is (take.Empty other) (Idle found) code told kept is = is.1
code_is (take.Empty other) (Working duty) code told kept is = absurd is
code_is (take.Empty other) Away code told kept is = absurd is
code_is (take.Busy other) (Idle found) code told kept is = is.1
code_is (take.Busy other) (Working duty) code told kept is = absurd is
code_is (take.Busy other) Away code told kept is = absurd is

pub takes : (seat : SeatState) (taken : Take) (new : SeatSession) (code : ℕ) (told : Entry → Type 0) (kept : Type 0) → MatchTake taken (GainsEntry seat) (λ same. same ≡ seat) → AnswersTake taken new code told kept → Takes (Idle seat) new code told kept
takes seat (take.Taken duty) (Working same) code told kept gains is =
    (is.1, subst (GainsEntry seat) (sym is.0) gains, subst (λ (d : DutyState). told d.entry) (sym is.0) is.2)
takes seat (take.Taken duty) (Idle other) code told kept gains is = absurd is
takes seat (take.Taken duty) Away code told kept gains is = absurd is
takes seat (take.Empty other) (Idle found) code told kept same is = (is.0 ∙ same, inl is.1, is.2)
takes seat (take.Empty other) (Working duty) code told kept same is = absurd is
takes seat (take.Empty other) Away code told kept same is = absurd is
takes seat (take.Busy other) (Idle found) code told kept same is = (is.0 ∙ same, inr is.1, is.2)
takes seat (take.Busy other) (Working duty) code told kept same is = absurd is
takes seat (take.Busy other) Away code told kept same is = absurd is

pub asks_idle : (session : SeatSession) (seat : SeatState) (told : Take → Type 0) (same : Type 0) (code : ℕ) (taken : Take) → session ≡ Idle seat → told taken → code ≡ code_of_take taken → Asks session told same code
asks_idle session seat told same code taken e t k = subst (λ (s : SeatSession). Asks s told same code) (sym e) (taken, t, k)
