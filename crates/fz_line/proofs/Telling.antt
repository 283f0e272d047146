-- What a take tells of its steal.
use Rattle.std.proofs.Common.{ap}
use Rattle.crossbeam_deque.specs.declared.steal.Steal.{Steal}
use Rattle.crossbeam_deque.specs.declared.steal.Steal.TheVariants as steal
use Rattle.fz_model.specs.declared.answers.Entry as answers
use Rattle.fz_line.specs.States.{SeatState, DutyState}
use Rattle.fz_line.specs.declared.seat.Take.{Take}
use Rattle.fz_line.specs.declared.seat.Take.TheVariants.{Taken, Empty, Busy}
use Rattle.fz_line.specs.Takes.{AnswersSteal, IsReplyTo}

pub replies_to : (stolen : Steal answers.Entry) (seat : SeatState) (taken : Take) → AnswersSteal stolen seat taken → IsReplyTo stolen taken
replies_to (steal.Success entry) seat (Taken duty) is = ap (λ (d : DutyState). d.entry) is
replies_to (steal.Success entry) seat (Empty same) is = absurd is
replies_to (steal.Success entry) seat (Busy same) is = absurd is
replies_to steal.Empty seat (Taken duty) is = absurd is
replies_to steal.Empty seat (Empty same) is = tt
replies_to steal.Empty seat (Busy same) is = absurd is
replies_to steal.Retry seat (Taken duty) is = absurd is
replies_to steal.Retry seat (Empty same) is = absurd is
replies_to steal.Retry seat (Busy same) is = tt
