use Rattle.std.proofs.Common.{◌≡◌, ◌++◌, length, sum_by, All, vec_len, vec_capacity}
use Rattle.fz_line.specs.States.{SeatState}
use Rattle.fz_service.specs.Ends.{IsOfLine}
use Rattle.fz_service.proofs.ending.without_shares.Given as goal

abbrev pub invariant-loop-seats : goal.invariant-loop-seats
invariant-loop-seats g l = record {
  all : l.plain.items ++ l.seats.items ≡ l.initial.seats.items;
  parts : l.all.parts ≡ length l.plain.items;
  amount : l.all.amount ≡ sum_by (λ (seat : SeatState). seat.finished) l.plain.items;
  lines : All (IsOfLine g.O.Opening.origin.line) l.plain.items;
  room : vec_capacity l.plain ≡ vec_capacity l.initial.plain;
}

abbrev pub decreases-loop-seats : goal.decreases-loop-seats
decreases-loop-seats g l = vec_len l.seats
