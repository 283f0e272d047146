use Rattle.std.proofs.Common.{◌≡◌, ◌++◌, length, vec_len, vec_capacity}
use Rattle.std.specs.List.{AllByRecursion}
use Rattle.fz_service.specs.States.{IsNewAt}
use Rattle.fz_service.proofs.prepared.share_out.Given as goal

abbrev pub invariant-loop-seats : goal.invariant-loop-seats
invariant-loop-seats g l = record {
  all : l.shared.items ++ l.seats.items ≡ l.initial.seats.items;
  parts : l.all.parts ≡ length l.seats.items;
  amount : l.all.amount ≡ 0;
  new : AllByRecursion (IsNewAt g.O.Opening.origin.line) l.seats.items;
  room : vec_capacity l.shared ≡ vec_capacity l.initial.shared;
}

abbrev pub decreases-loop-seats : goal.decreases-loop-seats
decreases-loop-seats g l = vec_len l.seats
