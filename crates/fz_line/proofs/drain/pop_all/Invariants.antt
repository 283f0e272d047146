use Rattle.std.proofs.Common.{◌≡◌, ◌+◌, ◌-◌, ◌++◌, length, drop, vec_len, vec_capacity}
use Rattle.crossbeam_deque.specs.Handles.{worker_view}
use Rattle.fz_line.specs.Views.{total}
use Rattle.fz_line.specs.Passes.{IsKept, HasPopped}
use Rattle.fz_line.proofs.drain.pop_all.Given as goal

abbrev pub invariant-loop-entry : goal.invariant-loop-entry
invariant-loop-entry l =
    let old = worker_view l.initial.worker in
    let taken = total (λ list. length list) old.lists in record {
      kept : IsKept l.initial.worker l.worker;
      popped : HasPopped l.initial.worker l.out.items l.worker;
      so_far : drop taken old.sent ≡ l.out.items ++ drop (taken + length l.out.items) old.sent;
      capacity : vec_capacity l.out ≡ vec_capacity l.initial.out;
    }

abbrev pub decreases-loop-entry : goal.decreases-loop-entry
decreases-loop-entry l = length (worker_view l.initial.worker).sent - vec_len l.out
