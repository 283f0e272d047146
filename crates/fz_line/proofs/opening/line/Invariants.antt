use Rattle.std.proofs.Common.{◌≡◌, [], vec_len, vec_capacity, ◌≤◌}
use Rattle.crossbeam_deque.specs.Handles.{worker_deque, worker_view, worker_capacity}
use Rattle.fz_line.specs.States.{new_seats}
use Rattle.fz_line.specs.Passes.{IsOwnerEnd}
use Rattle.fz_line.proofs.opening.line.Given as goal

abbrev pub invariant-loop-index : goal.invariant-loop-index
invariant-loop-index l = record {
  same : worker_deque l.worker ≡ worker_deque l.initial.worker;
  end : IsOwnerEnd l.index l.worker;
  nothing_sent : (worker_view l.worker).sent ≡ [];
  nothing_popped : (worker_view l.worker).popped ≡ [];
  seats : l.seats.items ≡ new_seats (worker_deque l.initial.worker).0 l.index;
  count : vec_len l.seats ≡ l.index;
  capacity : vec_capacity l.seats ≡ l.count;
  room : l.room ≤ worker_capacity l.worker;
}
