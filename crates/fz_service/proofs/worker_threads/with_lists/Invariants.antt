use Rattle.std.proofs.Common.{◌≡◌, ℕ, ◌++◌, ◌+◌, ◌<◌, ◌≤◌, Some, length, map, slice_get, vec_len, vec_capacity}
use Rattle.fz_service.specs.Workers.{slots_of}
use Rattle.fz_service.proofs.worker_threads.with_lists.Given as goal

abbrev pub invariant-loop-alloc : goal.invariant-loop-alloc
invariant-loop-alloc g l = record {
  all : map (λ worker. worker.slot) l.workers.items ++ slots_of l.seats.items ≡ slots_of l.initial.seats.items;
  lists : (i : ℕ) (list : _) → slice_get l.initial.procs i ≡ Some list → i < length l.workers.items → slice_get (map (λ worker. worker.procs) l.workers.items) i ≡ Some list;
  rest : (i : ℕ) → length l.workers.items ≤ i → slice_get l.procs i ≡ slice_get l.initial.procs i;
  few : length l.workers.items + length l.seats.items ≡ length l.initial.seats.items;
  room : vec_capacity l.workers ≡ vec_capacity l.initial.workers;
  kept : vec_capacity l.seats ≡ vec_capacity l.initial.seats;
}

abbrev pub decreases-loop-alloc : goal.decreases-loop-alloc
decreases-loop-alloc g l = vec_len l.seats
