use Rattle.std.proofs.Common.{◌≡◌, ℕ, ◌++◌, ◌+◌, ◌<◌, ◌≤◌, Some, length, map, slice_get, vec_len, vec_capacity}
use Rattle.fz_service.specs.Workers.{in_slots}
use Rattle.fz_service.proofs.worker_threads.without_lists.Given as goal

abbrev pub invariant-loop-workers : goal.invariant-loop-workers
invariant-loop-workers g l = record {
  all : l.seats.items ++ in_slots (map (λ worker. worker.slot) l.workers.items) ≡ in_slots (map (λ worker. worker.slot) l.initial.workers.items);
  few : length l.seats.items + length l.workers.items ≤ length l.initial.workers.items;
  number : l.number + length l.workers.items ≡ length l.initial.workers.items;
  left : (i : ℕ) → slice_get (map (λ worker. worker.procs) l.workers.items) i ≡ slice_get (map (λ worker. worker.procs) l.initial.workers.items) (l.number + i);
  lists : (i : ℕ) (list : _) → slice_get (map (λ worker. worker.procs) l.initial.workers.items) i ≡ Some list → i < l.number → i < length l.procs → slice_get l.procs i ≡ Some list;
  rest : (i : ℕ) → l.number ≤ i → slice_get l.procs i ≡ slice_get l.initial.procs i;
  room : vec_capacity l.seats ≡ vec_capacity l.initial.seats;
}

abbrev pub decreases-loop-workers : goal.decreases-loop-workers
decreases-loop-workers g l = vec_len l.workers
