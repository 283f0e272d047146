-- What the owner's end of the deque and a seat's pass carry. Means only: no public contract cites them.
-- code: fz_line/src/owner.rt, taker.rt
use Rattle.std.specs.Prelude.{◌≡◌, ℕ, ◌-◌, ◌≤◌, List, [], length, replicate, true}
use Rattle.crossbeam_deque.specs.Handles.{Pass, view, IsPassOf, worker_deque, worker_view, worker_flavor, worker_index, worker_capacity}
use Rattle.crossbeam_deque.specs.declared.handles.Worker.{Worker}
use Rattle.fz_model.specs.declared.answers.Entry.{Entry}
use Rattle.fz_line.specs.declared.protocol.View.{View}
use Rattle.fz_line.specs.Numbers.{Rises}
use Rattle.fz_line.specs.Views.{sent_limit, view_of, seat_view, first_list}
use Rattle.fz_model.specs.declared.limits.TheConstants.{MAX_WORKERS}

module _ {A : Type 0} where
  -- all entries that were taken with the pass
  abbrev pub took_by : Pass Entry View A → List Entry
  took_by p = first_list (view p).lists

  -- a seat's pass at this line
  abbrev pub IsSeatPass : (ℕ × ℕ) × A → Pass Entry View A → Type 0
  IsSeatPass deque p = IsPassOf deque p × (view p ≡ seat_view (took_by p)) × Rises (took_by p) × (length (took_by p) ≤ sent_limit)

module _ {A P : Type 0} where
  -- a first-in first-out end, to which no more entries were pushed than were sent
  abbrev pub IsFifo : Worker Entry A View P → Type 0
  IsFifo w = (worker_flavor w ≡ 0) × (worker_index w ≤ length (worker_view w).sent)

  -- the owner's end, with the empty lists of the seats that weren't opened
  abbrev pub IsOwnerEnd : ℕ → Worker Entry A View P → Type 0
  IsOwnerEnd seats w = IsFifo w × (worker_view w ≡ view_of true (worker_view w).sent (worker_view w).popped (replicate (MAX_WORKERS - seats) [])) × (seats ≤ MAX_WORKERS)

  -- the owner's end, which has popped nothing
  abbrev pub HasPoppedNothing : Worker Entry A View P → Type 0
  HasPoppedNothing w = IsFifo w × (worker_view w ≡ view_of true (worker_view w).sent [] (worker_view w).lists)

  -- the same end of the same deque, whose buffer has not become smaller
  abbrev pub IsKept : Worker Entry A View P → Worker Entry A View P → Type 0
  IsKept old new = (worker_deque new ≡ worker_deque old) × IsFifo new × (worker_capacity old ≤ worker_capacity new)

  abbrev pub HasPopped : Worker Entry A View P → List Entry → Worker Entry A View P → Type 0
  HasPopped old popped new = worker_view new ≡ view_of true (worker_view old).sent popped (worker_view old).lists
