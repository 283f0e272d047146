-- What follows of the state under the lock, of an end, and of what a worker noted, in other words. These laws test the definitions.
-- code: fz_service/src/law.rt
use Rattle.std.specs.Prelude.{◌≡◌, ℕ, ◌+◌, ◌<◌, ◌≤◌, ◌↔◌, List, ◌++◌, length, drop, count_by, nat_lt, Contains, IsPermutation}
use Rattle.fz_model.specs.declared.answers.Entry.{Entry}
use Rattle.fz_line.specs.States.{SeatState, taken_by}
use Rattle.fz_service.specs.declared.ending.Final.{Final}
use Rattle.fz_service.specs.declared.event.Event.{Event}
use Rattle.fz_service.specs.declared.event.Event.TheVariants.{Ran}
use Rattle.fz_service.specs.Diary.{RunsEach, is_run}
use Rattle.fz_service.specs.Ends.{IsEnd}
use Rattle.fz_service.specs.States.{Origin, LockedState, IsInOrder, SendsMore}

-- what was sent, and the overflow queue after it, are the queue; and no more is held than was queued
pub record IsWholeQueue (s : LockedState) : Type 0 where
  pub all : s.sent ++ drop s.published s.world.queue ≡ s.world.queue
  pub count : length s.sent ≡ s.published
  pub held : length s.world.held ≤ length s.world.queue

abbrev pub OrdersQueue : Origin → LockedState → Type 0
OrdersQueue origin s = IsInOrder origin s → IsWholeQueue s

-- all of the queue was sent exactly if no push ran out of memory
abbrev pub SendsAll : Origin → LockedState → LockedState → Type 0
SendsAll origin old new = IsInOrder origin new → SendsMore origin old new → (new.shortages ≡ old.shortages) ↔ (new.published ≡ length new.world.queue)

-- each entry of the queue was taken by one seat or is left; as many were finished as the ledger says; and what was taken was finished or forfeited
pub record Accounts (s : LockedState) (seats : List SeatState) (end : Final) : Type 0 where
  pub each : IsPermutation (taken_by seats ++ end.left.items) s.world.queue
  pub finished : end.finished ≡ s.finished
  pub spent : length (taken_by seats) ≡ end.finished + end.forfeited

abbrev pub EndsWithAll : Origin → LockedState → List SeatState → Final → Type 0
EndsWithAll origin s seats end = IsInOrder origin s → IsEnd s seats end → Accounts s seats end

-- the procedure of each of these entries was run once, if the list has it, and nothing else was run
pub record RunsOnce (count : ℕ) (entries : List Entry) (events : List Event) : Type 0 where
  pub each : (e : Entry) → Contains entries e → e.proc < count → Contains events (Ran e.proc e.seq)
  pub only : (proc seq : ℕ) → Contains events (Ran proc seq) → (e : Entry) × Contains entries e × (e.proc ≡ proc) × (e.seq ≡ seq) × (proc < count)
  pub often : count_by is_run events ≡ count_by (λ (e : Entry). nat_lt e.proc count) entries

-- the entries are those that the seat took since
abbrev pub RunsItsEntries : ℕ → SeatState → SeatState → List Event → Type 0
RunsItsEntries count old new events = RunsEach count old new events → RunsOnce count (drop (length old.took) new.took) events
