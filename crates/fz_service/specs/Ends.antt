-- How a service ends.
-- code: fz_service/src/ending.rt, service.rt, beside.rt
use Rattle.std.specs.Prelude.{◌≡◌, ℕ, ◌+◌, ◌-◌, ◌<◌, ◌⊎◌, Bool, true, ◌==◌, List, length, take, drop, All, sum_by, IsPermutation}
use Rattle.std.specs.List.{list_any}
use Rattle.std.specs.FinMap.{len}
use Rattle.fz_model.specs.declared.refusal.Refusal.{Refusal}
use Rattle.fz_model.specs.declared.refusal.Refusal.TheVariants.{SeatsMissing, NoMemory}
use Rattle.fz_line.specs.States.{Line, SeatState, taken_by, IsIdle}
use Rattle.fz_service.specs.States.{Origin, LockedState, one_more, IsInOrder}
use Rattle.fz_service.specs.declared.ending.Final.{Final}

-- the state under the lock after an end that was refused: the same, but for the shortage that it counts if memory ran out
abbrev pub left_by : Refusal → LockedState → LockedState
left_by NoMemory s = record s { shortages = one_more s.shortages }
left_by _ s = s

-- some seat has this index
abbrev pub has_index : ℕ → List SeatState → Bool
has_index index seats = list_any (λ (seat : SeatState). seat.index == index) seats

-- there are as many seats as workers, and every index below that number occurs: so each occurs once
abbrev pub IsEachOnce : ℕ → List SeatState → Type 0
IsEachOnce workers seats = (length seats ≡ workers) × ((index : ℕ) → index < workers → has_index index seats ≡ true)

-- why ending the service is refused
abbrev pub IsRefusedEnd : ℕ → List SeatState → Refusal → Type 0
IsRefusedEnd workers seats refusal =
    ((refusal ≡ SeatsMissing) × (IsEachOnce workers seats → ⊥)) ⊎ ((refusal ≡ NoMemory) × IsEachOnce workers seats)

abbrev pub IsOfLine : Line → SeatState → Type 0
IsOfLine line seat = seat.line ≡ line

-- the state under the lock at the end, the seats that were given back, and the totals
pub record IsEnd (s : LockedState) (seats : List SeatState) (end : Final) : Type 0 where
  -- the seats took a prefix of the queue, each entry once; each seat's entries ascend by number
  pub first : IsPermutation (taken_by seats) (take end.taken s.world.queue)
  pub idle : All IsIdle seats
  -- no seat took the rest of the queue
  pub left : end.left.items ≡ drop end.taken s.world.queue
  pub taken : end.taken ≡ length (taken_by seats)
  pub finished : end.finished ≡ sum_by (λ (seat : SeatState). seat.finished) seats
  pub forfeited : end.forfeited ≡ sum_by (λ (seat : SeatState). seat.forfeited) seats
  pub enqueued : end.enqueued ≡ length s.world.queue
  pub all : end.enqueued ≡ end.taken + length end.left.items
  pub spent : end.taken ≡ end.finished + end.forfeited
  -- the entries that are left or were forfeited are held
  pub held : length s.world.held ≡ length end.left.items + end.forfeited
  pub passes : end.passes ≡ s.world.passes
  pub reclaimed : end.reclaimed ≡ s.world.next_birth - len s.world.objects

-- the same for some state in order, since no contract can name what the lock protected
abbrev pub IsEndOfRun : Origin → List SeatState → Final → Type 0
IsEndOfRun origin seats end = (s : LockedState) × IsInOrder origin s × IsEnd s seats end

-- the same for a service of this size, which ended with all its seats
abbrev pub IsEndOfSize : ℕ → ℕ → ℕ → Final → Type 0
IsEndOfSize blocks frames workers end =
    (origin : Origin) × (origin.blocks ≡ blocks) × (origin.frames ≡ frames) × (origin.workers ≡ workers) × (seats : List SeatState) × IsEachOnce workers seats × IsEndOfRun origin seats end
