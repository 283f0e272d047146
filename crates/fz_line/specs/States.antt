-- The models of an owner, a seat and a duty.
-- code: fz_line/src/owner.rt, seat.rt, duty.rt
use Rattle.std.specs.Prelude.{◌≡◌, ℕ, zero, suc, ◌+◌, List, [], ◌∷◌, ◌++◌, length}
use Rattle.std.specs.List.{flat_map}
use Rattle.fz_model.specs.declared.answers.Entry.{Entry}
use Rattle.fz_line.specs.Numbers.{Rises}

-- what identifies a line
abbrev pub Line : Type 0
Line = ℕ × ℕ

pub record OwnerState : Type 0 where
  pub line : Line
  pub seats : ℕ  -- the number of seats
  pub room : ℕ  -- how many entries can be sent before it may allocate
  pub sent : List Entry  -- all entries ever sent
  pub popped : List Entry  -- the entries that a drain took out

pub record SeatState : Type 0 where
  pub line : Line
  pub index : ℕ
  pub took : List Entry  -- all entries that it took, in order
  pub finished : ℕ
  pub forfeited : ℕ

-- a seat, and the entry that it took last
pub record DutyState : Type 0 where
  pub seat : SeatState
  pub entry : Entry

abbrev pub owner_state : Line → ℕ → ℕ → List Entry → List Entry → OwnerState
owner_state line seats room sent popped = record { line = line; seats = seats; room = room; sent = sent; popped = popped }

abbrev pub seat_state : Line → ℕ → List Entry → ℕ → ℕ → SeatState
seat_state line index took finished forfeited = record { line = line; index = index; took = took; finished = finished; forfeited = forfeited }

-- the seats of a new line, with the indices from 0 on
abbrev pub new_seats : Line → ℕ → List SeatState
new_seats line zero = []
new_seats line (suc n) = new_seats line n ++ seat_state line n [] 0 0 ∷ []

-- what all these seats took, seat by seat
abbrev pub taken_by : List SeatState → List Entry
taken_by seats = flat_map (λ (seat : SeatState). seat.took) seats

-- a seat without an entry in flight: its entries ascend by number, and each was finished or forfeited
abbrev pub IsIdle : SeatState → Type 0
IsIdle seat = Rises seat.took × (length seat.took ≡ seat.finished + seat.forfeited)
