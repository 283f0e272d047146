-- The invariant between the parts of finalizers: each registration and each cleanup has room for its entry, and each link for a move.
-- code: fz_finalizers/src/finalizers.rt
use Rattle.std.specs.Prelude.{◌≡◌, ℕ, ◌+◌, ◌-◌, ◌≤◌, min, List, [], length}
use Rattle.std.specs.FinMap.{len}
use Rattle.fz_model.specs.declared.limits.TheConstants.{COUNT_LIMIT}
use Rattle.fz_table.specs.Tabled.{Content, Tabled}
use Rattle.fz_links.specs.Linked.{Linked}
use Rattle.fz_model.specs.State.{Map}
use Rattle.fz_finalizers.specs.declared.cleanups.Attached.{Attached}
use Rattle.fz_finalizers.specs.Cleanups.{Cleanups}
use Rattle.fz_finalizers.specs.Ready.{Ready}
use Rattle.fz_pass.specs.Holds.{Ephemerons}
use Rattle.fz_finalizers.specs.States.{State, Rooms, Order, AreFlags}

pub record Fits (table : Content) (cleanups : Map Attached) (ready : Ready) : Type 0 where
  pub room : len table.registrations + len cleanups ≤ ready.room
  pub numbers : length ready.queue + len table.registrations + len cleanups ≤ table.next_number
  pub few : table.next_number ≤ COUNT_LIMIT
  pub flags : AreFlags table.registrations table.late

pub record HasMoves (short long : Linked) (moves : List (ℕ × ℕ)) (capacity : ℕ) : Type 0 where
  pub none : moves ≡ []
  pub few_short : len short.links ≤ capacity
  pub few_long : len long.links ≤ capacity

-- the model of the parts
abbrev pub state_of : Content → Linked → Linked → Ephemerons → Map Attached → Ready → ℕ → State
state_of table short long ephemerons cleanups ready passes = record {
  registrations = table.registrations;
  late = table.late;
  next_number = table.next_number;
  cleanups = cleanups;
  short = short.links;
  long = long.links;
  ephemerons = ephemerons;
  queue = ready.queue;
  taken = ready.taken;
  held = ready.held;
  passes = passes;
}

abbrev pub rooms_of : Tabled → Linked → Linked → Cleanups → Ready → ℕ → Rooms
rooms_of table short long cleanups ready moves = record {
  registrations = min table.room (ready.room - (len table.registrations + len cleanups.cleanups));
  short = min short.room (moves - len short.links);
  long = min long.room (moves - len long.links);
  cleanups = min cleanups.room (ready.room - (len table.registrations + len cleanups.cleanups));
}

abbrev pub order_of : Tabled → Linked → Linked → List (ℕ × Attached) → Ready → Order
order_of table short long cleanups ready = record { registrations = table.order; short = short.order; long = long.order; cleanups = cleanups; entries = ready.places }
