-- The model of finalizers: registrations, links, ephemerons, cleanups, entries, the room that is reserved, and the order of iterators.
-- code: fz_finalizers/src/finalizers.rt
use Rattle.std.specs.Prelude.{◌≡◌, ℕ, ◌+◌, ◌≤◌, min, Bool, List, [], ◌++◌, drop, Option, option_map, refl, Some, IsTrue, Result, Ok, Err}
use Rattle.std.specs.Coded.{Coded, code_by, coded×, coded_ℕ, coded_list, coded_option, coded_bool}
use Rattle.std.specs.List.{list_any}
use Rattle.std.specs.FinMap as map
use Rattle.std.specs.FinMap.{get, empty}
use Rattle.std.specs.FinSet as sets
use Rattle.std.specs.FinSet.{contains}
use Rattle.fz_model.specs.declared.answers.Entry.{Entry}
use Rattle.fz_model.specs.declared.answers.Registration.{Registration}
use Rattle.fz_model.specs.declared.kinds.RegKind.TheVariants.{Normal}
use Rattle.fz_model.specs.declared.kinds.LinkKind.{LinkKind}
use Rattle.fz_model.specs.declared.kinds.LinkKind.TheVariants.{Short, Long}
use Rattle.fz_model.specs.Codes.{entry_code, registration_code}
use Rattle.fz_model.specs.Events.{same_entry}
use Rattle.fz_model.specs.State.{Map}
use Rattle.fz_finalizers.specs.declared.kinds.Kind.{Kind}
use Rattle.fz_finalizers.specs.declared.refused.Refused.{Refused}
use Rattle.fz_table.specs.declared.limits.TheConstants.{MOST_ENTRIES}
use Rattle.fz_table.specs.declared.stored.Stored.{Stored}
use Rattle.fz_table.specs.Tabled.{Set, stored_code}
use Rattle.fz_pass.specs.Holds.{Ephemerons, no_ephemerons}
use Rattle.fz_finalizers.specs.declared.cleanups.Attached.{Attached}
use Rattle.fz_finalizers.specs.Cleanups.{attached_code}
use Rattle.fz_finalizers.specs.Kinds.{of_table}

pub record State : Type 0 where
  pub registrations : Map Registration  -- by object
  pub late : Set  -- the objects whose registrations are of kind `Unreachable`
  pub next_number : ℕ  -- the number of the next registration or cleanup
  pub cleanups : Map Attached  -- by number
  pub short : Map ℕ  -- the short links: from the word of a link to its target
  pub long : Map ℕ  -- the long links
  pub ephemerons : Ephemerons  -- of both kinds: from the word of each to its key
  pub queue : List Entry  -- every entry ever queued, in order
  pub taken : ℕ  -- how many of them were taken: these are a prefix of the queue
  pub held : List Entry  -- the taken entries that aren't finished, in queue order
  pub passes : ℕ

-- how many more fit without allocating
pub record Rooms : Type 0 where
  pub registrations : ℕ
  pub short : ℕ
  pub long : ℕ
  pub cleanups : ℕ

-- the order of iterators over what is unordered
pub record Order : Type 0 where
  pub registrations : List (ℕ × Stored)
  pub short : List (ℕ × ℕ)
  pub long : List (ℕ × ℕ)
  pub cleanups : List (ℕ × Attached)
  pub entries : List (Option Entry)  -- the unfinished entries in order, with none for each finished one in memory

-- which entries are in memory: those from the number `forgotten` on, and of earlier ones those that aren't finished
pub record Memory : Type 0 where
  pub whole : Bool  -- only `forget` forgets finished entries; otherwise a registration and a pass may, too
  pub forgotten : ℕ
  pub remembered : ℕ  -- how many are in memory

-- nothing is forgotten; a pass adds entries
abbrev pub KeepsWindow : Memory → Memory → Type 0
KeepsWindow old new = new ≡ record old { remembered = new.remembered }

-- iterators over registrations, over links and over cleanups are unchanged
abbrev pub KeepsTables : Order → Order → Type 0
KeepsTables old new = new ≡ record old { entries = new.entries }

pub record View : Type 0 where
  pub state : State
  pub open state use *
  pub rooms : Rooms
  pub order : Order
  pub memory : Memory

abbrev state_code : Coded State
state_code =
    code_by ((Map Registration × (Set × (ℕ × Map Attached))) × (((Map ℕ × Map ℕ) × (Map ℕ × Map ℕ)) × (List Entry × (ℕ × (List Entry × ℕ)))))
    (coded× (coded× (map.code coded_ℕ registration_code) (coded× (sets.code coded_ℕ) (coded× coded_ℕ (map.code coded_ℕ attached_code))))
    (coded× (coded× (coded× (map.code coded_ℕ coded_ℕ) (map.code coded_ℕ coded_ℕ)) (coded× (map.code coded_ℕ coded_ℕ) (map.code coded_ℕ coded_ℕ))) (coded× (coded_list entry_code) (coded× coded_ℕ (coded× (coded_list entry_code) coded_ℕ)))))
    (λ s. ((s.registrations, (s.late, (s.next_number, s.cleanups))), (((s.short, s.long), (s.ephemerons.short, s.ephemerons.long)), (s.queue, (s.taken, (s.held, s.passes))))))
    (λ p. record {
      registrations = p.0.0;
      late = p.0.1.0;
      next_number = p.0.1.1.0;
      cleanups = p.0.1.1.1;
      short = p.1.0.0.0;
      long = p.1.0.0.1;
      ephemerons = record { short = p.1.0.1.0; long = p.1.0.1.1 };
      queue = p.1.1.0;
      taken = p.1.1.1.0;
      held = p.1.1.1.1.0;
      passes = p.1.1.1.1.1;
    })
    (λ _. refl)

abbrev rooms_code : Coded Rooms
rooms_code =
    code_by (ℕ × (ℕ × (ℕ × ℕ))) (coded× coded_ℕ (coded× coded_ℕ (coded× coded_ℕ coded_ℕ))) (λ r. (r.registrations, (r.short, (r.long, r.cleanups))))
    (λ p. record { registrations = p.0; short = p.1.0; long = p.1.1.0; cleanups = p.1.1.1 }) (λ _. refl)

abbrev order_code : Coded Order
order_code =
    code_by ((List (ℕ × Stored) × List (ℕ × Attached)) × ((List (ℕ × ℕ) × List (ℕ × ℕ)) × List (Option Entry)))
    (coded× (coded× (coded_list (coded× coded_ℕ stored_code)) (coded_list (coded× coded_ℕ attached_code)))
    (coded× (coded× (coded_list (coded× coded_ℕ coded_ℕ)) (coded_list (coded× coded_ℕ coded_ℕ))) (coded_list (coded_option entry_code))))
    (λ o. ((o.registrations, o.cleanups), ((o.short, o.long), o.entries))) (λ p. record { registrations = p.0.0; short = p.1.0.0; long = p.1.0.1; cleanups = p.0.1; entries = p.1.1 }) (λ _. refl)

abbrev pub memory_code : Coded Memory
memory_code =
    code_by (Bool × (ℕ × ℕ)) (coded× coded_bool (coded× coded_ℕ coded_ℕ)) (λ m. (m.whole, (m.forgotten, m.remembered))) (λ p. record { whole = p.0; forgotten = p.1.0; remembered = p.1.1 })
    (λ _. refl)

abbrev pub view_code : Coded View
view_code =
    code_by (State × (Rooms × (Order × Memory))) (coded× state_code (coded× rooms_code (coded× order_code memory_code))) (λ v. (v.state, (v.rooms, (v.order, v.memory))))
    (λ p. record { state = p.0; rooms = p.1.0; order = p.1.1.0; memory = p.1.1.1 }) (λ _. refl)

-- nothing is registered or queued
abbrev pub opening : State
opening = record { registrations = empty; late = sets.empty; next_number = 0; cleanups = empty; short = empty; long = empty; ephemerons = no_ephemerons; queue = []; taken = 0; held = []; passes = 0 }

-- the entries that wait to be taken
abbrev pub waiting : State → List Entry
waiting s = drop s.taken s.queue

-- the unfinished entries, in queue order: the taken ones before the waiting ones
abbrev pub unfinished : State → List Entry
unfinished s = s.held ++ waiting s

-- a held entry equals this one in all fields
abbrev pub is_held : List Entry → Entry → Bool
is_held held entry = list_any (same_entry entry) held

-- the kind of an object's registration
abbrev pub kind_at : State → ℕ → Option Kind
kind_at s object = option_map (λ (r : Registration). of_table (contains s.late object) r.kind) (get s.registrations object)

-- the objects of kind `Unreachable` are registered, as normal ones
abbrev pub AreFlags : Map Registration → Set → Type 0
AreFlags registrations late = (a : ℕ) → IsTrue (contains late a) → (r : Registration) × (get registrations a ≡ Some r) × (r.kind ≡ Normal)

-- the links of a kind
abbrev pub links_of : State → LinkKind → Map ℕ
links_of s Short = s.short
links_of s Long = s.long

abbrev pub with_links : State → LinkKind → Map ℕ → State
with_links s Short links = record s { short = links }
with_links s Long links = record s { long = links }

abbrev pub room_of : Rooms → LinkKind → ℕ
room_of rooms Short = rooms.short
room_of rooms Long = rooms.long

-- at most as many as a table can have
abbrev pub limited : ℕ → ℕ
limited entries = min entries MOST_ENTRIES

-- there is room for this many more registrations and links
abbrev pub HasRooms : Rooms → ℕ → ℕ → ℕ → Type 0
HasRooms rooms registrations shorts longs = (limited registrations ≤ rooms.registrations) × (limited shorts ≤ rooms.short) × (limited longs ≤ rooms.long)

-- at least as much room is reserved as before
abbrev pub IsRoomier : Rooms → Rooms → Type 0
IsRoomier old new = (old.registrations ≤ new.registrations) × (old.short ≤ new.short) × (old.long ≤ new.long) × (old.cleanups ≤ new.cleanups)

-- the same, but for one place that registrations and cleanups share
abbrev pub UsesEntry : Rooms → Rooms → Type 0
UsesEntry old new = IsRoomier old (record new { registrations = new.registrations + 1; cleanups = new.cleanups + 1 })

-- the same, but for one place of the links of this kind
abbrev pub UsesLink : LinkKind → Rooms → Rooms → Type 0
UsesLink Short old new = IsRoomier old (record new { short = new.short + 1 })
UsesLink Long old new = IsRoomier old (record new { long = new.long + 1 })

-- room for links is kept, and of the room for registrations and cleanups at least this much, if there was so much
abbrev pub KeepsEntries : ℕ → Rooms → Rooms → Type 0
KeepsEntries entries old new = IsRoomier (record old { registrations = min entries old.registrations; cleanups = min entries old.cleanups }) new

-- an accepted call uses at most one place, and a refused one none
abbrev pub Spends : {A : Type 0} → (Rooms → Rooms → Type 0) → Result A Refused → Rooms → Rooms → Type 0
Spends Uses (Ok x) old new = Uses old new
Spends Uses (Err r) old new = IsRoomier old new
