-- The parts of a machine that the steps of a pass use.
-- code: fz_machine/src/asking.rt, going_on.rt, reserving.rt
use Rattle.std.specs.Prelude.{◌≡◌, ◌⊎◌, ℕ, suc, ◌+◌, ◌/◌, ◌<◌, ◌≤◌, ◌++◌, Bool, true, false, if◌then◌else◌, List, [], ◌∷◌, drop, length, map, slice_get, is_some, Option, None, Some, IsTrue}
use Rattle.std.specs.FinMap.{get, len}
use Rattle.std.specs.Map.{keys_of}
use Rattle.fz_model.specs.declared.kinds.LinkKind.{LinkKind}
use Rattle.fz_finalizers.specs.States.{State, View, limited, links_of}
use Rattle.fz_machine.specs.declared.machine.By.{By}
use Rattle.fz_machine.specs.declared.phase.Moment.TheVariants.{First}
use Rattle.fz_machine.specs.declared.phase.Phase.{Phase}
use Rattle.fz_machine.specs.declared.phase.Phase.TheVariants.{Keys, KeysAgain, Holders, Values, Regions, ShortCleanups, ShortTargets, ShortWords, ShortKeys, ShortKeyWords, Objects, Again, LateAgain, LongTargets, LongWords, LongKeys, LongKeyWords, ShortHolders, LongHolders, ShortKeyHolders, LongKeyHolders, LongCleanups}
use Rattle.fz_machine.specs.declared.phase.Sweep.{Sweep}
use Rattle.fz_machine.specs.declared.phase.Sweep.TheVariants as sweeps
use Rattle.fz_machine.specs.declared.item.Item.{Item}
use Rattle.fz_machine.specs.Off.{count_off}
use Rattle.fz_machine.specs.Phases.{asks, settles, settles_in, swept}
use Rattle.fz_machine.specs.Regions.{Regions as Table, AreNoted, IsTold, IsUntold, index_of, most_of, table_at}
use Rattle.fz_machine.specs.Steps.{Going}
use Rattle.fz_machine.specs.Walks.{Walk}

abbrev pub going : View → Walk → List (ℕ × ℕ) → Going
going finalizers walk told = record { finalizers = finalizers.state; kept = walk.kept; left = walk.left; aside = walk.aside; off = walk.off; told = told }

-- the list and the one set aside have the same room, and no fewer ephemerons can be put off
abbrev pub IsSameRoom : Walk → Walk → Type 0
IsSameRoom old new = (new.room ≡ old.room) × (new.other ≡ old.other) × (old.off_room ≤ new.off_room)

-- the lists beside the list have the same room
abbrev pub IsSameBeside : Walk → Walk → Type 0
IsSameBeside old new = (new.other ≡ old.other) × (new.off_room ≡ old.off_room)

-- what lies beside the list stays
abbrev pub KeepsBeside : Walk → Walk → Type 0
KeepsBeside old new = (new.aside ≡ old.aside) × (new.off ≡ old.off) × IsSameBeside old new

-- another list replaces the list, and has no less room
abbrev pub IsListed : Walk → Walk → Type 0
IsListed old new = (new ≡ record old { kept = []; left = new.left; room = new.room }) × (old.room ≤ new.room)

-- how many ephemerons there are, of both kinds
abbrev pub ephemerons_in : State → ℕ
ephemerons_in s = len s.ephemerons.short + len s.ephemerons.long

-- a list with this room can contain all registrations, all links of each kind, all cleanups, and all ephemerons
pub record HasRoom (s : State) (room : ℕ) : Type 0 where
  pub registrations : len s.registrations ≤ room
  pub short : len s.short ≤ room
  pub long : len s.long ≤ room
  pub cleanups : len s.cleanups ≤ room
  pub keyed : ephemerons_in s ≤ room

-- the lists have room: while the marks are made whole, the list with this room is set aside, and the other one is of ephemerons
pub record HaveRoom (settling : Bool) (s : State) (walk : Walk) : Type 0 where
  pub main : HasRoom s (if settling then walk.other else walk.room)
  pub rows : ephemerons_in s ≤ (if settling then walk.room else walk.other)
  pub off : ephemerons_in s ≤ walk.off_room

-- how many ephemerons a pass may still look at: those that are put off, and while the marks are made whole, what is kept and what remains
abbrev pub rows_of : Bool → Walk → ℕ
rows_of settling walk = (if settling then length walk.kept + length walk.left else 0) + count_off walk.off

-- each list has room for them, and all of them can be put off
abbrev pub HasRoomOff : Bool → Walk → Type 0
HasRoomOff settling walk = (rows_of settling walk ≤ walk.room) × (rows_of settling walk ≤ walk.other) × (rows_of settling walk ≤ walk.off_room)

-- between passes it looks at none
abbrev pub HasRoomOffIn : Option Phase → Walk → Type 0
HasRoomOffIn (Some phase) walk = HasRoomOff (settles phase) walk
HasRoomOffIn None walk = Unit {0}

-- whether a sweep asks about regions, if those are noted
abbrev pub is_by : Sweep → By → Bool
is_by sweeps.ShortHolders by = by.live
is_by sweeps.LongHolders by = by.live
is_by sweep by = by.marks

abbrev pub noted_by : By → List Bool
noted_by by = by.marks ∷ by.marks ∷ by.marks ∷ by.marks ∷ by.live ∷ by.live ∷ by.marks ∷ []

-- no sweep has more regions than before
abbrev pub AreFewer : List ℕ → List ℕ → Type 0
AreFewer [] [] = Unit {0}
AreFewer [] (n ∷ ns) = ⊥
AreFewer (o ∷ os) [] = ⊥
AreFewer (o ∷ os) (n ∷ ns) = (n ≤ o) × AreFewer os ns

-- the number of questions about this number of regions
abbrev pub questions_of : ℕ → ℕ
questions_of n = (n + 63) / 64

abbrev pub questions_in : List ℕ → ℕ
questions_in [] = 0
questions_in (n ∷ ns) = questions_of n + questions_in ns

-- how many sweeps have begun by a phase
abbrev pub swept_by : Phase → ℕ
swept_by (Keys First) = 0
swept_by (KeysAgain First) = 0
swept_by (Holders First) = 0
swept_by (Values First) = 0
swept_by (Regions sweep) = suc (index_of sweep)
swept_by ShortCleanups = 1
swept_by ShortTargets = 2
swept_by ShortWords = 2
swept_by ShortKeys = 2
swept_by ShortKeyWords = 2
swept_by LongTargets = 4
swept_by LongWords = 4
swept_by LongKeys = 4
swept_by LongKeyWords = 4
swept_by ShortHolders = 5
swept_by LongHolders = 6
swept_by ShortKeyHolders = 6
swept_by LongKeyHolders = 6
swept_by LongCleanups = 7
swept_by phase = 3

abbrev pub swept_in : Option Phase → ℕ
swept_in (Some phase) = swept_by phase
swept_in None = 7

-- how many questions about regions an open pass can still process: about what remains in an open sweep, and in the sweeps to come
abbrev pub questions_to_come : Option Phase → ℕ → List ℕ → ℕ
questions_to_come phase remaining tabled = questions_of remaining + questions_in (drop (swept_in phase) tabled)

-- what was told in an open sweep, and the regions of which it isn't told yet
abbrev pub told_in : List Table → Option Phase → List (ℕ × ℕ)
told_in tables (Some (Regions sweep)) = (table_at tables sweep).told
told_in tables phase = []

abbrev pub left_in : List Table → Option Phase → List ℕ
left_in tables (Some (Regions sweep)) = (table_at tables sweep).left
left_in tables phase = []

-- how many of these the last question was about
abbrev pub asked_in : List Table → Option Phase → ℕ
asked_in tables (Some (Regions sweep)) = (table_at tables sweep).asked
asked_in tables phase = 0

abbrev pub questions_by : Option Phase → List Table → ℕ
questions_by phase tables = questions_to_come phase (length (left_in tables phase)) (map (λ (t : Table). length t.order) tables)

-- the table of a sweep: what should be noted is, if it is complete; in its sweep each of its regions either is told or is left to be told, and else nothing is
-- told
pub record IsTable (sweep : Sweep) (s : State) (t : Table) (phase : Option Phase) : Type 0 where
  pub noted : IsTrue t.complete → AreNoted sweep s t.order
  pub whole : phase ≡ Some (Regions sweep) → IsTrue t.complete → keys_of t.told ++ t.left ≡ keys_of t.order
  pub idle : (phase ≡ Some (Regions sweep) → ⊥) → IsUntold t
  pub lacking : t.complete ≡ false → IsUntold t

-- the tables of all sweeps
pub record AreTables (s : State) (tables : List Table) (phase : Option Phase) : Type 0 where
  pub each : (sweep : Sweep) → IsTable sweep s (table_at tables sweep) phase
  pub count : length tables ≡ 7

-- the invariant of a machine: its lists have room, and there is a table for each sweep
pub record IsInOrder (s : State) (walk : Walk) (regions : List Table) (phase : Option Phase) : Type 0 where
  pub room : HaveRoom (settles_in phase) s walk
  pub room_off : HasRoomOffIn phase walk
  pub tables : AreTables s regions phase

-- what a sweep is about is asked about item by item only if not all of it is noted
abbrev pub Lacks : Option Phase → List Table → Type 0
Lacks phase tables = (sweep : Sweep) → phase ≡ Some (swept sweep) → (table_at tables sweep).complete ≡ false

-- in a sweep no question about items is open
abbrev pub AsksNone : Option Phase → ℕ → Type 0
AsksNone (Some (Regions sweep)) asked = asked ≡ 0
AsksNone phase asked = Unit {0}

-- only the table of one sweep changes
pub record Changes (sweep : Sweep) (old new : List Table) : Type 0 where
  pub others : (other : Sweep) → (other ≡ sweep → ⊥) → table_at new other ≡ table_at old other
  pub count : length new ≡ length old

-- a table to which all is noted again
pub record IsRenewed (sweep : Sweep) (s : State) (t : Table) : Type 0 where
  pub complete : IsTrue t.complete
  pub noted : AreNoted sweep s t.order
  pub few : length t.order ≤ most_of sweep s
  pub untold : IsUntold t

-- some tables of sweeps that ask about regions are such, and the others the same
pub record AreRenewed (by : By) (s : State) (old new : List Table) : Type 0 where
  pub each : (sweep : Sweep) → (table_at new sweep ≡ table_at old sweep) ⊎ (IsTrue (is_by sweep by) × IsRenewed sweep s (table_at new sweep))
  pub count : length new ≡ length old

-- what was told in the sweep before a phase
abbrev pub told_for : List Table → Phase → List (ℕ × ℕ)
told_for tables ShortCleanups = (table_at tables sweeps.ShortCleanups).told
told_for tables ShortTargets = (table_at tables sweeps.ShortTargets).told
told_for tables Objects = (table_at tables sweeps.Objects).told
told_for tables LongTargets = (table_at tables sweeps.LongTargets).told
told_for tables ShortHolders = (table_at tables sweeps.ShortHolders).told
told_for tables LongHolders = (table_at tables sweeps.LongHolders).told
told_for tables LongCleanups = (table_at tables sweeps.LongCleanups).told
told_for tables phase = []

-- the tables when a phase begins: that of the sweep before it is told, and the others are untold
pub record AreReady (s : State) (tables : List Table) (phase : Phase) : Type 0 where
  pub told : (sweep : Sweep) → phase ≡ swept sweep → IsTold sweep s (table_at tables sweep)
  pub noted : (sweep : Sweep) → IsTrue (table_at tables sweep).complete → AreNoted sweep s (table_at tables sweep).order
  pub untold : (sweep : Sweep) → (phase ≡ swept sweep → ⊥) → IsUntold (table_at tables sweep)
  pub count : length tables ≡ 7

-- the tables have the same regions, and are as complete
pub record AreAlike (old new : List Table) : Type 0 where
  pub complete : (sweep : Sweep) → (table_at new sweep).complete ≡ (table_at old sweep).complete
  pub order : (sweep : Sweep) → (table_at new sweep).order ≡ (table_at old sweep).order
  pub count : length new ≡ length old

-- the tables have no more regions than before, and are as complete
pub record AreNoMore (old new : List Table) : Type 0 where
  pub complete : (sweep : Sweep) → (table_at new sweep).complete ≡ (table_at old sweep).complete
  pub fewer : (sweep : Sweep) → length (table_at new sweep).order ≤ length (table_at old sweep).order

-- a sweep has a region that it isn't told of yet, and another phase asks something about the first remaining item
abbrev pub HasAsk : Phase → List Item → List ℕ → Type 0
HasAsk (Regions sweep) items regions = 0 < length regions
HasAsk phase items regions = (item : Item) × (slice_get items 0 ≡ Some item) × IsTrue (is_some (asks phase item))

-- nothing is listed in a sweep; before two of them the marks were made whole
abbrev pub resumed : Walk → Walk
resumed walk = record { kept = []; left = []; aside = []; off = walk.off; room = walk.other; other = walk.room; off_room = walk.off_room }

abbrev pub emptied : Sweep → Walk → Walk
emptied sweeps.ShortCleanups walk = resumed walk
emptied sweeps.LongTargets walk = resumed walk
emptied sweep walk = record walk { kept = []; left = [] }

-- the phases that follow on making the marks whole, or on a round of it
abbrev pub follows_settling : Phase → Bool
follows_settling (KeysAgain moment) = true
follows_settling (Holders moment) = true
follows_settling (Values moment) = true
follows_settling (Regions sweeps.ShortCleanups) = true
follows_settling Again = true
follows_settling LateAgain = true
follows_settling (Regions sweeps.LongTargets) = true
follows_settling phase = false

-- the same with further registrations and links
pub record HasRoomForMore (s : State) (registrations shorts longs room : ℕ) : Type 0 where
  pub registered : len s.registrations + limited registrations ≤ room
  pub short : len s.short + limited shorts ≤ room
  pub long : len s.long + limited longs ≤ room

-- a new registration has no room in the list
abbrev pub LacksToRegister : State → ℕ → ℕ → Type 0
LacksToRegister s object room = (get s.registrations object ≡ None) × (room ≤ len s.registrations)

-- a new link has no room in the list
abbrev pub LacksToLink : State → LinkKind → ℕ → ℕ → Type 0
LacksToLink s kind word room = (get (links_of s kind) word ≡ None) × (room ≤ len (links_of s kind))

-- a new cleanup has no room in the list
abbrev pub LacksToAdd : State → ℕ → Type 0
LacksToAdd s room = room ≤ len s.cleanups
