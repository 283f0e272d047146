-- Laws that test the definitions of the calls. They state what one expects of each call, in other words than its definition.
-- code: fz_model/src/laws.rt (every_call)
use Rattle.std.specs.Prelude.{◌≡◌, ◌≢◌, ℕ, ◌<◌, ◌≤◌, ◌⊎◌, Bool, false, length, None, Some, Contains, Result, Ok, Err, IsTrue, IsFalse, ◌↔◌}
use Rattle.std.specs.FinMap.{get, len}
use Rattle.fz_model.specs.declared.call.Call.TheVariants.{Link, Unlink, Move, Close}
use Rattle.fz_model.specs.declared.places.Slot.{Slot}
use Rattle.fz_model.specs.declared.places.Place.{Place}
use Rattle.fz_model.specs.declared.kinds.LinkKind.TheVariants.{Short, Long}
use Rattle.fz_model.specs.declared.answers.Entry.{Entry}
use Rattle.fz_model.specs.declared.answers.LinkAnswer.{LinkAnswer}
use Rattle.fz_model.specs.declared.answers.LinkAnswer.TheVariants.{Duplicate}
use Rattle.fz_model.specs.declared.answers.MoveAnswer.{MoveAnswer}
use Rattle.fz_model.specs.declared.answers.MoveAnswer.TheVariants.{Success, NotFound}
use Rattle.fz_model.specs.declared.answers.MoveAnswer.TheVariants as moving
use Rattle.fz_model.specs.declared.limits.TheConstants.{TABLE_LIMIT}
use Rattle.fz_model.specs.declared.refusal.Refusal.{Refusal}
use Rattle.fz_model.specs.declared.refusal.Refusal.TheVariants.{NotHeld, Closed}
use Rattle.fz_model.specs.State.{Map, Object, State}
use Rattle.fz_model.specs.Memory.{points, slot_word, address_of}
use Rattle.fz_model.specs.Events.{Event, Make, Hold, Answer, causes}
use Rattle.fz_model.specs.Causes.{first_cause}
use Rattle.fz_model.specs.Steps.{Step}
use Rattle.fz_model.specs.Joint.{Joint, JointEvent, Call, HoldOwn, JointAnswer, worker_at, is_finish, JointStep}

-- an object has this address
abbrev pub Stands : Map Object → ℕ → Type 0
Stands objects a = (o : Object) × (get objects a ≡ Some o)

-- the table has a link at the place
abbrev pub HasLink : Map ℕ → ℕ → Type 0
HasLink links place = (target : ℕ) × (get links place ≡ Some target)

-- ---- each call has a step

-- a call without a cause of refusal can be accepted, and any other call is refused for its first cause
pub record EachCallHasStep (s : State) : Type 0 where
  pub accepted : (e : Event) → first_cause (causes s.core e) ≡ None → (answer : Answer e) × (new : State) × Step s e (Ok answer) new
  pub refused : (e : Event) (r : Refusal) → first_cause (causes s.core e) ≡ Some r → Step s e (Err r) s

-- a finish that names an entry directly; in a joint run entries are finished by workers only
abbrev pub is_free_finish : JointEvent → Bool
is_free_finish (Call e) = is_finish e
is_free_finish _ = false

abbrev pub EachJointEventHasStep : Joint → Type 0
EachJointEventHasStep j =
    (e : JointEvent) → IsFalse (is_free_finish e) → (reply : Result (JointAnswer e) Refusal) × (new : Joint) × JointStep j e reply new

-- ---- links

-- each link's target is the address of an object, and its word lies in an object
abbrev pub LinksStand : Map Object → Map ℕ → Type 0
LinksStand objects links =
    (place target : ℕ) → get links place ≡ Some target → Stands objects target × ((container : ℕ) × (points objects place ≡ Some container))

-- after a link is registered the place has this target, whatever was there before, and no other link has changed
pub record IsLinked (old : Map ℕ) (place target : ℕ) (answer : LinkAnswer) (new : Map ℕ) : Type 0 where
  pub linked : get new place ≡ Some target
  pub others : (p : ℕ) → p ≢ place → get new p ≡ get old p
  pub duplicate : answer ≡ Duplicate ↔ HasLink old place

-- a link of each kind goes into the table of that kind
pub record LinksAreMade (s : State) (place : Place) (target : Slot) : Type 0 where
  pub short : (answer : LinkAnswer) (new : State) → Step s (Make (Link Short place target)) (Ok answer) new → IsLinked s.short (address_of s.frames place) (slot_word s.frames target) answer new.short × (new.long ≡ s.long)
  pub long : (answer : LinkAnswer) (new : State) → Step s (Make (Link Long place target)) (Ok answer) new → IsLinked s.long (address_of s.frames place) (slot_word s.frames target) answer new.long × (new.short ≡ s.short)

-- the result says whether the place had a link; afterwards it has none, and no other link has changed
pub record IsUnlinked (old : Map ℕ) (place : ℕ) (answer : Bool) (new : Map ℕ) : Type 0 where
  pub there : IsTrue answer ↔ HasLink old place
  pub gone : get new place ≡ None
  pub others : (p : ℕ) → p ≢ place → get new p ≡ get old p

pub record LinksAreUnlinked (s : State) (place : Place) : Type 0 where
  pub short : (answer : Bool) (new : State) → Step s (Make (Unlink Short place)) (Ok answer) new → IsUnlinked s.short (address_of s.frames place) answer new.short × (new.long ≡ s.long)
  pub long : (answer : Bool) (new : State) → Step s (Make (Unlink Long place)) (Ok answer) new → IsUnlinked s.long (address_of s.frames place) answer new.long × (new.short ≡ s.short)

-- when a move returns each of its three results
pub record IsAnswered (old : Map ℕ) (from to : ℕ) (answer : MoveAnswer) : Type 0 where
  pub not_found : answer ≡ NotFound ↔ (get old from ≡ None)
  pub duplicate : answer ≡ moving.Duplicate ↔ HasLink old from × (from ≢ to) × HasLink old to
  pub success : answer ≡ Success ↔ HasLink old from × ((from ≡ to) ⊎ (get old to ≡ None))

-- a move keeps the number of links; a successful one keeps the target and leaves no link at the old place; any other changes nothing
pub record IsMoved (old : Map ℕ) (from to : ℕ) (answer : MoveAnswer) (new : Map ℕ) : Type 0 where
  pub number : len new ≡ len old
  pub moved : answer ≡ Success → HasLink old from × (get new to ≡ get old from) × (from ≢ to → get new from ≡ None)
  pub others : (p : ℕ) → p ≢ from → p ≢ to → get new p ≡ get old p
  pub unmoved : answer ≢ Success → new ≡ old

pub record LinksAreMoved (s : State) (from to : Place) : Type 0 where
  pub short : (answer : MoveAnswer) (new : State) → Step s (Make (Move Short from to)) (Ok answer) new → IsMoved s.short (address_of s.frames from) (address_of s.frames to) answer new.short × IsAnswered s.short (address_of s.frames from) (address_of s.frames to) answer × (new.long ≡ s.long)
  pub long : (answer : MoveAnswer) (new : State) → Step s (Make (Move Long from to)) (Ok answer) new → IsMoved s.long (address_of s.frames from) (address_of s.frames to) answer new.long × IsAnswered s.long (address_of s.frames from) (address_of s.frames to) answer × (new.short ≡ s.short)

-- no table exceeds its limit
pub record TablesAreWithin (s : State) : Type 0 where
  pub registrations : len s.registrations ≤ TABLE_LIMIT
  pub short : len s.short ≤ TABLE_LIMIT
  pub long : len s.long ≤ TABLE_LIMIT

-- ---- entries

-- the object of an entry exists, with the birth that the entry has
abbrev pub StandsAsHeld : State → Entry → Type 0
StandsAsHeld s e = (o : Object) × (get s.objects e.obj ≡ Some o) × (o.birth ≡ e.birth)

-- only a held entry can be named by a hold, and the slot gets the address of its object
abbrev pub HoldGivesTheObject : State → Type 0
HoldGivesTheObject s =
    (slot : Slot) (e : Entry) (answer : Unit {0}) (new : State) → Step s (Hold slot e) (Ok answer) new
    → Contains s.held e × (slot_word new.frames slot ≡ e.obj) × StandsAsHeld new e

-- a worker with an empty hand is refused, and nothing changes
abbrev pub EmptyHandIsRefused : Joint → Type 0
EmptyHandIsRefused j =
    (w : ℕ) (slot : Slot) (reply : Result (Unit {0}) Refusal) (new : Joint) → w < length j.workers → (worker_at j w).hand ≡ None
    → JointStep j (HoldOwn w slot) reply new ↔ (reply ≡ Err NotHeld) × (new ≡ j)

-- ---- close

-- a closed world stays closed, and a second close is refused
pub record ClosesOnce (s : State) : Type 0 where
  pub second : (reply : Result (Unit {0}) Refusal) (new : State) → IsTrue s.closed → Step s (Make Close) reply new → reply ≡ Err Closed
  pub stays : (e : Event) (reply : Result (Answer e) Refusal) (new : State) → IsTrue s.closed → Step s e reply new → IsTrue new.closed
  pub closes : (answer : Unit {0}) (new : State) → Step s (Make Close) (Ok answer) new → IsTrue new.closed
