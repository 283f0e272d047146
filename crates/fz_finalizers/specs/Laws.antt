-- What each event does to links, to ephemerons and to the numbers of passes, and what iterators yield, said of each key. These laws test the definitions.
-- code: fz_finalizers/src/law.rt
use Rattle.std.specs.Prelude.{◌≡◌, ◌↔◌, ℕ, ◌+◌, ◌-◌, ◌^◌, ◌++◌, ◌<◌, ◌≤◌, ◌⊎◌, Bool, List, Contains, length, slice_get, Option, None, Some, IsTrue}
use Rattle.std.specs.FinMap.{get}
use Rattle.fz_model.specs.declared.answers.Entry.{Entry}
use Rattle.fz_model.specs.declared.answers.Registration.{Registration}
use Rattle.fz_model.specs.declared.kinds.LinkKind.{LinkKind}
use Rattle.fz_model.specs.declared.kinds.LinkKind.TheVariants.{Short, Long}
use Rattle.fz_model.specs.declared.answers.Pick.{Pick}
use Rattle.fz_model.specs.Pass.{entries_of}
use Rattle.fz_model.specs.State.{Map, Object}
use Rattle.fz_finalizers.specs.declared.roots.Root.{Root}
use Rattle.fz_finalizers.specs.declared.roots.Root.TheVariants.{HeldObject, HeldData, RegisteredData}
use Rattle.fz_finalizers.specs.States.{State, links_of, unfinished}
use Rattle.fz_finalizers.specs.declared.cleanups.Attached.{Attached}
use Rattle.fz_finalizers.specs.Cleanups.{is_due}
use Rattle.fz_pass.specs.Keyed.{ephemeron_at}
use Rattle.fz_finalizers.specs.Follows.{Event, Link, Unlink, Move, Ephemeron, EndEphemeron, MoveEphemeron, OnlyGo, Clean, Pass, Begin, Queue, QueueCleanup, QueueAll, next_pass}
use Rattle.fz_finalizers.specs.Passed.{DecidesFor, PassesFor}
use Rattle.fz_finalizers.specs.Walks.{AreRegistrations, AreCleanups, AreLinks, YieldsRoots}

-- each link is the same, except those that pass this test
abbrev pub SameLinksBut : (LinkKind → ℕ → Type 0) → State → State → Type 0
SameLinksBut changed old new = (kind : LinkKind) (word : ℕ) → (changed kind word → ⊥) → get (links_of new kind) word ≡ get (links_of old kind) word

abbrev pub SameLinks : State → State → Type 0
SameLinks old new = SameLinksBut (λ kind word. ⊥) old new

-- an event changes the links that it names: a link leads from its word to its target, and moves only to a word that has none. A pass clears links as the host
-- answers.
abbrev pub ChangesLinks : State → Event → State → Type 0
ChangesLinks old (Link kind word target) new = (get (links_of new kind) word ≡ Some target) × SameLinksBut (λ k w. (k ≡ kind) × (w ≡ word)) old new
ChangesLinks old (Unlink kind word) new = (get (links_of new kind) word ≡ None) × SameLinksBut (λ k w. (k ≡ kind) × (w ≡ word)) old new
ChangesLinks old (Move kind word to) new =
    ((target : ℕ) → get (links_of old kind) word ≡ Some target → get (links_of old kind) to ≡ None
    → (get (links_of new kind) to ≡ Some target) × (get (links_of new kind) word ≡ None) × SameLinksBut (λ k w. (k ≡ kind) × ((w ≡ word) ⊎ (w ≡ to))) old new)
    × (get (links_of old kind) word ≡ None → SameLinks old new)
    × ((target : ℕ) → get (links_of old kind) to ≡ Some target → SameLinks old new)
ChangesLinks old Pass new = Unit {0}
ChangesLinks old event new = SameLinks old new

-- each word has the ephemeron that it had, or none as before, except the words that pass this test
abbrev pub SameEphemeronsBut : (ℕ → Type 0) → State → State → Type 0
SameEphemeronsBut changed old new = (word : ℕ) → (changed word → ⊥) → ephemeron_at new.ephemerons word ≡ ephemeron_at old.ephemerons word

abbrev pub SameEphemerons : State → State → Type 0
SameEphemerons old new = SameEphemeronsBut (λ word. ⊥) old new

-- an event changes only the ephemerons of the words that it names. An ephemeron moves with its kind and its key, and only to a word that has none. A pass may
-- remove ephemerons.
abbrev pub ChangesEphemerons : State → Event → State → Type 0
ChangesEphemerons old (Ephemeron kind word key) new = (ephemeron_at new.ephemerons word ≡ Some (kind, key)) × SameEphemeronsBut (λ w. w ≡ word) old new
ChangesEphemerons old (EndEphemeron word) new = (ephemeron_at new.ephemerons word ≡ None) × SameEphemeronsBut (λ w. w ≡ word) old new
ChangesEphemerons old (MoveEphemeron word to) new =
    ((x : LinkKind × ℕ) → ephemeron_at old.ephemerons word ≡ Some x → ephemeron_at old.ephemerons to ≡ None
    → (ephemeron_at new.ephemerons to ≡ Some x) × (ephemeron_at new.ephemerons word ≡ None) × SameEphemeronsBut (λ w. (w ≡ word) ⊎ (w ≡ to)) old new)
    × (ephemeron_at old.ephemerons word ≡ None → SameEphemerons old new)
    × ((x : LinkKind × ℕ) → ephemeron_at old.ephemerons to ≡ Some x → SameEphemerons old new)
ChangesEphemerons old Pass new = OnlyGo old.ephemerons new.ephemerons
ChangesEphemerons old event new = SameEphemerons old new

-- passes count from 1 to the last number, which then stays
abbrev pub IsNextPass : ℕ → ℕ → Type 0
IsNextPass old new = (old < 2 ^ 64 - 1 → new ≡ old + 1) × (2 ^ 64 - 1 ≤ old → new ≡ 2 ^ 64 - 1)

-- the entries that were appended to the queue are of this pass
abbrev pub AddsOfPass : ℕ → State → State → Type 0
AddsOfPass pass old new = (k : ℕ) (e : Entry) → slice_get new.queue (length old.queue + k) ≡ Some e → e.pass ≡ pass

-- what a pass queues has its number; what is queued otherwise has that of the last pass begun, or none
abbrev pub NumbersPasses : State → Event → State → Type 0
NumbersPasses old Pass new = IsNextPass old.passes new.passes × AddsOfPass new.passes old new
NumbersPasses old (Clean pass is_due) new = (new.passes ≡ old.passes) × AddsOfPass pass old new
NumbersPasses old Begin new = IsNextPass old.passes new.passes × (new.queue ≡ old.queue)
NumbersPasses old (Queue object) new = (new.passes ≡ old.passes) × AddsOfPass old.passes old new
NumbersPasses old (QueueCleanup number) new = (new.passes ≡ old.passes) × AddsOfPass old.passes old new
NumbersPasses old QueueAll new = (new.passes ≡ old.passes) × AddsOfPass 0 old new
NumbersPasses old event new = (new.passes ≡ old.passes) × (new.queue ≡ old.queue)

-- the word is one of this kind of roots
abbrev pub IsRootWord : Root → State → ℕ → Type 0
IsRootWord HeldObject s word = (e : Entry) × Contains (unfinished s) e × (e.obj ≡ word)
IsRootWord HeldData s word = (e : Entry) × Contains (unfinished s) e × (e.cd ≡ word)
IsRootWord RegisteredData s word =
    ((object : ℕ) × (r : Registration) × (get s.registrations object ≡ Some r) × (r.cd ≡ word))
    ⊎ ((number : ℕ) × (c : Attached) × (get s.cleanups number ≡ Some c) × (c.cleanup.client_data ≡ word))

-- iterators yield all that there is, and nothing else
pub record YieldAll (s : State) : Type 0 where
  pub roots : (root : Root) (words : List ℕ) → YieldsRoots root s words → (word : ℕ) → Contains words word ↔ IsRootWord root s word
  pub registrations : (list : List (ℕ × Registration)) → AreRegistrations s list → (object : ℕ) (r : Registration) → Contains list (object, r) ↔ (get s.registrations object ≡ Some r)
  pub cleanups : (list : List (ℕ × Attached)) → AreCleanups s list → (number : ℕ) (c : Attached) → Contains list (number, c) ↔ (get s.cleanups number ≡ Some c)
  pub links : (kind : LinkKind) (list : List (ℕ × ℕ)) → AreLinks s kind list → (word target : ℕ) → Contains list (word, target) ↔ (get (links_of s kind) word ≡ Some target)

-- with the same marks, a pass picks, clears, retains and reclaims exactly what it does without cleanups; and afterwards no due cleanup is left
pub record IsAsWithoutCleanups (Exact : Type 0) (place : ℕ → Option ℕ) (old : State) (objects : Map Object) (found : ℕ → Bool) (new : State) (new_objects : Map Object) (marked : ℕ → Bool) : Type 0 where
  pub picks : List Pick
  pub same : DecidesFor Exact place (next_pass old.passes) old objects found (record new { queue = old.queue ++ entries_of (next_pass old.passes) (length old.queue) picks; cleanups = old.cleanups }) new_objects marked
  pub short : (number : ℕ) (c : Attached) → get new.cleanups number ≡ Some c → c.cleanup.when ≡ Short → IsTrue (found c.object)
  pub long : (number : ℕ) (c : Attached) → get new.cleanups number ≡ Some c → c.cleanup.when ≡ Long → IsTrue (marked c.object)

abbrev pub PassesAlike : Type 0 → (ℕ → Option ℕ) → State → State → Type 0
PassesAlike Exact place old new =
    (objects new_objects : Map Object) (found marked : ℕ → Bool)
    → PassesFor Exact place old objects found new new_objects marked → IsAsWithoutCleanups Exact place old objects found new new_objects marked
