-- Laws that test the definition of a pass: what is retained, what is reclaimed, and what is returned, in other words than the definition.
-- code: fz_model/src/laws.rt (every_call)
use Rattle.std.specs.Prelude.{◌≡◌, ◌≢◌, ℕ, ◌+◌, ◌<◌, ◌≤◌, not, List, [], ◌++◌, length, None, Some, slice_get, AllPairs, Contains, count_by, Ok, IsFalse, ◌↔◌, ◌⊎◌}
use Rattle.std.specs.FinMap.{get, keys, contains_key}
use Rattle.fz_model.specs.declared.kinds.ObjKind.TheVariants.{Scanned}
use Rattle.fz_model.specs.declared.kinds.RegKind.TheVariants.{IgnoreSelf, NoOrder}
use Rattle.fz_model.specs.declared.answers.Entry.{Entry}
use Rattle.fz_model.specs.declared.answers.Passed.{Passed}
use Rattle.fz_model.specs.declared.answers.Registration.{Registration}
use Rattle.fz_model.specs.State.{Map, Object, State}
use Rattle.fz_model.specs.Memory.{points}
use Rattle.fz_model.specs.Reachability.{IsReachable, WasSeen}
use Rattle.fz_model.specs.declared.call.Call.TheVariants.{Pause, Collect}
use Rattle.fz_model.specs.Events.{Make}
use Rattle.fz_model.specs.Steps.{Step}
use Rattle.fz_model.specs.CallLaws.{Stands, HasLink}

-- the link at the place was removed
abbrev pub HasLost : Map ℕ → Map ℕ → ℕ → Type 0
HasLost old new place = HasLink old place × (get new place ≡ None)

-- the object that contains the word at the place is retained
abbrev pub StandsAround : Map Object → Map Object → ℕ → Type 0
StandsAround old new place = (container : ℕ) × (points old place ≡ Some container) × Stands new container

-- ---- what is retained

-- an object after a pass is the same as before, with the same words, except that the word of a removed link is zero
pub record IsSameBut (old new : State) (a : ℕ) (before after : Object) : Type 0 where
  pub birth : after.birth ≡ before.birth
  pub kind : after.kind ≡ before.kind
  pub size : length after.words ≡ length before.words
  pub words : (k : ℕ) → (slice_get after.words k ≡ slice_get before.words k) ⊎ ((slice_get after.words k ≡ Some 0) × (HasLost old.short new.short (a + k) ⊎ HasLost old.long new.long (a + k)))

-- one step to a child, but not through the word of a short link whose target wasn't seen
pub record StepsOn (s : State) (seen : ℕ → Type 0) (a b : ℕ) : Type 0 where
  pub object : Object
  pub here : get s.objects a ≡ Some object
  pub scanned : object.kind ≡ Scanned
  pub place : ℕ
  pub word : ℕ
  pub within : slice_get object.words place ≡ Some word
  pub pointed : points s.objects word ≡ Some b
  pub uncut : (target : ℕ) → get s.short (a + place) ≡ Some target → seen target

pub data LeadsOn (s : State) (seen : ℕ → Type 0) (a : ℕ) : ℕ → Type 0 where
  Itself : LeadsOn s seen a a
  OneMore : {b c : ℕ} → LeadsOn s seen a b → StepsOn s seen b c → LeadsOn s seen a c

-- a registered object reaches it
abbrev pub IsLedToByRegistered : State → (ℕ → Type 0) → ℕ → Type 0
IsLedToByRegistered s seen x = (o : ℕ) × (r : Registration) × (get s.registrations o ≡ Some r) × LeadsOn s seen o x

pub record WhatStays (old : State) (seen : ℕ → Type 0) (new : State) : Type 0 where
  -- all reachable objects are retained, and all registered ones
  pub reachable : (a : ℕ) → Stands old.objects a → IsReachable old.core a → Stands new.objects a
  pub registered : (a : ℕ) (r : Registration) → get old.registrations a ≡ Some r → Stands new.objects a
  -- so is what a slot points to, and the client data of a registration or of a held entry
  pub slots : (frame : List ℕ) (word a : ℕ) → Contains old.frames frame → Contains frame word → points old.objects word ≡ Some a → Stands new.objects a
  pub client_data : (o a : ℕ) (r : Registration) → get old.registrations o ≡ Some r → points old.objects r.cd ≡ Some a → Stands new.objects a
  pub held_data : (e : Entry) (a : ℕ) → Contains old.held e → points old.objects e.cd ≡ Some a → Stands new.objects a
  -- a retained object existed before
  pub same : (a : ℕ) (after : Object) → get new.objects a ≡ Some after → (before : Object) × (get old.objects a ≡ Some before) × IsSameBut old new a before after
  -- no word of a retained object points to a reclaimed object
  pub whole : (a b word : ℕ) (o : Object) → get new.objects a ≡ Some o → o.kind ≡ Scanned → Contains o.words word → points old.objects word ≡ Some b → Stands new.objects b
  -- nothing else is retained: an object was seen, or a registered object reaches it
  pub needed : (a : ℕ) → Stands new.objects a → seen a ⊎ IsLedToByRegistered old seen a

-- ---- links

pub record WhichLinksStay (old : State) (seen : ℕ → Type 0) (new : State) : Type 0 where
  -- a short link remains only if its target was seen, and always if the target is reachable; its containing object is retained
  pub short : (place target : ℕ) → get new.short place ≡ Some target → (get old.short place ≡ Some target) × seen target × Stands new.objects target × StandsAround old.objects new.objects place
  pub short_reachable : (place target : ℕ) → get old.short place ≡ Some target → IsReachable old.core target → StandsAround old.objects new.objects place → get new.short place ≡ Some target
  -- a long link remains exactly if its target and its containing object are retained
  pub long : (place target : ℕ) → get new.long place ≡ Some target ↔ (get old.long place ≡ Some target) × Stands new.objects target × StandsAround old.objects new.objects place
  -- the word of a removed link is zero
  pub zero : (place a : ℕ) (o : Object) → HasLost old.short new.short place ⊎ HasLost old.long new.long place → points old.objects place ≡ Some a → get new.objects a ≡ Some o → (k : ℕ) × (place ≡ a + k) × (slice_get o.words k ≡ Some 0)

-- ---- what is queued

-- a registration reaches it, possibly the object's own: the first step depends on the kind, all further steps go to children
pub record IsLedToBy (s : State) (seen : ℕ → Type 0) (a : ℕ) : Type 0 where
  pub from : ℕ
  pub by : Registration
  pub registered : get s.registrations from ≡ Some by
  pub kind : by.kind ≢ NoOrder
  pub first : ℕ
  pub step : StepsOn s seen from first
  pub self : by.kind ≡ IgnoreSelf → first ≢ from
  pub rest : LeadsOn s seen first a

-- the entry has the fields of the registration and of its object
abbrev pub IsOf : State → Registration → Entry → Type 0
IsOf s r e = (e.reg ≡ r.number) × (e.proc ≡ r.proc) × (e.cd ≡ r.cd) × ((o : Object) × (get s.objects e.obj ≡ Some o) × (e.birth ≡ o.birth))

-- the entries are ordered by rank, and within a rank by address
abbrev pub StandsBefore : State → Entry → Entry → Type 0
StandsBefore s d e =
    (r q : Registration) → get s.registrations d.obj ≡ Some r → get s.registrations e.obj ≡ Some q → (r.rank ≤ q.rank) × (r.rank ≡ q.rank → d.obj < e.obj)

pub record WhatIsQueued (old : State) (seen : ℕ → Type 0) (new : State) : Type 0 where
  -- the queue and the held entries gain the same entries, ordered by rank and then by address
  pub gained : List Entry
  pub queue : new.queue ≡ old.queue ++ gained
  pub held : new.held ≡ old.held ++ gained
  pub in_order : AllPairs (StandsBefore old) gained
  -- each is of a registration whose object wasn't reachable and which left the table; every other registration remains
  pub each : (e : Entry) → Contains gained e → (r : Registration) × (get old.registrations e.obj ≡ Some r) × IsOf old r e × (e.pass ≡ new.passes) × (IsReachable old.core e.obj → ⊥) × (get new.registrations e.obj ≡ None)
  pub others : (a : ℕ) (r : Registration) → get old.registrations a ≡ Some r → ((e : Entry) → Contains gained e → e.obj ≢ a) → get new.registrations a ≡ Some r
  pub old_ones : (a : ℕ) (r : Registration) → get new.registrations a ≡ Some r → get old.registrations a ≡ Some r
  -- whatever reaches a queued object was seen; and if a registration remains unseen, some unreachable registered object reaches it
  pub ready : (e : Entry) → Contains gained e → (l : IsLedToBy old (IsReachable old.core) e.obj) → seen l.from
  pub waits : (a : ℕ) (r : Registration) → get new.registrations a ≡ Some r → seen a ⊎ ((l : IsLedToBy old seen a) × (IsReachable old.core l.from → ⊥))

-- ---- the result

-- the result counts the entries that the queue gained and the objects that were reclaimed
pub record Answers (old : State) (passed : Passed) (new : State) : Type 0 where
  pub pass : passed.pass ≡ new.passes
  pub picked : length new.queue ≡ length old.queue + passed.picked
  pub reclaimed : passed.reclaimed ≡ count_by (λ a. not (contains_key new.objects a)) (keys old.objects)

-- ---- a pass

pub record IsLawful (old : State) (seen : ℕ → Type 0) (passed : Passed) (new : State) : Type 0 where
  pub stays : WhatStays old seen new
  pub links : WhichLinksStay old seen new
  pub queued : WhatIsQueued old seen new
  pub answers : Answers old passed new
  -- no cycle is open, and the history of the cycle is empty
  pub over : IsFalse new.cycle × (new.moments ≡ [])

-- for a pause, what was seen is what the cycle has seen; for a collect, what is reachable
pub record EachPassIsLawful (s : State) : Type 0 where
  pub pause : (passed : Passed) (new : State) → Step s (Make Pause) (Ok passed) new → IsLawful s (WasSeen s) passed new
  pub collect : (passed : Passed) (new : State) → Step s (Make Collect) (Ok passed) new → IsLawful s (IsReachable s.core) passed new
