-- What holds after every sequence of calls from an opening, whatever the host does.
-- code: fz_finalizers/src/law.rt
use Rattle.std.specs.Prelude.{◌≡◌, ◌≢◌, ◌↔◌, ℕ, ◌<◌, ◌≤◌, List, [], ◌∷◌, ◌++◌, take, length, slice_get, Some, Contains, All, AllPairs}
use Rattle.std.specs.FinMap.{get}
use Rattle.fz_model.specs.declared.answers.Entry.{Entry}
use Rattle.fz_model.specs.declared.answers.Registration.{Registration}
use Rattle.fz_finalizers.specs.declared.kinds.Finalizer.{Finalizer}
use Rattle.fz_finalizers.specs.declared.roots.Root.TheVariants.{HeldObject, HeldData}
use Rattle.fz_finalizers.specs.declared.cleanups.Attached as cleanups
use Rattle.fz_finalizers.specs.declared.cleanups.Cleanup.{Cleanup}
use Rattle.fz_finalizers.specs.States.{State, AreFlags, opening, unfinished, kind_at}
use Rattle.fz_finalizers.specs.Follows.{Event, Follows, Register, Unregister, Link, Unlink, Move, Ephemeron, EndEphemeron, MoveEphemeron, AddCleanup, Cancel, Clean, Pass, Begin, Queue, QueueCleanup, QueueAll, Take, TakeFinished, TakeAll, Finish}
use Rattle.fz_finalizers.specs.Walks.{YieldsRoots}

-- what a number was given for
pub data Made : Type 0 where
  Registered : Finalizer → Made
  Attached : Cleanup → Made

-- the registrations and cleanups that were made, each with its object; the taken entries; and the finished ones; each in order
pub record Past : Type 0 where
  pub made : List (ℕ × Made)
  pub taken : List Entry
  pub finished : List Entry

-- the history after an event
abbrev pub with_event : Past → Event → Past
with_event past (Take entry) = record past { taken = past.taken ++ entry ∷ [] }
with_event past (TakeFinished entry) = record past { taken = past.taken ++ entry ∷ []; finished = past.finished ++ entry ∷ [] }
with_event past (TakeAll entries) = record past { taken = past.taken ++ entries }
with_event past (Finish entry) = record past { finished = past.finished ++ entry ∷ [] }
with_event past Pass = past
with_event past (Queue object) = past
with_event past (QueueCleanup number) = past
with_event past QueueAll = past
with_event past (Register object finalizer) = record past { made = past.made ++ (object, Registered finalizer) ∷ [] }
with_event past (AddCleanup object cleanup) = record past { made = past.made ++ (object, Attached cleanup) ∷ [] }
with_event past (Cancel number) = past
with_event past (Clean pass is_due) = past
with_event past (Unregister object) = past
with_event past (Link kind word target) = past
with_event past (Unlink kind word) = past
with_event past (Move kind word to) = past
with_event past (Ephemeron kind word key) = past
with_event past (EndEphemeron word) = past
with_event past (MoveEphemeron word to) = past
with_event past Begin = past

-- the states that calls reach, each with its history
pub data IsReached : State → Past → Type 0 where
  Opened : IsReached opening (record { made = []; taken = []; finished = [] })
  Then : {old new : State} {past : Past} (event : Event) → IsReached old past → Follows old event new → IsReached new (with_event past event)

pub record Promises (s : State) (past : Past) : Type 0 where
  -- the taken entries are a prefix of the queue, whose entries are numbered by their index: so entries are taken in queue order, each once
  pub takes : past.taken ≡ take s.taken s.queue
  pub within : s.taken ≤ length s.queue
  pub numbered : (k : ℕ) (e : Entry) → slice_get s.queue k ≡ Some e → e.seq ≡ k
  -- a number belongs to one registration or one cleanup: of one object, or of one entry that waits, is held or is finished
  pub flags : AreFlags s.registrations s.late
  pub one : (a b : ℕ) (r q : Registration) → get s.registrations a ≡ Some r → get s.registrations b ≡ Some q → r.number ≡ q.number → a ≡ b
  pub once : AllPairs (λ (d e : Entry). d.reg ≢ e.reg) s.queue
  pub gone : (a : ℕ) (r : Registration) → get s.registrations a ≡ Some r → All (λ (e : Entry). e.reg ≢ r.number) s.queue
  pub below : (a : ℕ) (r : Registration) → get s.registrations a ≡ Some r → r.number < s.next_number
  pub queued_below : All (λ (e : Entry). e.reg < s.next_number) s.queue
  pub other : (number : ℕ) (c : cleanups.Attached) → get s.cleanups number ≡ Some c → (a : ℕ) (r : Registration) → get s.registrations a ≡ Some r → r.number ≢ number
  pub uncleaned : (number : ℕ) (c : cleanups.Attached) → get s.cleanups number ≡ Some c → All (λ (e : Entry). e.reg ≢ number) s.queue
  pub cleanups_below : (number : ℕ) (c : cleanups.Attached) → get s.cleanups number ≡ Some c → number < s.next_number
  -- exactly the entries that were taken and aren't finished are held, in queue order, each once
  pub held : (e : Entry) → Contains s.held e ↔ (Contains past.taken e × (Contains past.finished e → ⊥))
  pub in_order : AllPairs (λ (d e : Entry). d.seq < e.seq) s.held
  pub finished_taken : (e : Entry) → Contains past.finished e → Contains past.taken e
  -- so an entry that isn't finished waits or is held
  pub kept : (e : Entry) → Contains s.queue e → (Contains past.finished e → ⊥) → Contains (unfinished s) e

-- what an entry has of what was made under its number: the entry of a cleanup has no object
abbrev pub IsEntryOf : ℕ × Made → Entry → Type 0
IsEntryOf (object, Registered f) e = (e.obj ≡ object) × (e.proc ≡ f.procedure) × (e.cd ≡ f.client_data)
IsEntryOf (object, Attached c) e = (e.obj ≡ 0) × (e.birth ≡ 0) × (e.proc ≡ c.procedure) × (e.cd ≡ c.client_data)

-- the number of a registration or a cleanup is the count of those that were made before it. It has what was passed to the call, and so has its entry.
pub record Records (s : State) (past : Past) : Type 0 where
  pub numbers : s.next_number ≡ length past.made
  pub registered : (object : ℕ) (r : Registration) → get s.registrations object ≡ Some r
      → (f : Finalizer) × (slice_get past.made r.number ≡ Some (object, Registered f)) × (kind_at s object ≡ Some f.kind) × (r.proc ≡ f.procedure) × (r.cd ≡ f.client_data) × (r.rank ≡ f.rank)
  pub attached : (number : ℕ) (c : cleanups.Attached) → get s.cleanups number ≡ Some c → slice_get past.made number ≡ Some (c.object, Attached c.cleanup)
  pub queued : (e : Entry) → Contains s.queue e → (made : ℕ × Made) × (slice_get past.made e.reg ≡ Some made) × IsEntryOf made e

-- each word is an ephemeron of one kind at most
abbrev pub AreSingle : State → Type 0
AreSingle s = (word short long : ℕ) → get s.ephemerons.short word ≡ Some short → get s.ephemerons.long word ≡ Some long → ⊥

-- the iterations over held objects and over their data contain every entry that was queued and isn't finished
abbrev pub AreWalked : State → Past → Type 0
AreWalked s past = (e : Entry) → Contains s.queue e → (Contains past.finished e → ⊥)
    → ((words : List ℕ) → YieldsRoots HeldObject s words → Contains words e.obj) × ((words : List ℕ) → YieldsRoots HeldData s words → Contains words e.cd)
