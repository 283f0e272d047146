-- Laws that test the definitions of registrations and held entries. They state what one expects of each call, in other words than its definition.
-- code: fz_model/src/laws.rt (every_call)
use Rattle.std.specs.Prelude.{◌≡◌, ◌≢◌, ℕ, ◌+◌, ◌<◌, ◌≤◌, ◌⊎◌, Option, None, Some, Contains, Result, Ok, ◌↔◌}
use Rattle.std.specs.FinMap.{get}
use Rattle.fz_model.specs.declared.call.Call.TheVariants.{Register, Unregister, Pause, Collect, Outstanding}
use Rattle.fz_model.specs.declared.places.Slot.{Slot}
use Rattle.fz_model.specs.declared.finalizer.Finalizer.{Finalizer}
use Rattle.fz_model.specs.declared.answers.Entry.{Entry}
use Rattle.fz_model.specs.declared.answers.Registration.{Registration}
use Rattle.fz_model.specs.declared.answers.Old.{Old}
use Rattle.fz_model.specs.declared.answers.RegAnswer.{RegAnswer}
use Rattle.fz_model.specs.declared.answers.RegAnswer.TheVariants.{Outside, Number}
use Rattle.fz_model.specs.declared.limits.TheConstants.{HEAP_START}
use Rattle.fz_model.specs.declared.refusal.Refusal.{Refusal}
use Rattle.fz_model.specs.State.{State}
use Rattle.fz_model.specs.Extents.{heap_end}
use Rattle.fz_model.specs.Memory.{slot_word}
use Rattle.fz_model.specs.Events.{Event, Make, Finish, Answer}
use Rattle.fz_model.specs.Steps.{Step}
use Rattle.fz_model.specs.Joint.{Joint, worker_at}
use Rattle.fz_model.specs.CallLaws.{Stands}

-- ---- registrations

-- returns the procedure and the client data of the old registration, if there was one
pub record Tells (was : Option Registration) (old : Option Old) : Type 0 where
  pub nothing : was ≡ None → old ≡ None
  pub pair : (r : Registration) → was ≡ Some r → (o : Old) × (old ≡ Some o) × (o.proc ≡ r.proc) × (o.cd ≡ r.cd)

-- the object has this finalizer now, under a number that no registration and no entry had before
pub record IsRegistered (old : State) (object : ℕ) (finalizer : Finalizer) (answer : RegAnswer) (new : State) : Type 0 where
  pub registration : Registration
  pub here : get new.registrations object ≡ Some registration
  pub kind : registration.kind ≡ finalizer.kind
  pub procedure : registration.proc ≡ finalizer.procedure
  pub client_data : registration.cd ≡ finalizer.client_data
  pub named_rank : (rank : ℕ) → finalizer.rank ≡ Some rank → registration.rank ≡ rank
  pub no_rank : finalizer.rank ≡ None → registration.rank ≡ 0
  pub replaced : Option Old
  pub answered : answer ≡ Number registration.number replaced
  pub told : Tells (get old.registrations object) replaced
  pub counted : (registration.number ≡ old.next_number) × (new.next_number ≡ registration.number + 1)
  pub fresh : (a : ℕ) (r : Registration) → get old.registrations a ≡ Some r → r.number < registration.number
  pub never_queued : (e : Entry) → Contains old.queue e → e.reg < registration.number
  -- the object exists; every other registration and everything else is unchanged
  pub stands : Stands old.objects object
  pub others : (a : ℕ) → a ≢ object → get new.registrations a ≡ get old.registrations a
  pub rest : new.core ≡ record old.core { registrations = new.registrations; next_number = new.next_number }

-- for a word outside the heap nothing happens
pub record ObjectsAreRegistered (s : State) : Type 0 where
  pub outside : (slot : Slot) (finalizer : Finalizer) (answer : RegAnswer) (new : State) → (slot_word s.frames slot < HEAP_START) ⊎ (heap_end s.blocks ≤ slot_word s.frames slot) → Step s (Make (Register slot finalizer)) (Ok answer) new → (answer ≡ Outside) × (new.core ≡ s.core)
  pub object : (slot : Slot) (finalizer : Finalizer) (answer : RegAnswer) (new : State) → HEAP_START ≤ slot_word s.frames slot → slot_word s.frames slot < heap_end s.blocks → Step s (Make (Register slot finalizer)) (Ok answer) new → IsRegistered s (slot_word s.frames slot) finalizer answer new

-- the result says what was registered; no registration is left; every other registration and everything else is unchanged
pub record IsUnregistered (old : State) (object : ℕ) (answer : Option Old) (new : State) : Type 0 where
  pub told : Tells (get old.registrations object) answer
  pub gone : get new.registrations object ≡ None
  pub others : (a : ℕ) → a ≢ object → get new.registrations a ≡ get old.registrations a
  pub rest : new.core ≡ record old.core { registrations = new.registrations }

abbrev pub ObjectsAreUnregistered : State → Type 0
ObjectsAreUnregistered s =
    (slot : Slot) (answer : Option Old) (new : State) → Step s (Make (Unregister slot)) (Ok answer) new → IsUnregistered s (slot_word s.frames slot) answer new

-- ---- held entries

-- how many held entries an event adds, and how many it removes
abbrev pub queued_by : (e : Event) → Result (Answer e) Refusal → ℕ
queued_by (Make Pause) (Ok passed) = passed.picked
queued_by (Make Collect) (Ok passed) = passed.picked
queued_by _ reply = 0

abbrev pub finished_by : (e : Event) → Result (Answer e) Refusal → ℕ
finished_by (Finish entry) (Ok answer) = 1
finished_by _ reply = 0

-- the finished entry is no longer held; every other entry and everything else is unchanged
pub record IsLetGo (old : State) (entry : Entry) (new : State) : Type 0 where
  pub was : Contains old.held entry
  pub gone : Contains new.held entry → ⊥
  pub others : (e : Entry) → e ≢ entry → Contains new.held e ↔ Contains old.held e
  pub rest : new.core ≡ record old.core { held = new.held }

-- reading the number changes nothing; it is 0 exactly if nothing is held, grows by what a pass queues, and shrinks by one with each finish
pub record HeldAreCounted (s : State) : Type 0 where
  pub looks : (count : ℕ) (new : State) → Step s (Make Outstanding) (Ok count) new → new.core ≡ s.core
  pub none : (count : ℕ) (new : State) → Step s (Make Outstanding) (Ok count) new → count ≡ 0 ↔ ((e : Entry) → Contains s.held e → ⊥)
  pub goes_on : (e : Event) (reply : Result (Answer e) Refusal) (mid : State) (before after : ℕ) (old new : State) → Step s (Make Outstanding) (Ok before) old → Step s e reply mid → Step mid (Make Outstanding) (Ok after) new → after + finished_by e reply ≡ before + queued_by e reply
  pub lets_go : (entry : Entry) (answer : Unit {0}) (new : State) → Step s (Finish entry) (Ok answer) new → IsLetGo s entry new

-- an entry is in at most one worker's hand, and a forfeited entry in none
pub record InOneHand (j : Joint) : Type 0 where
  pub hands : (v w : ℕ) (e : Entry) → (worker_at j v).hand ≡ Some e → (worker_at j w).hand ≡ Some e → v ≡ w
  pub forfeited : (v w : ℕ) (e : Entry) → Contains (worker_at j v).forfeited e → (worker_at j w).hand ≡ Some e → ⊥
