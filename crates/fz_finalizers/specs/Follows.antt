-- What the calls do, whatever the host does: each is an event, which leads from one state to another.
-- code: fz_finalizers/src/registrations.rt, links.rt, ephemerons.rt, adding.rt, passes.rt, entries.rt, stepwise.rt, whole.rt
use Rattle.std.specs.Prelude.{◌≡◌, ◌≢◌, ℕ, ◌+◌, ◌-◌, ◌^◌, min, not, Bool, List, [], ◌++◌, ◌∷◌, filter, length, map, slice_get, Some, All, AllPairs, IsTrue}
use Rattle.std.specs.FinMap.{get, insert, remove, empty}
use Rattle.std.specs.FinSet as sets
use Rattle.std.specs.Option.{option_map_or}
use Rattle.fz_model.specs.declared.answers.Entry.{Entry}
use Rattle.fz_model.specs.declared.answers.Pick.{Pick}
use Rattle.fz_model.specs.declared.answers.Registration.{Registration}
use Rattle.fz_model.specs.declared.kinds.LinkKind.{LinkKind}
use Rattle.fz_model.specs.Pass.{entry_of, entries_of, without_picks}
use Rattle.fz_model.specs.Events.{same_entry}
use Rattle.fz_model.specs.State.{Map}
use Rattle.fz_model.specs.Steps.{registration_of, moved_to}
use Rattle.fz_pass.specs.All.{unknown}
use Rattle.fz_pass.specs.Holds.{Ephemerons}
use Rattle.fz_pass.specs.Keyed.{moved, of_kind, with_ephemeron, without_ephemeron}
use Rattle.fz_pass.specs.Picking.{pick_of, without_flags}
use Rattle.fz_table.specs.Tabled.{with_flag}
use Rattle.fz_finalizers.specs.declared.kinds.Finalizer.{Finalizer}
use Rattle.fz_finalizers.specs.declared.cleanups.Attached.{Attached}
use Rattle.fz_finalizers.specs.declared.cleanups.Cleanup.{Cleanup}
use Rattle.fz_finalizers.specs.Cleanups.{AreDue, without}
use Rattle.fz_finalizers.specs.Cleanups as cleanups
use Rattle.fz_finalizers.specs.Kinds.{is_late, table_finalizer}
use Rattle.fz_finalizers.specs.States.{State, is_held, links_of, unfinished, waiting, with_links}

-- the number of the next pass; it never exceeds 2 ^ 64 - 1
abbrev pub next_pass : ℕ → ℕ
next_pass passes = min (passes + 1) (2 ^ 64 - 1)

-- the pick has the number, the procedure and the client data of its object's registration
abbrev pub IsOf : Map Registration → Pick → Type 0
IsOf table p = (r : Registration) × (get table p.obj ≡ Some r) × (p.reg ≡ r.number) × (p.proc ≡ r.proc) × (p.cd ≡ r.cd)

-- picks of these registrations, at most one for each object
pub record ArePicksIn (table : Map Registration) (picks : List Pick) : Type 0 where
  pub each : All (IsOf table) picks
  pub apart : AllPairs (λ (p q : Pick). p.obj ≢ q.obj) picks

-- entries of some registrations are appended to the queue, with successive numbers, and these registrations are removed
pub record Queues (pass : ℕ) (old new : State) : Type 0 where
  pub picks : List Pick
  pub picked : ArePicksIn old.registrations picks
  pub queue : new.queue ≡ old.queue ++ entries_of pass (length old.queue) picks
  pub taken : new.taken ≡ old.taken
  pub left : new.registrations ≡ without_picks old.registrations picks
  pub left_late : new.late ≡ without_flags old.late picks
  pub held : new.held ≡ old.held
  pub next_number : new.next_number ≡ old.next_number
  pub cleanups : new.cleanups ≡ old.cleanups

-- some ephemerons may be removed; none is added or changed
abbrev pub OnlyGo : Ephemerons → Ephemerons → Type 0
OnlyGo old new = (kind : LinkKind) (word key : ℕ) → get (of_kind new kind) word ≡ Some key → get (of_kind old kind) word ≡ Some key

-- the due cleanups leave, and their entries are appended to the queue, with successive numbers
abbrev pub Cleans : ℕ → (Attached → Bool) → State → State → Type 0
Cleans pass is_due old new =
    (due : List (ℕ × Attached)) × AreDue is_due old.cleanups due
    × (new ≡ record old { queue = old.queue ++ entries_of pass (length old.queue) (map cleanups.pick_of due); cleanups = without old.cleanups due })

pub data Event : Type 0 where
  Register : ℕ → Finalizer → Event
  Unregister : ℕ → Event
  Link : LinkKind → ℕ → ℕ → Event
  Unlink : LinkKind → ℕ → Event
  Move : LinkKind → ℕ → ℕ → Event
  Ephemeron : LinkKind → ℕ → ℕ → Event
  EndEphemeron : ℕ → Event
  MoveEphemeron : ℕ → ℕ → Event
  AddCleanup : ℕ → Cleanup → Event
  Cancel : ℕ → Event
  Clean : ℕ → (Attached → Bool) → Event
  Pass : Event
  Begin : Event
  Queue : ℕ → Event
  QueueCleanup : ℕ → Event
  QueueAll : Event
  Take : Entry → Event
  TakeFinished : Entry → Event
  TakeAll : List Entry → Event
  Finish : Entry → Event

-- the object is registered, in place of the registration that it may have
abbrev pub with_registration : State → ℕ → Finalizer → State
with_registration s object finalizer = record s {
  registrations = insert s.registrations object (registration_of s.next_number (table_finalizer finalizer));
  late = with_flag s.late object (is_late finalizer.kind);
  next_number = s.next_number + 1;
}

-- the object isn't registered
abbrev pub without_registration : State → ℕ → State
without_registration s object = record s { registrations = remove s.registrations object; late = sets.remove s.late object }

-- the object has one more cleanup, under the next number
abbrev pub with_cleanup : State → ℕ → Cleanup → State
with_cleanup s object cleanup = record s { cleanups = insert s.cleanups s.next_number (record { object = object; cleanup = cleanup }); next_number = s.next_number + 1 }

-- the cleanup with this number is removed
abbrev pub without_cleanup : State → ℕ → State
without_cleanup s number = record s { cleanups = remove s.cleanups number }

-- the object's registration is appended to the queue, as an entry of the last pass begun
abbrev pub queued_one : State → ℕ → Registration → State
queued_one s object r = record (without_registration s object) { queue = s.queue ++ entry_of s.passes (length s.queue) (pick_of r object unknown) ∷ [] }

-- the same, if the object is registered
abbrev pub queued_object : State → ℕ → State
queued_object s object = option_map_or (queued_one s object) (get s.registrations object) s

-- the cleanup leaves, and its entry is appended to the queue, as one of the last pass begun
abbrev pub queued_attached : State → ℕ → Attached → State
queued_attached s number c = record (without_cleanup s number) { queue = s.queue ++ entry_of s.passes (length s.queue) (cleanups.pick_of (number, c)) ∷ [] }

-- the same, if there is a cleanup with this number
abbrev pub queued_cleanup : State → ℕ → State
queued_cleanup s number = option_map_or (queued_attached s number) (get s.cleanups number) s

abbrev pub Follows : State → Event → State → Type 0
Follows old (Register object finalizer) new = new ≡ with_registration old object finalizer
Follows old (Unregister object) new = new ≡ without_registration old object
Follows old (Link kind word target) new = new ≡ with_links old kind (insert (links_of old kind) word target)
Follows old (Unlink kind word) new = new ≡ with_links old kind (remove (links_of old kind) word)
Follows old (Move kind word to) new = new ≡ with_links old kind (moved_to (links_of old kind) word to (get (links_of old kind) word))
Follows old (Ephemeron kind word key) new = new ≡ record old { ephemerons = with_ephemeron old.ephemerons kind word key }
Follows old (EndEphemeron word) new = new ≡ record old { ephemerons = without_ephemeron old.ephemerons word }
Follows old (MoveEphemeron word to) new = new ≡ record old { ephemerons = moved old.ephemerons word to }
Follows old (AddCleanup object cleanup) new = new ≡ with_cleanup old object cleanup
Follows old (Cancel number) new = new ≡ without_cleanup old number
Follows old (Clean pass is_due) new = Cleans pass is_due old new
Follows old Pass new = Queues (next_pass old.passes) old new × (new.passes ≡ next_pass old.passes) × OnlyGo old.ephemerons new.ephemerons
Follows old Begin new = new ≡ record old { passes = next_pass old.passes }
Follows old (Queue object) new = new ≡ queued_object old object
Follows old (QueueCleanup number) new = new ≡ queued_cleanup old number
Follows old QueueAll new = Queues 0 old new × (new.registrations ≡ empty) × (new.late ≡ sets.empty) × (new.short ≡ old.short) × (new.long ≡ old.long) × (new.passes ≡ old.passes) × (new.ephemerons ≡ old.ephemerons)
Follows old (Take entry) new = (slice_get old.queue old.taken ≡ Some entry) × (new ≡ record old { taken = old.taken + 1; held = old.held ++ entry ∷ [] })
Follows old (TakeFinished entry) new = (slice_get old.queue old.taken ≡ Some entry) × (new ≡ record old { taken = old.taken + 1 })
Follows old (TakeAll entries) new = (entries ≡ waiting old) × (new ≡ record old { taken = length old.queue; held = unfinished old })
Follows old (Finish entry) new = IsTrue (is_held old.held entry) × (new ≡ record old { held = filter (λ h. not (same_entry entry h)) old.held })
