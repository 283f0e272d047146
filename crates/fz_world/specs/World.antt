-- The model of a world. It has the state of the model without the history of an open cycle. Of the last cycle it has the marked and the scanned objects, the
-- dirty pages, and the number of scans. Of the queue it has the number from which on entries are shown, and how many entries are in memory.
-- code: fz_world/src/world.rt, fz_world/src/objects.rt
use Rattle.std.specs.Prelude.{◌≡◌, ℕ, ◌+◌, ◌<◌, ◌≤◌, Bool, List, if◌then◌else◌, IsTrue, length, refl}
use Rattle.std.specs.Coded.{Coded, code_by, coded×, coded_ℕ}
use Rattle.std.specs.FinSet as sets
use Rattle.std.specs.FinSet.{contains, insert}
use Rattle.fz_model.specs.declared.limits.TheConstants.{COUNT_LIMIT}
use Rattle.fz_model.specs.State.{Map, Object, Core}
use Rattle.fz_model.specs.Allocation.{block_of}
use Rattle.fz_model.specs.Codes.{core_code}
use Rattle.fz_model.specs.Parts.{AreSound}
use Rattle.fz_heap.specs.Contents.{Contents}
use Rattle.fz_bits.specs.Flags.{Set}
use Rattle.fz_dirty.specs.Pages.{Pages}
use Rattle.fz_marker.specs.Marking.{Marking, CleanAreClosed, readable_count}
use Rattle.fz_pass.specs.Marks.{AreTargets}
use Rattle.fz_finalizers.specs.States.{State, Memory}

pub record WorldView : Type 0 where
  pub core : Core
  pub open core use *
  pub marked : Set
  pub scanned : Set
  pub noted : Set
  pub scans : ℕ
  pub forgotten : ℕ
  pub remembered : ℕ

abbrev pub world_code : Coded WorldView
world_code =
    code_by (Core × (Set × (Set × (Set × (ℕ × (ℕ × ℕ)))))) (coded× core_code (coded× (sets.code coded_ℕ) (coded× (sets.code coded_ℕ) (coded× (sets.code coded_ℕ) (coded× coded_ℕ (coded× coded_ℕ coded_ℕ))))))
    (λ w. (w.core, (w.marked, (w.scanned, (w.noted, (w.scans, (w.forgotten, w.remembered)))))))
    (λ p. record { core = p.0; marked = p.1.0; scanned = p.1.1.0; noted = p.1.1.1.0; scans = p.1.1.1.1.0; forgotten = p.1.1.1.1.1.0; remembered = p.1.1.1.1.1.1 }) (λ _. refl)

abbrev pub core_of : Contents → List (List ℕ) → State → Bool → Bool → Core
core_of heap frames s closed cycle =
    record {
      blocks = heap.blocks;
      objects = heap.objects;
      frames = frames;
      registrations = s.registrations;
      short = s.short;
      long = s.long;
      held = s.held;
      queue = s.queue;
      next_birth = heap.next_birth;
      next_number = s.next_number;
      passes = s.passes;
      closed = closed;
      cycle = cycle;
    }

abbrev pub view_of : Core → Marking → Pages → Memory → WorldView
view_of core marker pages memory =
    record {
      core = core;
      marked = marker.marked;
      scanned = marker.scanned;
      noted = pages.noted;
      scans = marker.scans;
      forgotten = memory.forgotten;
      remembered = memory.remembered;
    }

-- the call leaves marks and dirty pages unchanged, and forgets nothing; a pass adds entries in memory
abbrev pub KeepsMarks : WorldView → WorldView → Type 0
KeepsMarks old new = new ≡ record old { core = new.core; remembered = new.remembered }

-- in an open cycle, the set with this number added
abbrev pub with_in_cycle : Bool → Set → ℕ → Set
with_in_cycle cycle set n = if cycle then insert set n else set

-- the call allocates the object at this address: in an open cycle it is marked, and its page becomes dirty
abbrev pub MarksMade : WorldView → ℕ → WorldView → Type 0
MarksMade old address new =
    new ≡ record old { core = new.core; marked = with_in_cycle old.cycle old.marked address; noted = with_in_cycle old.cycle old.noted (block_of address) }

-- the call writes the word at this address: in an open cycle its page becomes dirty
abbrev pub NotesWritten : WorldView → ℕ → WorldView → Type 0
NotesWritten old address new = new ≡ record old { core = new.core; noted = with_in_cycle old.cycle old.noted (block_of address) }

-- no registration is of kind `Unreachable`, which the model doesn't have
abbrev pub HasNoUnreachable : State → Type 0
HasNoUnreachable s = s.late ≡ sets.empty

-- the same, and all entries are taken: a world holds an entry as soon as a pass queues it
pub record IsPlain (s : State) : Type 0 where
  pub none : HasNoUnreachable s
  pub taken : s.taken ≡ length s.queue

-- the invariant of a world's parts, with this number of pages
pub record IsWhole (objects : Map Object) (blocks : ℕ) (s : State) (pages : ℕ) : Type 0 where
  pub sound : AreSound objects s.registrations s.next_number s.queue s.held
  pub pages_are : pages ≡ blocks
  pub plain : IsPlain s

-- the invariant in an open cycle
pub record IsMidCycle (heap : Contents) (marker : Marking) (noted : Set) : Type 0 where
  -- a scanned object that lies on no dirty page has marked children only, and no object was scanned twice
  pub clean : CleanAreClosed heap.objects marker noted
  pub once : marker.scans ≤ readable_count heap.objects (contains marker.scanned)
  -- there are no dead, unswept cells: the cycle began with a sweep
  pub none_condemned : heap.condemned ≡ sets.empty

-- both as one name that proofs pass on whole
unfoldable pub IsWorld : Contents → State → Marking → Pages → Bool → Type 0
IsWorld heap s marker pages cycle =
    IsWhole heap.objects heap.blocks s pages.pages × (IsTrue cycle → IsMidCycle heap marker pages.noted)

-- a cycle is open only if its pass has a number
abbrev pub HasNumber : ℕ → Bool → Type 0
HasNumber passes cycle = IsTrue cycle → passes + 1 < COUNT_LIMIT

-- the targets of links are objects, as one name
unfoldable pub HaveTargets : Map Object → Map ℕ → Type 0
HaveTargets objects links = AreTargets objects links
