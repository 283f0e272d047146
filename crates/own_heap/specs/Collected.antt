-- What a collection does.
-- code: own_heap/src/runtime.rt (collect)
use Rattle.std.specs.Prelude.{◌≡◌, ◌↔◌, ℕ, Bool, false, List, Option, Some, length, Contains, IsTrue}
use Rattle.fz_model.specs.State.{Map, Object}
use Rattle.fz_pass.specs.Marks.{Marks}
use Rattle.std.specs.FinMap.{contains_key, get}
use Rattle.std.specs.FinSet.{contains}
use Rattle.fz_pass.specs.Flagged.{DecidesFlagged}
use Rattle.fz_pass.specs.Holds.{IsOfKey, Settles, no_ephemerons}
use Rattle.fz_pass.specs.Whole.{DecidesWhole}
use Rattle.fz_finalizers.specs.declared.roots.Root.{Root}
use Rattle.fz_finalizers.specs.declared.roots.Root.TheVariants.{HeldObject, HeldData, RegisteredData}
use Rattle.fz_finalizers.specs.States.{State, AreFlags}
use Rattle.fz_model.specs.declared.kinds.LinkKind.{LinkKind}
use Rattle.fz_model.specs.declared.kinds.LinkKind.TheVariants.{Short, Long}
use Rattle.fz_finalizers.specs.declared.cleanups.Attached.{Attached}
use Rattle.fz_finalizers.specs.Cleanups.{is_due}
use Rattle.fz_finalizers.specs.Follows.{Cleans, Follows, Pass, next_pass}
use Rattle.fz_finalizers.specs.Passed.{parts_in}
use Rattle.fz_finalizers.specs.Walks.{YieldsRoots}
use Rattle.own_heap.specs.declared.record.Record.{Record}
use Rattle.own_heap.specs.declared.record.RecordId.{RecordId}
use Rattle.own_heap.specs.Outside.{place_of_link}
use Rattle.own_heap.specs.Records.{objects_of, value_of, IsLedByWord, IsLedByRoot}

-- a record that contains one of these words reaches it
abbrev pub IsLedByAny : Map Object → List ℕ → ℕ → Type 0
IsLedByAny objects words a = (word : ℕ) × Contains words word × IsLedByWord objects word a

-- exactly what the finalizers' roots of this kind reach was added to the marks
pub record MarksKept (objects : Map Object) (root : Root) (s : State) (old new : ℕ → Bool) : Type 0 where
  pub words : List ℕ
  pub yielded : YieldsRoots root s words
  pub marked : Marks (Unit {0}) objects old new (IsLedByAny objects words)

-- first what the roots reach was marked, then what the finalizers retain
pub record MarksAll (objects : Map Object) (roots : List RecordId) (s : State) (traced : ℕ → Bool) : Type 0 where
  pub rooted : ℕ → Bool
  pub held : ℕ → Bool
  pub handed : ℕ → Bool
  pub by_roots : Marks (Unit {0}) objects (λ a. false) rooted (IsLedByRoot objects roots)
  pub by_objects : MarksKept objects HeldObject s rooted held
  pub by_data : MarksKept objects HeldData s held handed
  pub by_registered : MarksKept objects RegisteredData s handed traced

-- of the objects those in the set remain, and no others
abbrev pub Remain : Map Object → Map Object → (ℕ → Bool) → Type 0
Remain objects left marked = (a : ℕ) → IsTrue (contains_key objects a) → marked a ≡ contains_key left a

-- what was marked, and the values of ephemerons that it holds, is found; the rest is a pass, whose retained objects remain: before its decision the short
-- cleanups of objects that weren't found are queued, and after it the long ones of objects that aren't retained
pub record Collects (objects : Map Object) (roots : List RecordId) (old : State) (left : Map Object) (new : State) : Type 0 where
  pub traced : ℕ → Bool
  pub found : ℕ → Bool
  pub marks : MarksAll objects roots old traced
  pub settles : Settles place_of_link value_of objects (IsOfKey old.ephemerons) (Unit {0}) traced found
  pub begun : State
  pub passed : State
  pub marked : ℕ → Bool
  pub remain : Remain objects left marked
  pub short : Cleans (next_pass old.passes) (is_due Short found) old begun
  pub decided : DecidesWhole (Unit {0}) place_of_link value_of (contains begun.late) (next_pass old.passes) (length begun.queue) (parts_in objects begun) begun.ephemerons found (parts_in left passed) passed.ephemerons begun.queue passed.queue
  pub follows : Follows begun Pass passed
  pub long : Cleans (next_pass old.passes) (is_due Long marked) passed new

-- a collection of a heap without ephemerons: what was marked is found
pub record CollectsByPaths (objects : Map Object) (roots : List RecordId) (old : State) (left : Map Object) (new : State) : Type 0 where
  pub found : ℕ → Bool
  pub marks : MarksAll objects roots old found
  pub begun : State
  pub passed : State
  pub marked : ℕ → Bool
  pub remain : Remain objects left marked
  pub short : Cleans (next_pass old.passes) (is_due Short found) old begun
  pub decided : DecidesFlagged (Unit {0}) place_of_link (contains begun.late) (next_pass old.passes) (length begun.queue) (parts_in objects begun) found (parts_in left passed) begun.queue passed.queue
  pub follows : Follows begun Pass passed
  pub long : Cleans (next_pass old.passes) (is_due Long marked) passed new

-- what a cleanup waits for isn't there yet: its record is found, or, if it is long, remains
abbrev pub lasts : LinkKind → (ℕ → Bool) → (ℕ → Bool) → ℕ → Bool
lasts Short found remains a = found a
lasts Long found remains a = remains a

-- a collection leaves a cleanup of a record exactly if the record was found, or, if the cleanup is long, remains
abbrev pub CleanupsGo : List (Option Record) → List RecordId → State → Map Object → State → Type 0
CleanupsGo slots roots old left new = (c : Collects (objects_of slots) roots old left new) → (number : ℕ) (a : Attached) → get old.cleanups number ≡ Some a → IsTrue (contains_key (objects_of slots) a.object)
    → (get new.cleanups number ≡ Some a) ↔ IsTrue (lasts a.cleanup.when c.found (contains_key left) a.object)

-- without ephemerons a collection goes by paths alone
abbrev pub CollectsWithout : List (Option Record) → List RecordId → State → Map Object → State → Type 0
CollectsWithout slots roots old left new =
    AreFlags old.registrations old.late → old.ephemerons ≡ no_ephemerons → Collects (objects_of slots) roots old left new
    → CollectsByPaths (objects_of slots) roots old left new × (new.ephemerons ≡ no_ephemerons)
