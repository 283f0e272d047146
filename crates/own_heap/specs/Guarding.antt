-- What a guardian has, and what a weak pair has after a collection.
-- code: own_heap/src/guardian.rt, pair.rt, law.rt
use Rattle.std.specs.Prelude.{◌≡◌, ℕ, Bool, not, ◌&&◌, ◌==◌, ◌↔◌, List, [], ◌∷◌, filter, Option, Some, IsTrue}
use Rattle.std.specs.FinMap.{get, contains_key}
use Rattle.fz_model.specs.declared.answers.Entry.{Entry}
use Rattle.fz_model.specs.State.{Map, Object}
use Rattle.fz_finalizers.specs.States.{State}
use Rattle.fz_finalizers.specs.Follows.{Follows, Finish}
use Rattle.own_heap.specs.declared.record.Record.{Record}
use Rattle.own_heap.specs.declared.record.RecordId.{RecordId}
use Rattle.own_heap.specs.Records.{address_of, objects_of}
use Rattle.own_heap.specs.Collected.{Collects}
use Rattle.own_heap.specs.Sound.{IsSound}

-- the entry of an object, with this procedure; the entry of a cleanup has no object
abbrev pub is_guarded : ℕ → Entry → Bool
is_guarded procedure e = e.proc == procedure && not (e.obj == 0)

-- what the guardian with this procedure has: its entries that are held, in queue order
abbrev pub guarded : State → ℕ → List Entry
guarded s procedure = filter (is_guarded procedure) s.held

-- it has none, and nothing changes
abbrev pub GivesNone : ℕ → State → State → Type 0
GivesNone procedure old new = (guarded old procedure ≡ []) × (new ≡ old)

-- its first entry is finished, which is of this record
pub record IsGiven (procedure : ℕ) (old new : State) (id : RecordId) : Type 0 where
  pub entry : Entry
  pub rest : List Entry
  pub first : guarded old procedure ≡ entry ∷ rest
  pub object : entry.obj ≡ address_of id.place
  pub finished : Follows old (Finish entry) new

-- after a collection a pair that remains has the same record as before if that remains, too, and else none
abbrev pub PairsAreWeak : List (Option Record) → List RecordId → State → Map Object → State → Type 0
PairsAreWeak slots roots old left new = IsSound (objects_of slots) old → Collects (objects_of slots) roots old left new
    → (pair first : RecordId) → get old.long (address_of pair.place) ≡ Some (address_of first.place) → IsTrue (contains_key left (address_of pair.place))
    → (get new.long (address_of pair.place) ≡ Some (address_of first.place)) ↔ IsTrue (contains_key left (address_of first.place))
