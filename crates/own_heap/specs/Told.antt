-- What is told of records that aren't finalized.
-- code: own_heap/src/runtime.rt (why, stuck)
use Rattle.std.specs.Prelude.{ℕ, List, Option}
use Rattle.fz_model.specs.declared.answers.Registration.{Registration}
use Rattle.fz_finalizers.specs.States.{State}
use Rattle.fz_why.specs.declared.reason.Reason.{Reason}
use Rattle.fz_why.specs.Why.{IsToldOf, ListsStuck}
use Rattle.own_heap.specs.declared.record.Record.{Record}
use Rattle.own_heap.specs.declared.record.RecordId.{RecordId}
use Rattle.own_heap.specs.Outside.{place_of_link}
use Rattle.own_heap.specs.Records.{address_of, addresses_of, objects_of, value_of}

-- the reason is true of the record
abbrev pub IsToldOfRecord : List (Option Record) → List RecordId → State → Reason → RecordId → Type 0
IsToldOfRecord slots roots s reason id = IsToldOf place_of_link value_of (objects_of slots) (addresses_of roots) s reason (address_of id.place)

-- these are the addresses of the records that wait for a ring
abbrev pub AreStuckRecords : List (Option Record) → List RecordId → State → List (ℕ × Registration) → List ℕ → Type 0
AreStuckRecords slots roots s registrations stuck = ListsStuck place_of_link value_of (objects_of slots) (addresses_of roots) s registrations stuck
