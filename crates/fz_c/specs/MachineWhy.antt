-- Why an object isn't finalized, and which objects wait for a ring, as C gets it.
-- code: fz_c/src/machine/asking.rt, stuck.rt
use Rattle.std.specs.Prelude.{◌≡◌, ◌⊎◌, ℕ, List, [], length, Option, Some, None, Result, Ok, Err}
use Rattle.fz_finalizers.specs.declared.refused.Refused.TheVariants.{NoMemory}
use Rattle.fz_machine.specs.declared.phase.Phase.{Phase}
use Rattle.fz_machine.specs.declared.refused.Refused.{Refused}
use Rattle.fz_machine.specs.declared.refused.Refused.TheVariants.{PassOpen, Finalizers}
use Rattle.fz_machine.specs.Machines.{Machine}
use Rattle.fz_why.specs.declared.reason.Reason.{Reason}
use Rattle.fz_why.specs.declared.reason.Reason.TheVariants.{Unregistered, Queued, Found, Ring, Waits, Ready}
use Rattle.fz_why.specs.declared.reason.RootOf.{RootOf}
use Rattle.fz_why.specs.declared.reason.RootOf.TheVariants.{Host, RegisteredData, CleanupData, HeldObject, HeldData}
use Rattle.fz_why.specs.Copies.{AreStuckIn, IsToldIn}
use Rattle.fz_why.specs.Snapshot.{Copy, HasAll, objects_of}
use Rattle.fz_finalizers.specs.Walks.{registrations_in_order}
use Rattle.fz_c.specs.declared.machine.asking.Told.{Told}
use Rattle.fz_c.specs.declared.machine.codes.TheConstants.{OK, NOT_OPEN, NO_MEMORY, EMPTY}
use Rattle.fz_c.specs.declared.machine.entries.HostEntry.{HostEntry}
use Rattle.fz_c.specs.declared.machine.snapshot.session.SnapshotSession.{SnapshotSession}
use Rattle.fz_c.specs.MachineCodes.{code_of}
use Rattle.fz_c.specs.MachineEntries.{TellsEntry}

abbrev pub root_number : RootOf → ℕ
root_number (Host index) = 0
root_number (RegisteredData number) = 1
root_number (CleanupData number) = 2
root_number (HeldObject seq) = 3
root_number (HeldData seq) = 4

abbrev pub root_index : RootOf → ℕ
root_index (Host index) = index
root_index (RegisteredData number) = number
root_index (CleanupData number) = number
root_index (HeldObject seq) = seq
root_index (HeldData seq) = seq

abbrev pub no_entry : HostEntry
no_entry = record { seq = 0; pass = 0; reg = 0; obj = 0; proc = 0; cd = 0 }

-- an answer without an entry, with a path of this length
abbrev answer : ℕ → ℕ → Told
answer reason length = record { entry = no_entry; number = 0; length = length; reason = reason; root = 0 }

-- what C gets of a reason, and its path
abbrev pub Tells : Reason → Told → List ℕ → Type 0
Tells Unregistered told path = (told ≡ answer 0 0) × (path ≡ [])
Tells (Queued e) told path = ((entry : HostEntry) × TellsEntry e entry × (told ≡ record { entry = entry; number = 0; length = 0; reason = 1; root = 0 })) × (path ≡ [])
Tells (Found root found) told path =
    (told ≡ record { entry = no_entry; number = root_index root; length = length found.items; reason = 2; root = root_number root }) × (path ≡ found.items)
Tells (Waits found) told path = (told ≡ answer 3 (length found.items)) × (path ≡ found.items)
Tells (Ring found) told path = (told ≡ answer 4 (length found.items)) × (path ≡ found.items)
Tells Ready told path = (told ≡ answer 5 0) × (path ≡ [])

-- the reason is true of the object, by the copy
abbrev pub IsTrueOf : ℕ → Machine → Copy → Reason → Type 0
IsTrueOf object m copy reason = IsToldIn copy m.finalizers.state reason object

-- the copy lacks a registered object, the target of a short link, or the key of a short ephemeron
abbrev pub Lacks : Machine → Copy → Type 0
Lacks m copy = HasAll (objects_of copy.cells) m.finalizers.state → ⊥

-- refused while a pass is open, and out of memory
abbrev pub IsRefused : Machine → Refused → Type 0
IsRefused m r = ((r ≡ PassOpen) × ((phase : Phase) × (m.phase ≡ Some phase))) ⊎ ((r ≡ Finalizers NoMemory) × (m.phase ≡ None))

-- a reason, or none by a copy that lacks objects
abbrev pub IsReasoned : ℕ → Machine → Copy → Result (Option Reason) Refused → Type 0
IsReasoned object m copy (Ok (Some reason)) = (m.phase ≡ None) × IsTrueOf object m copy reason
IsReasoned object m copy (Ok None) = (m.phase ≡ None) × Lacks m copy
IsReasoned object m copy (Err r) = IsRefused m r

-- C gets the answer, and the copy has its path; or both are unchanged
abbrev pub Asks : ℕ → Machine → SnapshotSession → SnapshotSession → ℕ → Told → Told → Type 0
Asks object m s t code old told =
    ((code ≡ OK) × (m.phase ≡ None) × ((reason : Reason) × IsTrueOf object m s.snapshot reason × Tells reason told t.path.items) × (t.snapshot ≡ s.snapshot))
    ⊎ ((code ≡ EMPTY) × (m.phase ≡ None) × Lacks m s.snapshot × (told ≡ old) × (t ≡ s))
    ⊎ ((code ≡ code_of PassOpen) × ((phase : Phase) × (m.phase ≡ Some phase)) × (told ≡ old) × (t ≡ s))
    ⊎ ((code ≡ NO_MEMORY) × (m.phase ≡ None) × (told ≡ old) × (t ≡ s))

-- by the copy, these are the objects that wait for a ring
abbrev pub AreStuckBy : Machine → Copy → List ℕ → Type 0
AreStuckBy m copy objects = AreStuckIn copy m.finalizers.state (registrations_in_order m.finalizers) objects

-- C gets how many wait for a ring, and the copy has them in place of a path; or both are unchanged
abbrev pub ListsStuck : Machine → SnapshotSession → SnapshotSession → ℕ → ℕ → ℕ → Type 0
ListsStuck m s t code old count =
    ((code ≡ OK) × (m.phase ≡ None) × AreStuckBy m s.snapshot t.path.items × (count ≡ length t.path.items) × (t.snapshot ≡ s.snapshot))
    ⊎ ((code ≡ EMPTY) × (m.phase ≡ None) × Lacks m s.snapshot × (count ≡ old) × (t ≡ s))
    ⊎ ((code ≡ code_of PassOpen) × ((phase : Phase) × (m.phase ≡ Some phase)) × (count ≡ old) × (t ≡ s))
    ⊎ ((code ≡ NO_MEMORY) × (m.phase ≡ None) × (count ≡ old) × (t ≡ s))

-- a question by a copy, which gives C an answer, through the handle of the finalizers, which are unchanged
abbrev pub AsksThrough : {X : Type 0} → (Machine → SnapshotSession → SnapshotSession → ℕ → X → X → Type 0) → Option Machine → Option Machine → SnapshotSession → SnapshotSession → ℕ → X → X → Type 0
AsksThrough Does (Some m) n s t code old new = (n ≡ Some m) × Does m s t code old new
AsksThrough Does None n s t code old new = (n ≡ None) × (code ≡ NOT_OPEN) × (new ≡ old) × (t ≡ s)

-- and through the handle of the copy
abbrev pub AsksBehind : {X : Type 0} → (Machine → SnapshotSession → SnapshotSession → ℕ → X → X → Type 0) → Option Machine → Option Machine → Option SnapshotSession → Option SnapshotSession → ℕ → X → X → Type 0
AsksBehind Does m n (Some s) (Some t) code old new = AsksThrough Does m n s t code old new
AsksBehind Does m n (Some s) None code old new = ⊥
AsksBehind Does m n None t code old new = (n ≡ m) × (t ≡ None) × (code ≡ NOT_OPEN) × (new ≡ old)
