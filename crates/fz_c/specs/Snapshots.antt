-- Copies of heaps behind handles, and what C lists in them.
-- code: fz_c/src/machine/snapshot.rt
use Rattle.std.specs.Prelude.{◌≡◌, ◌⊎◌, ℕ, ◌-◌, ◌++◌, ◌&&◌, zero, suc, Bool, true, false, not, is_some, [], ◌∷◌, Option, Some, None, Result, Ok, Err, IfOk}
use Rattle.fz_why.specs.declared.room.NoMemory.{NoMemory}
use Rattle.fz_why.specs.declared.snapshot.listing.Cell.{Cell}
use Rattle.fz_why.specs.declared.snapshot.listing.Listed.{Listed}
use Rattle.fz_why.specs.Snapshot.{DoesOrNot, Keeps, Lists, cell_of, holder_of, is_taken}
use Rattle.fz_c.specs.declared.machine.codes.TheConstants.{OK, IS_OPEN, NO_MEMORY, OVERLAP}
use Rattle.fz_c.specs.declared.machine.snapshot.session.SnapshotSession.{SnapshotSession}

-- an open handle keeps what it has
abbrev pub Opens : Option SnapshotSession → Option SnapshotSession → ℕ → Type 0
Opens (Some old) new code = (code ≡ IS_OPEN) × (new ≡ Some old)
Opens None (Some s) code = (code ≡ OK) × (s.snapshot.cells ≡ []) × (s.snapshot.links ≡ []) × (s.snapshot.roots ≡ []) × (s.path.items ≡ [])
Opens None None code = code ≡ NO_MEMORY

abbrev pub code_for : Result Bool NoMemory → ℕ
code_for (Ok true) = OK
code_for (Ok false) = OVERLAP
code_for (Err e) = NO_MEMORY

abbrev pub link_for : ℕ → Option ℕ
link_for zero = None
link_for (suc n) = Some (suc n)

-- a word is listed of an object, or nothing changes
abbrev ListsCell : SnapshotSession → SnapshotSession → Result Bool NoMemory → ℕ → Cell → Type 0
ListsCell s t reply word cell =
    DoesOrNot reply (Lists s.snapshot.cells t.snapshot.cells s.snapshot.links t.snapshot.links word cell) (Keeps s.snapshot.cells t.snapshot.cells s.snapshot.links t.snapshot.links)
    × (t.snapshot.roots ≡ s.snapshot.roots) × (t.path ≡ s.path)

abbrev pub ListsObject : ℕ → Listed → ℕ → SnapshotSession → SnapshotSession → Type 0
ListsObject object listed code s t =
    (reply : Result Bool NoMemory) × (code ≡ code_for reply) × IfOk reply (λ done. done ≡ not (is_taken s.snapshot.cells s.snapshot.links object listed.link))
    × ListsCell s t reply object (cell_of object listed)

abbrev pub ListsWord : ℕ → Listed → ℕ → SnapshotSession → SnapshotSession → Type 0
ListsWord word listed code s t =
    (reply : Result Bool NoMemory) × (code ≡ code_for reply) × IfOk reply (λ done. done ≡ (is_some (holder_of s.snapshot.cells (word - 1)) && not (is_taken s.snapshot.cells s.snapshot.links word listed.link)))
    × DoesOrNot reply
    ((object : ℕ) × (holder_of s.snapshot.cells (word - 1) ≡ Some object) × Lists s.snapshot.cells t.snapshot.cells s.snapshot.links t.snapshot.links word (cell_of object listed))
    (Keeps s.snapshot.cells t.snapshot.cells s.snapshot.links t.snapshot.links)
    × (t.snapshot.roots ≡ s.snapshot.roots) × (t.path ≡ s.path)

abbrev pub ListsRoot : ℕ → ℕ → SnapshotSession → SnapshotSession → Type 0
ListsRoot word code s t =
    (((code ≡ OK) × (t.snapshot.roots ≡ s.snapshot.roots ++ word ∷ [])) ⊎ ((code ≡ NO_MEMORY) × (t.snapshot.roots ≡ s.snapshot.roots)))
    × (t.snapshot.cells ≡ s.snapshot.cells) × (t.snapshot.links ≡ s.snapshot.links) × (t.path ≡ s.path)
