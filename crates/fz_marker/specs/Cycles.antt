-- How the marks of a cycle grow.
-- code: fz_marker/src/cycle.rt
use Rattle.std.specs.Prelude.{◌&&◌, count_by, ◌≡◌, ℕ, ◌+◌, ◌*◌, ◌≤◌, Bool, nat_lt, cond, length, Contains, ◌⊎◌, IsTrue, IsFalse}
use Rattle.std.specs.FinSet.{contains, insert, len}
use Rattle.std.specs.FinMap.{keys}
use Rattle.fz_model.specs.declared.limits.TheConstants.{HEAP_START, BLOCK_WORDS, MAX_BLOCKS}
use Rattle.fz_model.specs.State.{Map, Object}
use Rattle.fz_model.specs.Reachability.{Child}
use Rattle.fz_heap.specs.Contents.{pointers_of}
use Rattle.fz_bits.specs.Flags.{IsWithin}
use Rattle.fz_marker.specs.declared.cycle.Cycle.{Cycle}
use Rattle.fz_marker.specs.Frontiers.{Gains}
use Rattle.fz_marker.specs.Marking.{IsLedFrom, HasChildrenIn, is_newly_in}

-- waiting objects are marked, and so are scanned ones
pub record IsCycle (c : Cycle) : Type 0 where
  pub size : c.scanned.size ≡ c.marks.size
  pub waiting : (a : ℕ) → Contains c.marks.waiting a → IsTrue (contains c.marks.members a)
  pub scanned : IsWithin c.scanned.members c.marks.members
  pub few : len c.scanned.members ≤ c.scanned.size
  pub room : len c.marks.members ≤ c.marks.size
  pub small : c.marks.size ≤ BLOCK_WORDS * MAX_BLOCKS
  pub low : (a : ℕ) → IsTrue (contains c.marks.members a) → HEAP_START ≤ a

-- the object waits or was scanned
abbrev pub IsSettled : Cycle → ℕ → Type 0
IsSettled c a = Contains c.marks.waiting a ⊎ IsTrue (contains c.scanned.members a)

-- each marked object waits or was scanned
abbrev pub AllWait : Cycle → Type 0
AllWait c = (a : ℕ) → IsTrue (contains c.marks.members a) → IsSettled c a

-- each marked object waits, was scanned, or satisfies P
abbrev pub WaitsOr : (ℕ → Type 0) → Cycle → Type 0
WaitsOr P c = (a : ℕ) → IsTrue (contains c.marks.members a) → IsSettled c a ⊎ P a

-- whether the object has words to scan, and how many of the objects do
abbrev pub has_pointers : Map Object → ℕ → Bool
has_pointers objects a = nat_lt 0 (length (pointers_of objects a))

abbrev pub read_count : Map Object → (ℕ → Bool) → ℕ
read_count objects test = count_by (λ a. test a && has_pointers objects a) (keys objects)

-- one object is scanned: its children are marked
pub record Scans (objects : Map Object) (start : ℕ) (old new : Cycle) : Type 0 where
  pub fresh : IsFalse (contains old.scanned.members start)
  pub marks : Gains old.marks new.marks (Child objects start)
  pub scanned : new.scanned ≡ record old.scanned { members = insert old.scanned.members start }
  pub few : len new.scanned.members ≤ new.scanned.size
  pub scans : new.scans ≡ old.scans + cond (has_pointers objects start) 1 0

-- the object was scanned already, or is scanned now
abbrev pub Visits : Map Object → ℕ → Cycle → Cycle → Type 0
Visits objects start old new = (IsTrue (contains old.scanned.members start) × (new ≡ old)) ⊎ Scans objects start old new

-- several objects are scanned, one after another, each once
pub record Proceeds (objects : Map Object) (old new : Cycle) : Type 0 where
  pub cycle : IsCycle new
  pub size : new.marks.size ≡ old.marks.size
  pub kept : IsWithin old.marks.members new.marks.members
  pub led : (a : ℕ) → IsTrue (contains new.marks.members a) → IsLedFrom objects old.marks.members a
  pub still : IsWithin old.scanned.members new.scanned.members
  pub closed : (a : ℕ) → IsTrue (is_newly_in old.scanned.members new.scanned.members a) → HasChildrenIn objects new.marks.members a
  pub more : old.scans ≤ new.scans
  pub counted : new.scans ≤ old.scans + read_count objects (is_newly_in old.scanned.members new.scanned.members)
  pub each_once : new.scans + len old.scanned.members ≤ old.scans + len new.scanned.members
