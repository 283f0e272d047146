-- Extents of objects, by their addresses. They decide what a word points to: it points to the object within which its value lies. An interior pointer counts
-- (conservative pointers; Boehm, Demers and Shenker, "Mostly parallel garbage collection", PLDI 1991).
-- code: fz_blocks/src/block_map.rt (cell_of)
use Rattle.std.specs.Prelude.{◌≡◌, ◌≤◌, ◌<◌, ℕ, ◌+◌, ◌*◌, Bool, ◌&&◌, length, Option, Some, nat_le, nat_lt, option_map, map, IsTrue}
use Rattle.std.specs.List.{find}
use Rattle.std.specs.FinMap.{get, entries, from_sorted}
use Rattle.fz_model.specs.declared.extent.Extent.{Extent}
use Rattle.fz_model.specs.declared.limits.TheConstants.{HEAP_START, BLOCK_WORDS}
use Rattle.fz_model.specs.State.{Map, Object}

-- the address just after the last word of a heap of `blocks` blocks
abbrev pub heap_end : ℕ → ℕ
heap_end blocks = HEAP_START + BLOCK_WORDS * blocks

abbrev pub IsInHeap : ℕ → ℕ → Type 0
IsInHeap blocks address = (HEAP_START ≤ address) × (address < heap_end blocks)

-- the same keys, with each value replaced
abbrev pub mapped : {X Y : Type 0} → (ℕ → X → Y) → Map X → Map Y
mapped f m = from_sorted (map (λ e. (e.0, f e.0 e.1)) (entries m))

abbrev pub extent_of : Object → Extent
extent_of object = record { size = length object.words; kind = object.kind }

abbrev pub extents : Map Object → Map Extent
extents objects = mapped (λ start. extent_of) objects

-- the address lies in the extent
abbrev pub covers : ℕ × Extent → ℕ → Bool
covers (start, extent) address = nat_le start address && nat_lt address (start + extent.size)

-- the start of the extent in which the word lies, if there is one
abbrev pub points_in : Map Extent → ℕ → Option ℕ
points_in extents word = option_map (λ e. e.0) (find (λ e. covers e word) (entries extents))

-- no word lies in two extents
abbrev pub AreApart : Map Extent → Type 0
AreApart extents =
    (a b word : ℕ) (x y : Extent) → get extents a ≡ Some x → get extents b ≡ Some y → IsTrue (covers (a, x) word) → IsTrue (covers (b, y) word) → a ≡ b

-- each extent has a word, and lies in a heap of `blocks` blocks
abbrev pub AreWithin : ℕ → Map Extent → Type 0
AreWithin blocks extents =
    (a : ℕ) (x : Extent) → get extents a ≡ Some x → (HEAP_START ≤ a) × (1 ≤ x.size) × (a + x.size ≤ heap_end blocks)
