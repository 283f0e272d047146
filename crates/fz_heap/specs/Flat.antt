-- Objects whose words lie in one array, in address order from the heap's first word on, with an array of births beside it.
-- code: fz_heap/src/heap.rt, places.rt
use Rattle.std.specs.Prelude.{◌≡◌, ℕ, zero, suc, ◌+◌, ◌-◌, ◌<◌, ◌≤◌, List, [], ◌∷◌, length, slice_index, Some, IsTrue}
use Rattle.std.specs.FinMap.{get}
use Rattle.fz_model.specs.declared.extent.Extent.{Extent}
use Rattle.fz_model.specs.declared.limits.TheConstants.{HEAP_START}
use Rattle.fz_model.specs.State.{Map, Object}
use Rattle.fz_model.specs.Extents.{mapped, covers}

-- this many words from an index on
abbrev pub words_from : List ℕ → ℕ → ℕ → List ℕ
words_from words first zero = []
words_from words first (suc n) = slice_index words first ∷ words_from words (first + 1) n

abbrev pub object_at : List ℕ → List ℕ → ℕ → Extent → Object
object_at words births start extent =
    record { kind = extent.kind; birth = slice_index births (start - HEAP_START); words = words_from words (start - HEAP_START) extent.size }

abbrev pub objects_of : Map Extent → List ℕ → List ℕ → Map Object
objects_of extents words births = mapped (object_at words births) extents

-- `place` is the index of the address word + offset, which lies in the extent to which word points
pub record IsPlace (extents : Map Extent) (word offset place : ℕ) : Type 0 where
  pub start : ℕ
  pub extent : Extent
  pub here : get extents start ≡ Some extent
  pub at : word + offset ≡ HEAP_START + place
  pub inside : IsTrue (covers (start, extent) (word + offset))

-- `size` words from an index on are zero, and all others are unchanged
pub record IsZeroedAt (old new : List ℕ) (first size : ℕ) : Type 0 where
  pub len : length new ≡ length old
  pub zeroed : (i : ℕ) → first ≤ i → i < first + size → slice_index new i ≡ 0
  pub before : (i : ℕ) → i < first → slice_index new i ≡ slice_index old i
  pub after : (i : ℕ) → first + size ≤ i → slice_index new i ≡ slice_index old i
