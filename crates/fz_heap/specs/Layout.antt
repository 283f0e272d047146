-- Invariants of the layout: no two objects share a word, each lies in the heap, and each word of the heap has its place in both arrays.
-- code: fz_heap/src/heap.rt
use Rattle.std.specs.Prelude.{◌≡◌, ◌≤◌, ℕ, ◌*◌, List, length}
use Rattle.std.specs.List.{sum_by}
use Rattle.std.specs.FinMap.{len, values}
use Rattle.fz_model.specs.State.{Map}
use Rattle.fz_model.specs.declared.extent.Extent.{Extent}
use Rattle.fz_model.specs.declared.limits.TheConstants.{BLOCK_WORDS, MAX_BLOCKS}
use Rattle.fz_model.specs.Extents.{AreApart, AreWithin}
use Rattle.fz_blocks.specs.Claimed.{Claimed}

pub record IsHeap (map : Claimed) (words births : List ℕ) : Type 0 where
  pub few : map.blocks ≤ MAX_BLOCKS
  pub apart : AreApart map.extents
  pub within : AreWithin map.blocks map.extents
  pub words_len : length words ≡ BLOCK_WORDS * map.blocks
  pub births_len : length births ≡ BLOCK_WORDS * map.blocks

-- the number of words of all extents
abbrev pub words_in : Map Extent → ℕ
words_in extents = sum_by (λ (x : Extent). x.size) (values extents)

-- the same, with the number of the objects and the number of their words
pub record IsCounted (map : Claimed) (words births : List ℕ) (live used : ℕ) : Type 0 where
  pub heap : IsHeap map words births
  pub open heap use *
  pub live_are : live ≡ len map.extents
  pub used_are : used ≡ words_in map.extents
