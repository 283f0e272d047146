-- How a list of blocks represents extents, and the runs of blocks that larger objects take.
-- code: fz_blocks/src/blocks.rt
use Rattle.std.specs.Prelude.{◌≡◌, ℕ, ◌+◌, ◌-◌, ◌*◌, ◌%◌, ◌<◌, ◌≤◌, Bool, false, not, ◌&&◌, ◌==◌, nat_lt, nat_le, if◌then◌else◌, List, length, Option, Some, None, slice_get, option_and_then, IsTrue}
use Rattle.fz_model.specs.declared.extent.Extent.{Extent}
use Rattle.fz_model.specs.declared.limits.TheConstants.{HEAP_START, BLOCK_WORDS, MAX_BLOCKS}
use Rattle.fz_model.specs.Extents.{heap_end}
use Rattle.fz_model.specs.Allocation.{block_of}
use Rattle.fz_model.specs.State.{Map}
use Rattle.fz_blocks.specs.declared.block.Block.{Block}
use Rattle.fz_blocks.specs.Tabulated.{tabulated, Addresses, gathered}
use Rattle.fz_model.specs.Bits.{has_bit}
use Rattle.std.specs.Int.Count.{ones}
use Rattle.std.specs.List.{sum_by}
use Rattle.std.specs.Option.{option_map_or}
use Rattle.fz_blocks.specs.Classes.{class_of}
use Rattle.fz_blocks.specs.Blocks.{starts_at, is_full, extent_in}

-- the extent of the object at an address
abbrev pub extent_at : List Block → ℕ → Option Extent
extent_at blocks address =
    if nat_lt address HEAP_START then None else option_and_then (extent_in ((address - HEAP_START) % BLOCK_WORDS)) (slice_get blocks (block_of address))

abbrev pub extents_in : List Block → Map Extent
extents_in blocks = tabulated (extent_at blocks) (heap_end (length blocks))

-- a block into which an object continues from an earlier block
pub record IsLater (blocks : List Block) (b back : ℕ) : Type 0 where
  pub within : back ≤ b
  pub first : Block
  pub here : slice_get blocks (b - back) ≡ Some first
  pub starts : IsTrue (starts_at first 0)
  pub reaches : BLOCK_WORDS * back < first.size

-- each block records how far back the object starts that continues into it, if there is one
pub record AreRuns (blocks : List Block) : Type 0 where
  pub ahead : (b k : ℕ) (first : Block) → slice_get blocks b ≡ Some first → IsTrue (starts_at first 0) → 0 < k → BLOCK_WORDS * k < first.size → (later : Block) × (slice_get blocks (b + k) ≡ Some later) × (later.back ≡ k)
  pub behind : (b : ℕ) (later : Block) → slice_get blocks b ≡ Some later → 0 < later.back → IsLater blocks b later.back

-- whether the block contains objects of the class and has a free cell
abbrev pub has_room : ℕ → Block → Bool
has_room class block = not (block.objects == 0) && (not (is_full block) && (nat_le block.size BLOCK_WORDS && class_of block.size block.kind == class))

-- whether a dead cell starts at an address
abbrev pub is_condemned : List Block → ℕ → Bool
is_condemned blocks address =
    if nat_lt address HEAP_START then false else option_map_or (λ (block : Block). has_bit block.condemned ((address - HEAP_START) % BLOCK_WORDS)) (slice_get blocks (block_of address)) false

abbrev pub condemned_in : List Block → Addresses
condemned_in blocks = gathered (is_condemned blocks) (heap_end (length blocks))

-- how many dead cells the blocks have
abbrev pub waiting_in : List Block → ℕ
waiting_in blocks = sum_by (λ (block : Block). ones block.condemned) blocks

-- no more blocks than a heap may have, with complete runs
pub record IsMap (blocks : List Block) : Type 0 where
  pub some : 1 ≤ length blocks
  pub few : length blocks ≤ MAX_BLOCKS
  pub runs : AreRuns blocks
