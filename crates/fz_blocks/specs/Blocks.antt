-- One block of 64 words: at which of them objects start.
-- code: fz_blocks/src/block.rt
use Rattle.std.specs.Prelude.{◌≡◌, ℕ, ◌+◌, ◌<◌, ◌≤◌, Bool, ◌||◌, ◌&&◌, not, ◌==◌, nat_le, if◌then◌else◌, Option, Some, None, IsTrue, IsFalse}
use Rattle.fz_model.specs.declared.limits.TheConstants.{BLOCK_WORDS}
use Rattle.fz_model.specs.declared.extent.Extent.{Extent}
use Rattle.fz_model.specs.Allocation.{same_kind}
use Rattle.fz_blocks.specs.declared.block.Block.{Block}
use Rattle.fz_model.specs.Bits.{has_bit}
use Rattle.fz_blocks.specs.Cells.{is_cell}

-- whether an object starts at this word of the block
abbrev pub starts_at : Block → ℕ → Bool
starts_at block place = has_bit block.objects place

-- whether no object has a word in the block, and whether every cell contains an object
abbrev pub is_bare : Block → Bool
is_bare block = (block.objects == 0) && (block.back == 0)

abbrev pub is_full : Block → Bool
is_full block = block.objects == block.cells

-- whether objects start in it, and one of its cells is free
abbrev pub has_free_cell : Block → Bool
has_free_cell block = not (block.objects == 0) && (not (is_full block) && nat_le block.size BLOCK_WORDS)

-- whether both blocks have objects of the same size and kind and a free cell, or neither block has objects and a free cell
abbrev pub has_same_room : Block → Block → Bool
has_same_room block other =
    if has_free_cell block then has_free_cell other && ((block.size == other.size) && same_kind block.kind other.kind) else not (has_free_cell other)

-- the extent of an object that starts in the block
abbrev pub extent_of : Block → Extent
extent_of block = record { size = block.size; kind = block.kind }

-- the extent of the object that starts at this word of the block
abbrev pub extent_in : ℕ → Block → Option Extent
extent_in place block =
    if starts_at block place then Some (extent_of block) else None

-- an object starts at one word of the block and contains another
pub record IsCellOf (block : Block) (place start : ℕ) : Type 0 where
  pub starts : IsTrue (starts_at block start)
  pub first : start ≤ place
  pub inside : place < start + block.size

-- everything but the objects and the dead cells is unchanged
pub record IsAlike (old new : Block) : Type 0 where
  pub cells : new.cells ≡ old.cells
  pub size : new.size ≡ old.size
  pub back : new.back ≡ old.back
  pub kind : new.kind ≡ old.kind

-- the lowest free cell was claimed, and no other
pub record Claims (old new : Block) (start : ℕ) : Type 0 where
  pub alike : IsAlike old new
  pub swept : new.condemned ≡ 0
  pub cell : IsTrue (is_cell old.size start)
  pub free : IsFalse (starts_at old start)
  pub least : (place : ℕ) → place < start → IsTrue (is_cell old.size place) → IsTrue (starts_at old place)
  pub claimed : (place : ℕ) → starts_at new place ≡ (place == start || starts_at old place)

-- the objects that start at these words became dead cells, and nothing else has changed
pub record CondemnsAll (old new : Block) (places : ℕ) : Type 0 where
  pub alike : IsAlike old new
  pub gone : (place : ℕ) → starts_at new place ≡ (not (has_bit places place) && starts_at old place)
  pub condemned : (place : ℕ) → has_bit new.condemned place ≡ (has_bit places place && starts_at old place || has_bit old.condemned place)

-- the block is no longer part of a run, and everything else is unchanged
pub record Detaches (old new : Block) : Type 0 where
  pub objects : new.objects ≡ old.objects
  pub condemned : new.condemned ≡ old.condemned
  pub size : new.size ≡ old.size
  pub kind : new.kind ≡ old.kind
  pub own : new.back ≡ 0
