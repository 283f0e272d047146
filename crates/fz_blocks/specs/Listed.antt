-- A list of blocks, with sets for finding the lowest empty block and the lowest block with a free cell.
-- code: fz_blocks/src/blocks.rt
use Rattle.std.specs.Prelude.{◌≡◌, ℕ, ◌<◌, ◌≤◌, Bool, false, not, ◌&&◌, ◌||◌, ◌==◌, if◌then◌else◌, List, length, Some, slice_get, IsTrue, IsFalse}
use Rattle.std.specs.Option.{option_map_or}
use Rattle.std.specs.FinSet.{contains}
use Rattle.fz_model.specs.declared.limits.TheConstants.{MAX_BLOCKS}
use Rattle.fz_blocks.specs.declared.block.Block.{Block}
use Rattle.fz_blocks.specs.BlockSets.{members_at, room_at}
use Rattle.fz_bits.specs.Flags.{Flagged}
use Rattle.fz_blocks.specs.Blocks.{is_bare, has_same_room}
use Rattle.fz_blocks.specs.Layout.{has_room}

-- the sets contain exactly the empty blocks, and for each class the blocks with a free cell
pub record AreListed (blocks : List Block) (bare : Flagged) (rooms : List Flagged) : Type 0 where
  pub few : length blocks ≤ MAX_BLOCKS
  pub classes : length rooms ≡ 128
  pub bare_room : length blocks ≤ bare.size
  pub rooms_room : (class : ℕ) → class < 128 → length blocks ≤ room_at rooms class
  pub bare_are : (b : ℕ) → contains bare.members b ≡ option_map_or is_bare (slice_get blocks b) false
  pub rooms_are : (class b : ℕ) → class < 128 → contains (members_at rooms class) b ≡ option_map_or (has_room class) (slice_get blocks b) false

-- new blocks: they have neither objects nor dead cells
pub record AreNew (blocks : List Block) (count : ℕ) : Type 0 where
  pub long : length blocks ≡ count
  pub bare : (b : ℕ) (block : Block) → slice_get blocks b ≡ Some block → IsTrue (is_bare block)
  pub clean : (b : ℕ) (block : Block) → slice_get blocks b ≡ Some block → block.condemned ≡ 0

-- no block of the list passes the test
abbrev pub NonePasses : (Block → Bool) → List Block → Type 0
NonePasses test blocks = (b : ℕ) (block : Block) → slice_get blocks b ≡ Some block → IsFalse (test block)

-- the lowest block of the list that passes the test
pub record IsFirst (test : Block → Bool) (blocks : List Block) (b : ℕ) : Type 0 where
  pub block : Block
  pub here : slice_get blocks b ≡ Some block
  pub passes : IsTrue (test block)
  pub before : (c : ℕ) (other : Block) → c < b → slice_get blocks c ≡ Some other → IsFalse (test other)

-- a block is removed from the set of its class, or added to it
pub record Leaves (old new : List Flagged) (block : Block) (at : ℕ) : Type 0 where
  pub long : length new ≡ length old
  pub room : (class : ℕ) → room_at new class ≡ room_at old class
  pub are : (class b : ℕ) → contains (members_at new class) b ≡ (not (has_room class block && b == at) && contains (members_at old class) b)

pub record Joins (old new : List Flagged) (block : Block) (at : ℕ) : Type 0 where
  pub long : length new ≡ length old
  pub room : (class : ℕ) → room_at new class ≡ room_at old class
  pub are : (class b : ℕ) → contains (members_at new class) b ≡ (has_room class block && b == at || contains (members_at old class) b)

-- the block's memberships changed to what its new content requires
pub record Changes (old new : List Flagged) (block : Block) (at : ℕ) : Type 0 where
  pub long : length new ≡ length old
  pub room : (class : ℕ) → room_at new class ≡ room_at old class
  pub are : (class b : ℕ) → class < 128 → contains (members_at new class) b ≡ (if b == at then has_room class block else contains (members_at old class) b)

-- a block that belongs to the same sets as the one at an index of the list
pub record IsListedAlike (blocks : List Block) (at : ℕ) (block : Block) : Type 0 where
  pub was : Block
  pub here : slice_get blocks at ≡ Some was
  pub room : IsTrue (has_same_room was block)
  pub bare : is_bare was ≡ is_bare block
