-- How claiming a cell and removing objects change the blocks.
-- code: fz_blocks/src/claims.rt, blocks.rt
use Rattle.std.specs.Prelude.{◌≡◌, ℕ, ◌+◌, ◌&&◌, ◌||◌, not, List, length, slice_get, slice_set, Some}
use Rattle.std.specs.FinMap as maps
use Rattle.std.specs.FinMap.{insert, retain_keys, contains_key}
use Rattle.std.specs.FinSet.{contains, len}
use Rattle.fz_model.specs.declared.kinds.ObjKind.{ObjKind}
use Rattle.fz_model.specs.Allocation.{place_in, block_of, blocks_for}
use Rattle.std.specs.Int.Count.{ones}
use Rattle.fz_blocks.specs.declared.block.Block.{Block}
use Rattle.fz_blocks.specs.Blocks.{Claims, CondemnsAll}
use Rattle.fz_blocks.specs.Claimed.{stands_at, swept}
use Rattle.fz_blocks.specs.Layout.{extents_in, condemned_in, AreRuns}

pub record IsClaimed (old new : List Block) (size : ℕ) (kind : ObjKind) (start : ℕ) : Type 0 where
  pub long : length new ≡ length old
  pub runs : AreRuns new
  pub place : place_in (extents_in old) (length old) size kind ≡ Some start
  pub extents : extents_in new ≡ insert (extents_in old) start (record { size = size; kind = kind })
  pub swept : condemned_in new ≡ swept (condemned_in old) (block_of start) (blocks_for size)

-- the objects that start in a block at some of these words became dead cells, and nothing else has changed
pub record IsCondemned (old new : List Block) (b places many : ℕ) : Type 0 where
  pub long : length new ≡ length old
  pub extents : extents_in new ≡ retain_keys (extents_in old) (λ a. not (stands_at b places a))
  pub condemned : (a : ℕ) → contains (condemned_in new) a ≡ (contains_key (extents_in old) a && stands_at b places a || contains (condemned_in old) a)
  pub count : len (condemned_in new) ≡ len (condemned_in old) + many
  pub fewer : maps.len (extents_in new) + many ≡ maps.len (extents_in old)

-- the lowest free cell of one block of the list was claimed, and nothing else has changed
pub record ClaimsIn (old new : List Block) (b place : ℕ) : Type 0 where
  pub was : Block
  pub now : Block
  pub here : slice_get old b ≡ Some was
  pub claims : Claims was now place
  pub new_is : new ≡ slice_set old b now

-- one block of the list lost its objects at some of these words, and nothing else has changed
pub record CondemnsIn (old new : List Block) (b places many : ℕ) : Type 0 where
  pub was : Block
  pub left : Block
  pub here : slice_get old b ≡ Some was
  pub all : CondemnsAll was left places
  pub count : ones left.condemned ≡ ones was.condemned + many
  pub new_is : new ≡ slice_set old b left
