-- The addresses of the objects in a list of blocks, from an address on.
-- code: fz_blocks/src/starts.rt
use Rattle.std.specs.Prelude.{ℕ, ◌-◌, ◌<◌, ◌≤◌, List, length, filter, is_some, IsTrue, IsFalse}
use Rattle.std.specs.List.{range_with_len}
use Rattle.fz_model.specs.declared.limits.TheConstants.{BLOCK_WORDS}
use Rattle.fz_model.specs.Extents.{heap_end}
use Rattle.fz_blocks.specs.declared.block.Block.{Block}
use Rattle.fz_blocks.specs.Blocks.{starts_at}
use Rattle.fz_blocks.specs.Layout.{extent_at}

-- the lowest word, from one on, at which an object starts
pub record IsFirstStart (block : Block) (from first : ℕ) : Type 0 where
  pub after : from ≤ first
  pub within : first < BLOCK_WORDS
  pub start : IsTrue (starts_at block first)
  pub before : (p : ℕ) → from ≤ p → p < first → IsFalse (starts_at block p)

abbrev pub starts_from : List Block → ℕ → List ℕ
starts_from blocks next = filter (λ a. is_some (extent_at blocks a)) (range_with_len next (heap_end (length blocks) - next))
