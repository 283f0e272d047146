-- Where the cells of a block start, as bits of a word.
-- code: fz_blocks/src/block.rt
use Rattle.std.specs.Prelude.{◌≡◌, ℕ, ◌+◌, ◌%◌, Bool, ◌||◌, ◌&&◌, ◌==◌, nat_le, IsTrue, IsFalse}
use Rattle.fz_model.specs.declared.limits.TheConstants.{BLOCK_WORDS}
use Rattle.fz_model.specs.Bits.{has_bit}

-- whether a cell of this size starts at this word of a block: cells are adjacent, as many as fit completely; a cell larger than a block starts at the block's
-- first word
abbrev pub is_cell : ℕ → ℕ → Bool
is_cell size place = (place % size == 0) && ((place == 0) || nat_le (place + size) BLOCK_WORDS)

-- the bits are set exactly where cells of this size start
abbrev pub AreCells : ℕ → ℕ → Type 0
AreCells cells size = (place : ℕ) → has_bit cells place ≡ is_cell size place

-- each bit of one word is set in the other
abbrev pub AreAmong : ℕ → ℕ → Type 0
AreAmong some all = (place : ℕ) → IsTrue (has_bit some place) → IsTrue (has_bit all place)

-- no bit is set in both words
abbrev pub AreSeparate : ℕ → ℕ → Type 0
AreSeparate some others = (place : ℕ) → IsTrue (has_bit some place) → IsFalse (has_bit others place)
