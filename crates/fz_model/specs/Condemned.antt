-- Dead cells that aren't swept yet, by their addresses, and which of them a sweep leaves.
-- code: fz_blocks/src/block_map.rt, fz_heap/src/heap.rt (condemn, condemn_in, sweep)
use Rattle.std.specs.Prelude.{ℕ, ◌+◌, ◌-◌, ◌%◌, Bool, ◌==◌, not, ◌&&◌, nat_le, nat_lt}
use Rattle.std.specs.Ordering.{nat_cmp}
use Rattle.std.specs.FinSet.{FinSet, retain}
use Rattle.fz_model.specs.declared.limits.TheConstants.{HEAP_START, BLOCK_WORDS}
use Rattle.fz_model.specs.Allocation.{block_of}
use Rattle.fz_model.specs.Bits.{has_bit}

abbrev pub Addresses : Type 0
Addresses = FinSet nat_cmp

-- whether the address lies in the block at a word whose bit is set in `places`; the lowest bit is the block's first word
abbrev pub stands_at : ℕ → ℕ → ℕ → Bool
stands_at b places a = (block_of a == b) && has_bit places ((a - HEAP_START) % BLOCK_WORDS)

-- the dead cells that remain after a sweep of `count` blocks from block `b` on
abbrev pub swept : Addresses → ℕ → ℕ → Addresses
swept condemned b count = retain condemned (λ a. not (nat_le b (block_of a) && nat_lt (block_of a) (b + count)))
