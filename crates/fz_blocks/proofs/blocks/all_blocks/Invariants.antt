use Rattle.std.proofs.Common.{◌≡◌, ◌≤◌, ℕ, nat_lt}
use Rattle.std.specs.FinSet.{contains}
use Rattle.fz_blocks.proofs.blocks.all_blocks.Given as goal

abbrev pub invariant-loop-block : goal.invariant-loop-block
invariant-loop-block l = (l.blocks ≤ l.all.size) × ((b : ℕ) → contains l.all.members b ≡ nat_lt b l.block)
