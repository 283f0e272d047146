use Rattle.std.proofs.Common.{◌≡◌, ◌≤◌, ◌+◌, ◌-◌, ◌*◌, length}
use Rattle.fz_model.specs.declared.limits.TheConstants.{MAX_BLOCKS}
use Rattle.fz_blocks.specs.Starts.{starts_from}
use Rattle.fz_blocks.proofs.starts.StartsIterator.next.Given as goal

-- what is left is as it was
abbrev pub invariant-loop-block : goal.invariant-loop-block
invariant-loop-block l = record {
  low : 65536 ≤ l.self-inside.next;
  high : l.self-inside.next ≤ 65536 + 64 * length l.self-inside.blocks.now;
  few : length l.self-inside.blocks.now ≤ MAX_BLOCKS;
  same : starts_from l.self-inside.blocks.now l.self-inside.next ≡ starts_from l.initial.self-inside.blocks.now l.initial.self-inside.next;
}

abbrev pub decreases-loop-block : goal.decreases-loop-block
decreases-loop-block l = 65536 + 64 * length l.self-inside.blocks.now - l.self-inside.next
