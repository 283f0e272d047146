use Rattle.std.proofs.Common.{◌≤◌, ◌-◌}
use Rattle.fz_model.specs.Allocation.{block_start}
use Rattle.fz_bits.specs.Flags.{Set}
use Rattle.fz_marker.specs.Cycles.{Proceeds, WaitsOr}
use Rattle.fz_marker.specs.Standing.{IsAhead}
use Rattle.fz_marker.proofs.cycle.Cycle.rescan_starts.Given as goal

abbrev pub invariant-loop-from : goal.invariant-loop-from
invariant-loop-from l = record {
  proceeds : Proceeds l.heap.objects l.initial.self l.self;
  low : block_start l.page ≤ l.from;
  high : l.from ≤ l.end;
  waits : (noted : Set) → WaitsOr (IsAhead l.heap.objects noted l.page (block_start l.page)) l.initial.self → WaitsOr (IsAhead l.heap.objects noted l.page l.from) l.self;
}

abbrev pub decreases-loop-from : goal.decreases-loop-from
decreases-loop-from l = l.end - l.from
