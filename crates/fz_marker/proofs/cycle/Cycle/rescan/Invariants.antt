use Rattle.std.proofs.Common.{◌-◌}
use Rattle.fz_marker.specs.Cycles.{Proceeds, WaitsOr}
use Rattle.fz_marker.specs.Standing.{IsOnNotedFrom}
use Rattle.fz_marker.proofs.cycle.Cycle.rescan.Given as goal

abbrev pub invariant-loop-page : goal.invariant-loop-page
invariant-loop-page l = record {
  proceeds : Proceeds l.heap.objects l.initial.self l.self;
  waits : WaitsOr (IsOnNotedFrom l.heap.objects l.dirty.noted l.from) l.self;
}

abbrev pub decreases-loop-page : goal.decreases-loop-page
decreases-loop-page l = l.dirty.pages - l.from
