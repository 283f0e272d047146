-- The invariant of a marker.
-- code: fz_marker/src/marker.rt
use Rattle.std.specs.Prelude.{◌≡◌, ◌≤◌, []}
use Rattle.std.specs.FinSet.{len}
use Rattle.fz_marker.specs.declared.cycle.Cycle.{Cycle}
use Rattle.fz_marker.specs.Frontiers.{Frontier}
use Rattle.fz_marker.specs.Cycles.{IsCycle, AllWait}

pub record IsMarker (c : Cycle) (traces : Frontier) : Type 0 where
  pub cycle : IsCycle c
  pub waits : AllWait c
  pub size : traces.size ≡ c.marks.size
  pub room : len traces.members ≤ traces.size
  pub idle : traces.waiting ≡ []
