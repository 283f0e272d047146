use Rattle.std.proofs.Common.{◌≡◌}
use Rattle.fz_world_tests.proofs.parts.marker.scans_with.Given as goal

abbrev pub invariant-loop-page : goal.invariant-loop-page
invariant-loop-page l = l.dirty.pages ≡ 5
