-- The objects to which the roots so far point were added.
use Rattle.std.proofs.Common.{◌^◌, ◌≤◌}
use Rattle.fz_why.specs.Trail.{Adds}
use Rattle.fz_why.proofs.Looping.{ByBelow, ByHostRoot}
use Rattle.fz_why.proofs.rooting.add_host.Given as goal

abbrev pub invariant-loop-index : goal.invariant-loop-index
invariant-loop-index g l = Adds (ByBelow l.index (g.H.Paths.roots l.host) (ByHostRoot (g.H.Paths.objects l.host))) l.initial.trail l.trail × (l.index ≤ 2 ^ 63)
