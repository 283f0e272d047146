-- The first steps of the objects so far that are on rings were added.
use Rattle.std.proofs.Common.{◌≡◌, ◌++◌}
use Rattle.fz_why.specs.Trail.{has, Adds}
use Rattle.fz_why.proofs.Looping.{ByAny}
use Rattle.fz_why.proofs.Circles.{ByCircle}
use Rattle.fz_why.proofs.stuck_objects.add_rings.Given as goal

abbrev pub invariant-loop-each : goal.invariant-loop-each
invariant-loop-each g l = record {
  added : Adds (ByAny l.yielded (ByCircle (g.H.Paths.place l.host) (g.H.Paths.value l.host) (g.H.Paths.objects l.host) l.finalizers.state (has l.found))) l.initial.trail l.trail;
  rest : l.yielded ++ l.each-iterator ≡ l.initial.each-iterator;
}
