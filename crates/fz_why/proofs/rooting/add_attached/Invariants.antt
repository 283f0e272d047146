-- The client data so far was added.
use Rattle.std.proofs.Common.{◌≡◌, ◌++◌}
use Rattle.fz_why.specs.Trail.{Adds}
use Rattle.fz_why.proofs.Looping.{ByAny, ByAttached}
use Rattle.fz_why.proofs.rooting.add_attached.Given as goal

abbrev pub invariant-loop-each : goal.invariant-loop-each
invariant-loop-each g l = record {
  added : Adds (ByAny l.yielded (ByAttached (g.H.Paths.objects l.host))) l.initial.trail l.trail;
  rest : l.yielded ++ l.each-iterator ≡ l.initial.each-iterator;
}
