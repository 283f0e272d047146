-- The client data so far was added.
use Rattle.std.proofs.Common.{◌≡◌, ◌++◌}
use Rattle.fz_why.specs.Trail.{Adds}
use Rattle.fz_why.proofs.Looping.{ByAny, ByData}
use Rattle.fz_why.proofs.rooting.add_registered.Given as goal

abbrev pub invariant-loop-each : goal.invariant-loop-each
invariant-loop-each g l = record {
  added : Adds (ByAny l.yielded (ByData (g.H.Paths.objects l.host))) l.initial.trail l.trail;
  rest : l.yielded ++ l.each-iterator ≡ l.initial.each-iterator;
}
