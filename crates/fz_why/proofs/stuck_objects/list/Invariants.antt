-- Of the objects so far those were listed that wait for a ring.
use Rattle.std.proofs.Common.{◌≡◌, ◌++◌, filter}
use Rattle.std.specs.Map.{keys_of}
use Rattle.fz_why.specs.Trail.{is_stuck_by}
use Rattle.fz_why.proofs.stuck_objects.list.Given as goal

abbrev pub invariant-loop-each : goal.invariant-loop-each
invariant-loop-each l = record {
  listed : l.objects.items ≡ filter (is_stuck_by l.finalizers.state l.found l.reached) (keys_of l.yielded);
  rest : l.yielded ++ l.each-iterator ≡ l.initial.each-iterator;
}
