-- The first steps of the registered objects so far were added.
use Rattle.std.proofs.Common.{◌≡◌, ◌++◌}
use Rattle.fz_why.specs.Trail.{Adds}
use Rattle.fz_why.proofs.Looping.{ByAny, ByFirst}
use Rattle.fz_why.proofs.waiting.add_others.Given as goal

abbrev pub invariant-loop-from : goal.invariant-loop-from
invariant-loop-from g l = record {
  added : Adds (ByAny l.yielded (ByFirst (g.H.Paths.link l.host) (g.H.Paths.objects l.host) l.finalizers.state l.found (g.H.Paths.pointers l.host) l.late l.object)) l.initial.trail l.trail;
  rest : l.yielded ++ l.from-iterator ≡ l.initial.from-iterator;
}
