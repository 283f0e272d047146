-- The entries so far were added.
use Rattle.std.proofs.Common.{◌≡◌, ◌++◌}
use Rattle.fz_finalizers.specs.Walks.{somes}
use Rattle.fz_why.specs.Trail.{Adds}
use Rattle.fz_why.proofs.Looping.{ByAny, ByHeld}
use Rattle.fz_why.proofs.rooting.add_entries.Given as goal

abbrev pub invariant-loop-entry : goal.invariant-loop-entry
invariant-loop-entry g l = record {
  added : Adds (ByAny l.yielded (ByHeld (g.H.Paths.objects l.host))) l.initial.trail l.trail;
  rest : l.yielded ++ somes l.entry-iterator ≡ somes l.initial.entry-iterator;
}
