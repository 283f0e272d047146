-- No entry so far is of a record with the procedure.
use Rattle.std.proofs.Common.{◌≡◌, ◌++◌, [], filter}
use Rattle.fz_finalizers.specs.Walks.{somes}
use Rattle.own_heap.specs.Guarding.{is_guarded}
use Rattle.own_heap.proofs.guardian.first_guarded.Given as goal

abbrev pub invariant-loop-entry : goal.invariant-loop-entry
invariant-loop-entry l = record {
  none : filter (is_guarded l.procedure) l.yielded ≡ [];
  rest : l.yielded ++ somes l.entry-iterator ≡ somes l.initial.entry-iterator;
}
