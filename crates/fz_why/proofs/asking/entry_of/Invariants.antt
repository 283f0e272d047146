-- No entry so far is of the object.
use Rattle.std.proofs.Common.{◌≡◌, ◌≢◌, ◌++◌, Contains}
use Rattle.fz_model.specs.declared.answers.Entry.{Entry}
use Rattle.fz_finalizers.specs.Walks.{somes}
use Rattle.fz_why.proofs.asking.entry_of.Given as goal

abbrev pub invariant-loop-entry : goal.invariant-loop-entry
invariant-loop-entry l = record {
  none : (e : Entry) → Contains l.yielded e → e.obj ≢ l.object;
  rest : l.yielded ++ somes l.entry-iterator ≡ somes l.initial.entry-iterator;
}
