-- No cleanup so far is of the object.
use Rattle.std.proofs.Common.{◌≡◌, ◌≢◌, ◌++◌, ℕ, Contains}
use Rattle.fz_finalizers.specs.declared.cleanups.Attached.{Attached}
use Rattle.fz_why.proofs.asking.has_cleanup.Given as goal

abbrev pub invariant-loop-each : goal.invariant-loop-each
invariant-loop-each l = record {
  none : (e : ℕ × Attached) → Contains l.yielded e → e.1.object ≢ l.object;
  rest : l.yielded ++ l.each-iterator ≡ l.initial.each-iterator;
}
