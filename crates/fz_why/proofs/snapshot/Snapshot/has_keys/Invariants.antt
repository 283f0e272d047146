-- The keys so far were listed.
use Rattle.std.proofs.Common.{◌≡◌, ◌++◌, ℕ, Contains, IsTrue}
use Rattle.std.specs.FinMap.{contains_key}
use Rattle.fz_why.specs.Snapshot.{objects_of}
use Rattle.fz_why.proofs.snapshot.Snapshot.has_keys.Given as goal

abbrev pub invariant-loop-each : goal.invariant-loop-each
invariant-loop-each l = record {
  has : (e : ℕ × ℕ) → Contains l.yielded e → IsTrue (contains_key (objects_of l.self.cells) e.1);
  rest : l.yielded ++ l.each-iterator ≡ l.initial.each-iterator;
}
