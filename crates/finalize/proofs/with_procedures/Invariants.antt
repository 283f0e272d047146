use Rattle.std.proofs.Common.{◌≡◌, All, length}
use Rattle.finalize.proofs.with_procedures.Given as goal

abbrev pub invariant-loop-worker : goal.invariant-loop-worker
invariant-loop-worker g l = record {
  count : length l.procs.items ≡ l._worker;
  two : All (λ list. length list.items ≡ 2) l.procs.items;
}
