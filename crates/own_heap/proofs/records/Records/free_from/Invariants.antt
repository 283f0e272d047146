use Rattle.std.proofs.Common.{◌≢◌, ◌<◌, ◌≤◌, None, ℕ}
use Rattle.own_heap.specs.Records.{slot}
use Rattle.own_heap.proofs.records.Records.free_from.Given as goal

abbrev pub invariant-loop-place : goal.invariant-loop-place
invariant-loop-place l = (k : ℕ) → l.from ≤ k → k < l.place → slot l.self.slots.items k ≢ None
