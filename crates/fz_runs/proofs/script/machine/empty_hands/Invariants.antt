use Rattle.std.proofs.Common.{◌≡◌, ◌≤◌, ◌-◌, length, replicate, None}
use Rattle.fz_runs.proofs.script.machine.empty_hands.Given as goal

abbrev pub invariant-loop-hands : goal.invariant-loop-hands
invariant-loop-hands l = record {
  empty : l.hands.items ≡ replicate (length l.hands.items) None;
  within : length l.hands.items ≤ l.workers;
}

abbrev pub decreases-loop-hands : goal.decreases-loop-hands
decreases-loop-hands l = l.workers - length l.hands.items
