-- The first items are gathered so far.
use Rattle.std.proofs.Common.{◌≡◌, ◌≤◌, ◌-◌, All, Some, length, map, take}
use Rattle.fz_machine.specs.Phases.{asks, subject}
use Rattle.fz_machine.proofs.going_on.gather.Given as goal

abbrev pub invariant-loop-count : goal.invariant-loop-count
invariant-loop-count l = record {
  few : (l.count ≤ 64) × (l.count ≤ length l.left);
  alike : All (λ item. asks l.phase item ≡ Some l.ask) (take l.count l.left);
  long : length l.about ≡ 64;
  about : take l.count l.about ≡ map (subject l.phase) (take l.count l.left);
}

abbrev pub decreases-loop-count : goal.decreases-loop-count
decreases-loop-count l = 64 - l.count
