use Rattle.std.proofs.Common.{◌≡◌, ◌-◌, length}
use Rattle.fz_world_tests.proofs.parts.line.Publisher.publish.Given as goal

abbrev pub invariant-loop-sent : goal.invariant-loop-sent
invariant-loop-sent l = length l.owner.sent ≡ l.sent

abbrev pub decreases-loop-sent : goal.decreases-loop-sent
decreases-loop-sent l = l.count - l.sent
