use Rattle.std.proofs.Common.{◌≡◌}
use Rattle.fz_world_tests.proofs.parts.marker.make_chain.Given as goal

abbrev pub invariant-loop : goal.invariant-loop
invariant-loop l = l.heap.blocks ≡ l.initial.heap.blocks
