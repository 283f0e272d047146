-- The blocks so far are swept.
use Rattle.std.proofs.Common.{◌≡◌}
use Rattle.fz_model.specs.Condemned.{swept}
use Rattle.fz_heap.proofs.heap.Heap.sweep_all.Given as goal

abbrev pub invariant-loop-block : goal.invariant-loop-block
invariant-loop-block l = l.self ≡ record l.initial.self { condemned = swept l.initial.self.condemned 0 l.block }
