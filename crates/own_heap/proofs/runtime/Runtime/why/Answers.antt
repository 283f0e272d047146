use Rattle.own_heap.proofs.Collected.{zero_nowhere}
use Rattle.own_heap.proofs.runtime.Runtime.why.Goals as goal

pub why-requires-clause-zero : goal.why-requires-clause-zero
why-requires-clause-zero c = zero_nowhere c.args.self.now.heap.records.slots.items
