use Rattle.own_heap.proofs.Collected.{zero_nowhere}
use Rattle.own_heap.proofs.runtime.Runtime.stuck.Goals as goal

pub stuck-requires-clause-zero : goal.stuck-requires-clause-zero
stuck-requires-clause-zero c = zero_nowhere c.args.self.now.heap.records.slots.items
