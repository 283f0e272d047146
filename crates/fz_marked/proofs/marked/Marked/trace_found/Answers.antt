use Rattle.fz_marked.proofs.Carried.{nothing_at_zero}
use Rattle.fz_marked.proofs.marked.Marked.trace_found.Goals as goal

pub returns-clause-zero : goal.returns-clause-zero
returns-clause-zero c = nothing_at_zero c.args.self.now.heap.blocks c.args.self.now.heap.objects c.condemned.ensures.objects
