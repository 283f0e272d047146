use Rattle.fz_marked.proofs.Traced.{marks_by}
use Rattle.fz_marked.proofs.marked.MarkedHost.mark_children.Goals as goal

pub trace_children-requires-clause-closed : goal.trace_children-requires-clause-closed
trace_children-requires-clause-closed c a on b child = c.requires.closed a b on child

pub returns-clause-marked : goal.returns-clause-marked
returns-clause-marked c = marks_by c.args.self.now.heap.objects (Unit {0}) c.args.self.now.marker c.trace_children.new.marker _ c.trace_children.ensures
