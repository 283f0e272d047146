use Rattle.fz_marked.proofs.Traced.{marks_by}
use Rattle.fz_marked.proofs.marked.MarkedValues.mark_value.Goals as goal

pub returns-clause-marked : goal.returns-clause-marked
returns-clause-marked c = marks_by c.args.self.now.heap.objects (Unit {0}) c.args.self.now.marker c.trace_value.new.marker _ c.trace_value.ensures.traces
