use Rattle.fz_marked.proofs.Traced.{traces_one, marks_by}
use Rattle.fz_marked.proofs.marked.MarkedHost.mark.Goals as goal

pub trace-requires-clause-closed : goal.trace-requires-clause-closed
trace-requires-clause-closed c a on b child = c.requires.closed a b on child

pub returns-then-is_some-clause-marked : goal.returns-then-is_some-clause-marked
returns-then-is_some-clause-marked c =
    let objects = c.args.self.now.heap.objects in
    marks_by objects (Unit {0}) c.args.self.now.marker c.trace.new.self _ (traces_one objects c.args.self.now.marker c.trace.new.self c.args.object (λ a on b child. c.requires.closed a b on child) c.trace.ensures.same c.trace.ensures.traced)
