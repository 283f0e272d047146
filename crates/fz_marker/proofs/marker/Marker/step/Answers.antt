use Rattle.std.proofs.Common.{◌≤◌, ◌+◌, ℕ, IsTrue, subst}
use Rattle.fz_marker.specs.Marking.{Marking, HasChildrenIn, is_newly_in, readable_count}
use Rattle.fz_marker.proofs.Marked.{step_counted}
use Rattle.fz_marker.proofs.marker.Marker.step.Goals as goal

pub returns-clause-closed : goal.returns-clause-closed
returns-clause-closed c =
    subst (λ (m : Marking). (a : ℕ) → IsTrue (is_newly_in m.scanned c.step.new.self.scanned.members a) → HasChildrenIn c.args.heap.now.objects c.step.new.self.marks.members a) c.self.view_is c.step.ensures.proceeds.closed

pub returns-clause-each_once : goal.returns-clause-each_once
returns-clause-each_once c =
    subst (λ (m : Marking). c.step.new.self.scans ≤ m.scans + readable_count c.args.heap.now.objects (is_newly_in m.scanned c.step.new.self.scanned.members)) c.self.view_is (step_counted c.args.heap.now.objects c.self.inside.cycle c.step.new.self c.step.ensures.proceeds)
