use Rattle.std.proofs.Common.{subst}
use Rattle.fz_marker.specs.Frontiers.{Gains, IsPointedAt}
use Rattle.fz_marker.proofs.Scanning.{children_gained}
use Rattle.fz_marker.proofs.cycle.Cycle.read.Goals as goal

pub returns-clause-marks : goal.returns-clause-marks
returns-clause-marks c =
    let objects = c.args.heap.now.objects in
    children_gained objects c.args.start c.args.self.now.marks c.add_targets.new.self (subst (λ ws. Gains c.args.self.now.marks c.add_targets.new.self (IsPointedAt objects ws)) c.pointers-words.ensures c.add_targets.ensures.gains)
