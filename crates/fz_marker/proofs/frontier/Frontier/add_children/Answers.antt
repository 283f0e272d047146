use Rattle.std.proofs.Common.{subst}
use Rattle.fz_marker.specs.Frontiers.{Gains, IsPointedAt}
use Rattle.fz_marker.proofs.Scanning.{children_gained}
use Rattle.fz_marker.proofs.frontier.Frontier.add_children.Goals as goal

pub returns : goal.returns
returns c =
    let objects = c.args.heap.now.objects in
    record { gains = children_gained objects c.args.start c.args.self.now c.add_targets.new.self (subst (λ ws. Gains c.args.self.now c.add_targets.new.self (IsPointedAt objects ws)) c.pointers.ensures c.add_targets.ensures.gains) }
