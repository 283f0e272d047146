use Rattle.std.proofs.Common.{◌≡◌}
use Rattle.fz_world.specs.Roots.{IsPointedFrom}
use Rattle.fz_world.proofs.Marking.{marks_then, marks_target}
use Rattle.fz_world.proofs.roots.mark_entry.Goals as goal

pub returns : goal.returns
returns c =
    let objects = c.args.heap.now.objects in
    marks_then c.args.marker.now c.mark_start.new.marker c.root.new.self (λ a. c.args.entry.now.obj ≡ a) (IsPointedFrom objects c.args.entry.now.cd) c.mark_start.ensures (marks_target objects c.mark_start.new.marker c.root.new.self c.args.entry.now.cd c.root.ensures.marked)
