use Rattle.std.proofs.Common.{◌∙◌, ap}
use Rattle.fz_marker.specs.Marking.{with_target}
use Rattle.fz_world.proofs.Marking.{marks_born}
use Rattle.fz_world.proofs.roots.mark_start.Goals as goal

pub returns : goal.returns
returns c =
    let was = c.args.marker.now in
    marks_born was c.root.new.self c.args.start (c.root.ensures.marked ∙ ap (λ o. record was { marked = with_target was.marked o }) (c.root.ensures.itself c.requires.here))
