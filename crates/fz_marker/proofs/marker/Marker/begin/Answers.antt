use Rattle.std.proofs.Common.{◌∙◌, [], ap}
use Rattle.std.specs.FinSet.{empty}
use Rattle.fz_marker.proofs.Marked.{empty_marker}
use Rattle.fz_marker.proofs.marker.Marker.begin.Goals as goal

pub invariant_of-self : goal.invariant_of-self
invariant_of-self c =
    let size = c.self.inside.cycle.marks.size in
    empty_marker size 0 c.clear.new.self c.clear-3.new.self c.clear-2.new.self c.clear.ensures
    (c.clear-2.ensures ∙ ap (λ n. record { size = n; members = empty }) c.self.invariant.cycle.size)
    (c.clear-3.ensures ∙ ap (λ n. record { size = n; members = empty; waiting = [] }) c.self.invariant.size)
    c.self.invariant.cycle.small
