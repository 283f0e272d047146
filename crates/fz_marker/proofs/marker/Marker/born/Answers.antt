use Rattle.std.proofs.Common.{◌≡◌, ◌∙◌, ap}
use Rattle.std.specs.FinSet.{insert}
use Rattle.fz_marker.specs.Marking.{Marking}
use Rattle.fz_marker.proofs.Marked.{gained_marker, members_inserted}
use Rattle.fz_marker.proofs.marker.Marker.born.Goals as goal

pub invariant_of-self : goal.invariant_of-self
invariant_of-self c = gained_marker c.self.inside.cycle c.self.inside.traces c.add.new.self (λ a. a ≡ c.args.start) c.self.invariant c.add.ensures.gains

pub returns : goal.returns
returns c =
    let g = c.add.ensures.gains in
    let cycle = c.self.inside.cycle in
    (λ i. record { size = g.size i; marked = members_inserted cycle.marks c.add.new.self c.args.start g i; scanned = cycle.scanned.members; traced = c.self.inside.traces.members; scans = cycle.scans })
    ∙ ap (λ (m : Marking). record m { marked = insert m.marked c.args.start }) c.self.view_is
