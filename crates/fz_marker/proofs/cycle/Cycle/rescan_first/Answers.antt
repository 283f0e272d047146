use Rattle.std.proofs.Common.{◌≡◌, true, false, refl, sym, ◌∙◌, arith}
use Rattle.fz_marker.specs.Cycles.{Visits}
use Rattle.fz_marker.proofs.Proceeding.{proceeds_first, proceeds_visit}
use Rattle.fz_marker.proofs.Waiting.{first_visited, first_unmarked, first_nowhere}
use Rattle.fz_marker.proofs.cycle.Cycle.rescan_first.Goals.{After-visit}
use Rattle.fz_marker.proofs.cycle.Cycle.rescan_first.Goals as goal

-- no limit stops it
visited : (c : After-visit) → Visits c.args.heap.now.objects c.in-Some.start c.args.self.now c.visit.new.self
visited c =
    elim c.visit.result as (λ b. c.visit.result ≡ b → Visits c.args.heap.now.objects c.in-Some.start c.args.self.now c.visit.new.self) [
      | true ↦ c.visit.ensures.visited
      | false ↦ λ off. let refused = c.visit.ensures.refused off in let small = c.requires.cycle.small in absurd (omega (arith, refused.1, small, c.requires.few))
    ] refl

pub returns-then-contains-clause-proceeds : goal.returns-then-contains-clause-proceeds
returns-then-contains-clause-proceeds c =
    let objects = c.args.heap.now.objects in
    proceeds_visit objects c.args.self.now c.args.self.now c.visit.new.self c.in-Some.start (proceeds_first objects c.args.self.now c.requires.cycle) (sym c.contains.ensures ∙ c.if-contains.true) (visited c)

pub returns-then-contains-clause-waits : goal.returns-then-contains-clause-waits
returns-then-contains-clause-waits c = λ noted h.
    first_visited c.args.heap.now.objects noted c.args.page c.args.self.now c.requires.cycle.low h c.visit.new.self c.in-Some.start (sym c.resolve.ensures.points ∙ c.in-Some.is) (visited c)

pub returns-else-contains-clause-proceeds : goal.returns-else-contains-clause-proceeds
returns-else-contains-clause-proceeds c = proceeds_first c.args.heap.now.objects c.args.self.now c.requires.cycle

pub returns-else-contains-clause-waits : goal.returns-else-contains-clause-waits
returns-else-contains-clause-waits c = λ noted h.
    first_unmarked c.args.heap.now.objects noted c.args.page c.args.self.now c.requires.cycle.low h c.in-Some.start (sym c.resolve.ensures.points ∙ c.in-Some.is) (sym c.contains.ensures ∙ c.if-contains.false)

pub returns-in_default-clause-proceeds : goal.returns-in_default-clause-proceeds
returns-in_default-clause-proceeds c = proceeds_first c.args.heap.now.objects c.args.self.now c.requires.cycle

pub returns-in_default-clause-waits : goal.returns-in_default-clause-waits
returns-in_default-clause-waits c = λ noted h.
    first_nowhere c.args.heap.now.objects noted c.args.page c.args.self.now c.requires.cycle.low h (sym c.resolve.ensures.points ∙ c.in_default.is)
