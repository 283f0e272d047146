use Rattle.std.proofs.Common.{◌≡◌, ◌+◌, ◌-◌, ◌*◌, true, false, refl, sym, ◌∙◌, subst, arith}
use Rattle.fz_model.specs.declared.limits.TheConstants.{HEAP_START, BLOCK_WORDS}
use Rattle.fz_model.specs.Allocation.{block_of, block_start}
use Rattle.fz_marker.specs.Cycles.{WaitsOr, Visits}
use Rattle.fz_marker.specs.Standing.{IsAhead}
use Rattle.fz_marker.proofs.Proceeding.{proceeds_first, proceeds_visit}
use Rattle.fz_marker.proofs.Waiting.{start_visited, page_walked}
use Rattle.fz_marker.proofs.cycle.Cycle.rescan_starts.Goals as goal

pub loop-from-init : goal.loop-from-init
loop-from-init c =
    let at : block_start c.args.page ≡ HEAP_START + BLOCK_WORDS * (c.args.page + 1) - BLOCK_WORDS = omega arith in
    record {
      proceeds = proceeds_first c.args.heap.now.objects c.args.self.now c.requires.cycle;
      low = omega arith;
      high = omega arith;
      waits = λ noted h. subst (λ n. WaitsOr (IsAhead c.args.heap.now.objects noted c.args.page n) c.args.self.now) at h;
    }

pub loop-from-preserved : goal.loop-from-preserved
loop-from-preserved c =
    let objects = c.args.heap.now.objects in
    let now = c.loop-from.self in
    let x = c.in-Some.start in
    let inv = c.loop-from.invariant in
    let next = c.in-Some.ensures.next in
    let near = c.in-Some.ensures.near in
    let cycle = inv.proceeds.cycle in
    let size = cycle.size in
    let small = cycle.small in
    let few = cycle.few in
    let same = inv.proceeds.size in
    let old_small = c.requires.cycle.small in
    let once = inv.proceeds.each_once in
    let visits : Visits objects x now c.visit.new.self =
    elim c.visit.result as (λ b. c.visit.result ≡ b → Visits objects x now c.visit.new.self) [
      | true ↦ c.visit.ensures.visited
      | false ↦ λ off. let refused = c.visit.ensures.refused off in absurd (omega (arith, refused.1, once, few, size, same, small, old_small, c.requires.few))
    ] refl in
    record {
      proceeds = proceeds_visit objects c.args.self.now now c.visit.new.self x inv.proceeds next.member visits;
      low = omega (arith, inv.low, next.after);
      high = omega (arith, near, inv.low, c.loop-from-test.true, next.after);
      waits = λ noted h. start_visited objects noted c.args.page c.loop-from.from x now c.visit.new.self (inv.waits noted h) next.before visits;
    }

pub returns-in_default-clause-waits : goal.returns-in_default-clause-waits
returns-in_default-clause-waits c = λ noted h.
    let here : block_of c.loop-from.from ≡ c.args.page = omega (arith, c.loop-from.invariant.low, c.loop-from-test.true) in
    page_walked c.args.heap.now.objects noted c.args.page c.loop-from.from c.loop-from.self (λ a low on. c.in_default.ensures.next a low (on ∙ sym here)) (c.loop-from.invariant.waits noted h)

pub returns-clause-waits : goal.returns-clause-waits
returns-clause-waits c = λ noted h.
    page_walked c.args.heap.now.objects noted c.args.page c.loop-from.from c.loop-from.self
    (λ a low on. absurd (omega (arith, low, on, c.loop-from.invariant.high, c.loop-from-test.false)))
    (c.loop-from.invariant.waits noted h)
