use Rattle.std.proofs.Common.{arith}
use Rattle.fz_model.proofs.Objects.{to_covers}
use Rattle.fz_heap.proofs.Extents.{found_at, judged_outside, judged_inside}
use Rattle.fz_heap.proofs.places.place_of.Goals as goal

pub overflow_sub-before : goal.overflow_sub-before
overflow_sub-before c = (found_at _ _ _ _ _ c.cell_of.ensures c.in_ok-start.ensures.ok_part).2

pub overflow_sub-extent : goal.overflow_sub-extent
overflow_sub-extent c =
    let found = found_at _ _ _ _ _ c.cell_of.ensures c.in_ok-start.ensures.ok_part in
    omega (arith, found.2, found.3)

pub returns-then-offset-extent-clause-judged : goal.returns-then-offset-extent-clause-judged
returns-then-offset-extent-clause-judged c =
    let found = found_at _ _ _ _ _ c.cell_of.ensures c.in_ok-start.ensures.ok_part in
    judged_outside _ _ _ _ c.in_ok-start.extent found.0 found.1 (omega (arith, found.2, found.3, c.if-offset-extent.true))

pub overflow_sub-result : goal.overflow_sub-result
overflow_sub-result c =
    let found = found_at _ _ _ _ _ c.cell_of.ensures c.in_ok-start.ensures.ok_part in
    omega (arith, found.2, c.requires.within _ _ found.1)

pub returns-clause-judged : goal.returns-clause-judged
returns-clause-judged c =
    let found = found_at _ _ _ _ _ c.cell_of.ensures c.in_ok-start.ensures.ok_part in
    judged_inside _ _ _ _ c.in_ok-start.extent found.0 found.1 (omega (arith, found.2)) (omega (arith, found.2, found.3, c.if-offset-extent.false))

pub returns-clause-found : goal.returns-clause-found
returns-clause-found c =
    let found = found_at _ _ _ _ _ c.cell_of.ensures c.in_ok-start.ensures.ok_part in
    record {
      start = c.in_ok-start.start;
      extent = c.in_ok-start.extent;
      here = found.1;
      at = omega (arith, found.2, c.requires.within _ _ found.1);
      inside = to_covers _ _ c.in_ok-start.extent (omega (arith, found.2)) (omega (arith, found.2, found.3, c.if-offset-extent.false));
    }

pub returns-clause-in_heap : goal.returns-clause-in_heap
returns-clause-in_heap c =
    let found = found_at _ _ _ _ _ c.cell_of.ensures c.in_ok-start.ensures.ok_part in
    omega (arith, found.2, found.3, c.requires.within _ _ found.1, c.if-offset-extent.false)
