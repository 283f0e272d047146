use Rattle.std.proofs.Common.{arith, refl}
use Rattle.fz_blocks.proofs.Bits.{none_below, start_below, highest_below}
use Rattle.fz_blocks.proofs.block.Block.cell_start.Goals as goal

pub returns-then-below-eq0 : goal.returns-then-below-eq0
returns-then-below-eq0 c = λ start on le. absurd (none_below c.args.self.now.objects c.args.place _ _ (omega arith) c.requires refl refl c.if-below-eq0.true start on le)

pub overflow_sub-place : goal.overflow_sub-place
overflow_sub-place c = (start_below c.args.self.now.objects c.args.place _ c.from-start.result (omega arith) c.requires refl c.from-start.ensures c.if-below-eq0.false).2

pub returns-then-place-start : goal.returns-then-place-start
returns-then-place-start c = λ start on le.
    let low = highest_below c.args.self.now.objects c.args.place _ c.from-start.result (omega arith) c.requires refl c.from-start.ensures c.if-below-eq0.false start on le in
    let at = start_below c.args.self.now.objects c.args.place _ c.from-start.result (omega arith) c.requires refl c.from-start.ensures c.if-below-eq0.false in
    let far = c.if-place-start.true in
    let size = c.from.ensures in
    omega (arith, low, at.2, far, size)

pub returns : goal.returns
returns c =
    let at = start_below c.args.self.now.objects c.args.place _ c.from-start.result (omega arith) c.requires refl c.from-start.ensures c.if-below-eq0.false in
    let near = c.if-place-start.false in
    let size = c.from.ensures in
    record { starts = at.1; first = at.2; inside = omega (arith, at.2, near, size) }
