use Rattle.std.proofs.Common.{◌∙◌, ◌-◌, ◌/◌, sym, refl, arith, rules}
use Rattle.fz_blocks.proofs.Reading.{read_block}
use Rattle.fz_blocks.proofs.Starting.{step_over, step_to}
use Rattle.fz_blocks.proofs.starts.StartsIterator.next.Goals as goal

pub returns-in-Some-first_start-clause-steps : goal.returns-in-Some-first_start-clause-steps
returns-in-Some-first_start-clause-steps c =
    let list = c.loop-block.self-inside.blocks.now in
    let here = read_block list list ((c.loop-block.self-inside.next - 65536) / 64) c.in-Some.block.now refl c.in-Some.ensures.lookup.0 c.in-Some.ensures.lookup.1 in
    sym c.self.view_is ∙ sym c.loop-block.invariant.same ∙ step_to list c.loop-block.self-inside.next c.in-Some.block.now c.loop-block.invariant.low here c.in-Some-first_start.start c.in-Some-first_start.ensures

pub returns-in-Some-first_start-clause-goes : goal.returns-in-Some-first_start-clause-goes
returns-in-Some-first_start-clause-goes c = rw (returns-in-Some-first_start-clause-steps c) (search rules)

pub loop-block-preserved : goal.loop-block-preserved
loop-block-preserved c =
    let list = c.loop-block.self-inside.blocks.now in
    let here = read_block list list ((c.loop-block.self-inside.next - 65536) / 64) c.in-Some.block.now refl c.in-Some.ensures.lookup.0 c.in-Some.ensures.lookup.1 in
    let over = step_over list c.loop-block.self-inside.next c.in-Some.block.now c.loop-block.invariant.low here c.in_default-first_start.ensures in
    record {
      low = omega (arith, c.loop-block.invariant.low);
      high = search rules;
      few = c.loop-block.invariant.few;
      same = sym over ∙ c.loop-block.invariant.same;
    }
