use Rattle.std.proofs.Common.{arith, subst}
use Rattle.fz_blocks.specs.Runs.{FreesLater}
use Rattle.fz_blocks.proofs.Writing.{none_freed, next_freed}
use Rattle.fz_blocks.proofs.claims.free_later.Goals as goal

pub loop-back-init : goal.loop-back-init
loop-back-init c = (omega arith, c.requires.some, none_freed c.args.blocks.now c.args.at)

pub loop-back-preserved : goal.loop-back-preserved
loop-back-preserved c =
    let inv = c.loop-back.invariant in
    let lt = c.loop-back-test.true in
    let within = c.requires.within in
    (omega arith, omega (arith, lt), next_freed c.args.blocks.now c.loop-back.blocks c.put.new.self c.args.at c.loop-back.back c.get-block.result c.detach.new.self inv.0 (omega (arith, lt, within)) inv.2 c.get-block.ensures c.detach.ensures c.put.ensures)

pub returns : goal.returns
returns c =
    let past = c.loop-back-test.false in
    let high = c.loop-back.invariant.1 in
    subst (λ n. FreesLater c.args.blocks.now c.loop-back.blocks c.args.at n) (omega (arith, past, high)) c.loop-back.invariant.2
