use Rattle.std.proofs.Common.{arith, subst}
use Rattle.fz_blocks.specs.Runs.{WritesRun}
use Rattle.fz_blocks.proofs.Writing.{first_written, next_written}
use Rattle.fz_blocks.proofs.claims.write_run.Goals as goal

pub loop-back-init : goal.loop-back-init
loop-back-init c =
    let some = c.requires.some in
    let within = c.requires.within in
    (omega arith, some, first_written c.args.blocks.now c.put.new.self c.args.at c.args.first (omega (arith, some, within)) c.put.ensures)

pub later-requires-clause-some : goal.later-requires-clause-some
later-requires-clause-some c = c.loop-back.invariant.0

pub loop-back-preserved : goal.loop-back-preserved
loop-back-preserved c =
    let inv = c.loop-back.invariant in
    let lt = c.loop-back-test.true in
    let within = c.requires.within in
    (omega arith, omega (arith, lt), next_written c.args.blocks.now c.loop-back.blocks c.put-in-loop-back.new.self c.args.at c.loop-back.back c.args.first c.later.result inv.0 (omega (arith, lt, within)) inv.2 c.later.ensures c.put-in-loop-back.ensures)

pub returns : goal.returns
returns c =
    let past = c.loop-back-test.false in
    let high = c.loop-back.invariant.1 in
    subst (λ n. WritesRun c.args.blocks.now c.loop-back.blocks c.args.at n c.args.first) (omega (arith, past, high)) c.loop-back.invariant.2
