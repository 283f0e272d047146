use Rattle.std.proofs.Common.{◌≡◌, ◌∙◌, ap, subst, arith}
use Rattle.fz_model.specs.Allocation.{blocks_for}
use Rattle.fz_blocks.specs.Runs.{WritesRun}
use Rattle.fz_blocks.proofs.Claiming.{run_claimed, run_within}
use Rattle.fz_blocks.proofs.claims.claim_run.Goals as goal

pub write_run-requires-clause-within : goal.write_run-requires-clause-within
write_run-requires-clause-within c =
    let count_is : c.span.result ≡ blocks_for c.args.size = c.span.ensures ∙ ap blocks_for (c.claim_least.ensures.alike.size ∙ c.of-first.ensures.size) in
    let within = run_within c.args.blocks.now (blocks_for c.args.size) c.args.at (omega arith) c.requires.first.run in
    omega (arith, count_is, within)

pub overflow_mul-result : goal.overflow_mul-result
overflow_mul-result c =
    let within = run_within c.args.blocks.now (blocks_for c.args.size) c.args.at (omega arith) c.requires.first.run in
    let few = c.requires.few in
    omega (arith, within, few)

pub overflow_add-result : goal.overflow_add-result
overflow_add-result c =
    let within = run_within c.args.blocks.now (blocks_for c.args.size) c.args.at (omega arith) c.requires.first.run in
    let few = c.requires.few in
    omega (arith, within, few)

pub returns : goal.returns
returns c =
    let count_is : c.span.result ≡ blocks_for c.args.size = c.span.ensures ∙ ap blocks_for (c.claim_least.ensures.alike.size ∙ c.of-first.ensures.size) in
    run_claimed c.args.blocks.now c.requires.runs c.args.size c.args.kind c.requires.sized c.requires.no_room c.write_run.new.blocks c.args.at c.claim_least.result c.of-first.result c.claim_least.new.self c.claim_least.ensures c.of-first.ensures.bare.0 c.of-first.ensures.bare.1 c.of-first.ensures.size c.of-first.ensures.kind c.requires.first
    (subst (λ n. WritesRun c.args.blocks.now c.write_run.new.blocks c.args.at n c.claim_least.new.self) count_is c.write_run.ensures)
