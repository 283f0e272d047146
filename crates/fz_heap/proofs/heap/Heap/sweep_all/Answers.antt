use Rattle.std.proofs.Common.{◌≡◌, ◌∙◌, ℕ, ap, sym, arith}
use Rattle.std.specs.FinSet.{empty_of_len}
use Rattle.fz_model.specs.Condemned.{Addresses, swept}
use Rattle.fz_heap.specs.Contents.{Contents}
use Rattle.fz_heap.proofs.Swept.{swept_none, swept_next, swept_all}
use Rattle.fz_heap.proofs.heap.Heap.sweep_all.Goals as goal

pub returns-then-condemned-eq0 : goal.returns-then-condemned-eq0
returns-then-condemned-eq0 c = ap (λ (s : Addresses). record c.args.self.now { condemned = s }) (empty_of_len c.args.self.now.condemned (sym c.condemned.ensures.count ∙ c.if-condemned-eq0.true))

pub loop-block-init : goal.loop-block-init
loop-block-init c = ap (λ (s : Addresses). record c.args.self.now { condemned = s }) (sym (swept_none c.args.self.now.condemned))

pub sweep-requires : goal.sweep-requires
sweep-requires c =
    let same = ap (λ (v : Contents). v.blocks) c.loop-block.invariant in
    omega (arith, same, c.loop-block-test.true, c.blocks-block-end.ensures.blocks)

pub loop-block-preserved : goal.loop-block-preserved
loop-block-preserved c =
    c.sweep.ensures
    ∙ ap (λ (v : Contents). record v { condemned = swept v.condemned c.loop-block.block 1 }) c.loop-block.invariant
    ∙ ap (λ (s : Addresses). record c.args.self.now { condemned = s }) (swept_next c.args.self.now.condemned c.loop-block.block)

pub returns : goal.returns
returns c =
    let last : c.loop-block.block ≡ c.args.self.now.blocks = omega (arith, c.loop-block-test.false, c.loop-block.auto.block-end, c.blocks-block-end.ensures.blocks) in
    c.loop-block.invariant
    ∙ ap (λ (n : ℕ). record c.args.self.now { condemned = swept c.args.self.now.condemned 0 n }) last
    ∙ ap (λ (s : Addresses). record c.args.self.now { condemned = s }) (swept_all c.args.self.now.condemned c.args.self.now.blocks c.condemned.ensures.within)
