use Rattle.std.proofs.Common.{◌∙◌, ap, sym, cond, true, nat_eq, arith}
use Rattle.std.proofs.lemmas.Bool.{le-ltb}
use Rattle.std.specs.Ordering.{nat_cmp}
use Rattle.std.specs.FinSet.{contains, contains-empty}
use Rattle.fz_bits.specs.Flags.{Flagged}
use Rattle.fz_model.proofs.Sets.{contains-inserted}
use Rattle.fz_blocks.proofs.Opening.{one_more}
use Rattle.fz_blocks.proofs.blocks.all_blocks.Goals as goal

pub loop-block-init : goal.loop-block-init
loop-block-init c = (c.in_ok-all.ensures.made.1, λ b. ap (λ s. contains s b) c.in_ok-all.ensures.made.0 ∙ contains-empty nat_cmp b ∙ sym (le-ltb b 0 (omega arith)))

pub insert-requires : goal.insert-requires
insert-requires c = let wide = c.loop-block.invariant.0 in let lt = c.loop-block-test.true in omega (arith, wide, lt)

pub loop-block-preserved : goal.loop-block-preserved
loop-block-preserved c =
    let wide = c.loop-block.invariant.0 in
    let room = ap (λ (s : Flagged). s.size) c.insert.ensures in (
      omega (arith, wide, room),
      λ b.
          ap (λ (s : Flagged). contains s.members b) c.insert.ensures
          ∙ contains-inserted c.loop-block.all.members c.loop-block.block b
          ∙ ap (cond (nat_eq b c.loop-block.block) true) (c.loop-block.invariant.1 b)
          ∙ one_more b c.loop-block.block,
    )
