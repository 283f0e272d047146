use Rattle.std.proofs.Common.{◌∙◌, ap, arith}
use Rattle.std.specs.FinMap as maps
use Rattle.fz_blocks.specs.Layout.{extents_in, condemned_in}
use Rattle.fz_blocks.proofs.Opening.{none_new, clean_new, map_new}
use Rattle.fz_blocks.proofs.block_map.BlockMap.new.Goals as goal

pub invariant_of-result : goal.invariant_of-result
invariant_of-result c = map_new c.in_ok-blocks.blocks c.args.blocks c.in_ok-blocks.ensures.made (omega arith) c.if-blocks-gt-MAX_BLOCKS.false

pub returns-clause-opened : goal.returns-clause-opened
returns-clause-opened c =
    ap (λ n. record { blocks = n; extents = extents_in c.in_ok-blocks.blocks; condemned = condemned_in c.in_ok-blocks.blocks }) c.in_ok-blocks.ensures.made.long
    ∙ ap (λ m. record { blocks = c.args.blocks; extents = m; condemned = condemned_in c.in_ok-blocks.blocks }) (none_new c.in_ok-blocks.blocks c.args.blocks c.in_ok-blocks.ensures.made)
    ∙ ap (λ s. record { blocks = c.args.blocks; extents = maps.empty; condemned = s }) (clean_new c.in_ok-blocks.blocks c.args.blocks c.in_ok-blocks.ensures.made)
