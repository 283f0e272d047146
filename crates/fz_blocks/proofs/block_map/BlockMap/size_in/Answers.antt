use Rattle.std.proofs.Common.{◌∙◌, sym, ap}
use Rattle.std.specs.FinMap.{get}
use Rattle.fz_blocks.specs.Claimed.{Claimed}
use Rattle.fz_blocks.proofs.Mapped.{size_at}
use Rattle.fz_blocks.proofs.block_map.BlockMap.size_in.Goals as goal

pub returns : goal.returns
returns c = λ a x here is.
    size_at c.self.inside.blocks c.args.block c.block.result.now c.block.ensures a x (ap (λ (v : Claimed). get v.extents a) c.self.view_is ∙ here) is ∙ sym c.from.ensures
