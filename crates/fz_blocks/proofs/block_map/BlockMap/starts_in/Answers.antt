use Rattle.std.proofs.Common.{◌+◌, ◌∙◌, ap}
use Rattle.std.specs.FinMap.{contains_key}
use Rattle.fz_model.specs.Allocation.{block_start}
use Rattle.fz_blocks.specs.Claimed.{Claimed}
use Rattle.fz_blocks.proofs.Mapped.{start_key}
use Rattle.fz_blocks.proofs.block_map.BlockMap.starts_in.Goals as goal

pub returns : goal.returns
returns c = λ place small.
    start_key c.self.inside.blocks c.args.block place c.get.result c.get.ensures small ∙ ap (λ (v : Claimed). contains_key v.extents (block_start c.args.block + place)) c.self.view_is
