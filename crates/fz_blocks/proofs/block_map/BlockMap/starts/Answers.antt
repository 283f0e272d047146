use Rattle.std.proofs.Common.{◌∙◌, ap, sym}
use Rattle.std.specs.FinMap.{keys}
use Rattle.fz_blocks.specs.Claimed.{Claimed}
use Rattle.fz_blocks.specs.Starts.{starts_from}
use Rattle.fz_blocks.proofs.Starting.{keys-extents_in}
use Rattle.fz_blocks.proofs.block_map.BlockMap.starts.Goals as goal

pub returns : goal.returns
returns c =
    c.of.ensures
    ∙ ap (λ bs. starts_from bs 65536) c.as_slice.ensures
    ∙ sym (keys-extents_in c.self.inside.blocks)
    ∙ ap (λ (v : Claimed). keys v.extents) c.self.view_is
