use Rattle.std.proofs.Common.{◌∙◌, ap}
use Rattle.fz_blocks.specs.Claimed.{Claimed, swept}
use Rattle.fz_blocks.proofs.Alike.{kept_alike}
use Rattle.fz_blocks.proofs.Mapped.{map_swept, swept_view}
use Rattle.fz_blocks.proofs.block_map.BlockMap.sweep.Goals as goal

pub put_alike-requires-clause-alike : goal.put_alike-requires-clause-alike
put_alike-requires-clause-alike c = kept_alike c.get-clean.result c.sweep.new.self c.sweep.ensures.alike c.sweep.ensures.objects c.self.inside.blocks c.args.block c.get-clean.ensures

pub invariant_of-self : goal.invariant_of-self
invariant_of-self c =
    map_swept c.self.inside.blocks c.self.invariant c.args.block c.get-clean.result c.sweep.new.self c.get-clean.ensures c.sweep.ensures.alike c.sweep.ensures.objects c.put_alike.new.self c.put_alike.ensures

pub returns : goal.returns
returns c =
    swept_view c.self.inside.blocks c.args.block c.get-clean.result c.sweep.new.self c.get-clean.ensures c.sweep.ensures.alike c.sweep.ensures.objects c.sweep.ensures.swept c.put_alike.new.self c.put_alike.ensures
    ∙ ap (λ (v : Claimed). record v { condemned = swept v.condemned c.args.block 1 }) c.self.view_is
