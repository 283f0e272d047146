use Rattle.std.proofs.Common.{subst}
use Rattle.fz_model.specs.Extents.{AreApart, AreWithin}
use Rattle.fz_blocks.specs.Claimed.{Claimed}
use Rattle.fz_blocks.proofs.Extents.{apart, within}
use Rattle.fz_blocks.proofs.block_map.BlockMap.blocks.Goals as goal

pub returns-clause-apart : goal.returns-clause-apart
returns-clause-apart c = subst (λ (v : Claimed). AreApart v.extents) c.self.view_is (apart c.self.inside.blocks c.self.invariant.runs)

pub returns-clause-within : goal.returns-clause-within
returns-clause-within c = subst (λ (v : Claimed). AreWithin v.blocks v.extents) c.self.view_is (within c.self.inside.blocks c.self.invariant.runs)
