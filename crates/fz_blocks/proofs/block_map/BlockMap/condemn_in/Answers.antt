use Rattle.std.proofs.Common.{◌∙◌, ◌+◌, ◌&&◌, ◌||◌, not, ap}
use Rattle.std.specs.FinMap as maps
use Rattle.std.specs.FinMap.{retain_keys, contains_key}
use Rattle.std.specs.FinSet.{contains, len}
use Rattle.fz_blocks.specs.Claimed.{Claimed, stands_at}
use Rattle.fz_blocks.proofs.block_map.BlockMap.condemn_in.Goals as goal

pub returns-clause-extents : goal.returns-clause-extents
returns-clause-extents c = c.condemn_at.ensures.condemned.extents ∙ ap (λ (v : Claimed). retain_keys v.extents (λ a. not (stands_at c.args.block c.args.places a))) c.self.view_is

pub returns-clause-condemned : goal.returns-clause-condemned
returns-clause-condemned c = λ a. c.condemn_at.ensures.condemned.condemned a ∙ ap (λ (v : Claimed). contains_key v.extents a && stands_at c.args.block c.args.places a || contains v.condemned a) c.self.view_is

pub returns-clause-count : goal.returns-clause-count
returns-clause-count c = c.condemn_at.ensures.condemned.count ∙ ap (λ (v : Claimed). len v.condemned + c.condemn_at.result) c.self.view_is

pub returns-clause-fewer : goal.returns-clause-fewer
returns-clause-fewer c = c.condemn_at.ensures.condemned.fewer ∙ ap (λ (v : Claimed). maps.len v.extents) c.self.view_is
