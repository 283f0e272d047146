use Rattle.std.proofs.Common.{◌≡◌, ◌∙◌, ◌+◌, ◌-◌, ◌/◌, ◌%◌, ap, arith}
use Rattle.std.proofs.lemmas.Option.{slice_get_within}
use Rattle.std.specs.FinMap.{remove, contains_key}
use Rattle.std.specs.FinSet.{insert}
use Rattle.fz_model.specs.Allocation.{block_start}
use Rattle.fz_blocks.specs.Claimed.{Claimed}
use Rattle.fz_blocks.specs.Layout.{extents_in}
use Rattle.fz_blocks.proofs.Mapped.{key_start, one_condemned}
use Rattle.fz_blocks.proofs.block_map.BlockMap.condemn.Goals as goal

pub overflow_sub-offset : goal.overflow_sub-offset
overflow_sub-offset c = let high = (key_start c.self.inside.blocks c.args.start (ap (λ (v : Claimed). contains_key v.extents c.args.start) c.self.view_is ∙ c.requires)).high in omega (arith, high)

pub condemn_at-requires-clause-within : goal.condemn_at-requires-clause-within
condemn_at-requires-clause-within c =
    let key = key_start c.self.inside.blocks c.args.start (ap (λ (v : Claimed). contains_key v.extents c.args.start) c.self.view_is ∙ c.requires) in
    slice_get_within c.self.inside.blocks ((c.args.start - 65536) / 64) key.block key.here

pub returns : goal.returns
returns c =
    let key = ap (λ (v : Claimed). contains_key v.extents c.args.start) c.self.view_is ∙ c.requires in
    let high = (key_start c.self.inside.blocks c.args.start key).high in
    let at : block_start ((c.args.start - 65536) / 64) + (c.args.start - 65536) % 64 ≡ c.args.start = omega (arith, high) in
    one_condemned c.self.inside.blocks c.condemn_at.new.blocks ((c.args.start - 65536) / 64) ((c.args.start - 65536) % 64) c.condemn_at.result (omega arith) (ap (contains_key (extents_in c.self.inside.blocks)) at ∙ key) c.condemn_at.ensures.condemned
    ∙ ap (λ (v : Claimed). record v { extents = remove v.extents (block_start ((c.args.start - 65536) / 64) + (c.args.start - 65536) % 64); condemned = insert v.condemned (block_start ((c.args.start - 65536) / 64) + (c.args.start - 65536) % 64) }) c.self.view_is
    ∙ ap (λ a. record c.args.self.now { extents = remove c.args.self.now.extents a; condemned = insert c.args.self.now.condemned a }) at
