use Rattle.std.proofs.Common.{◌≡◌, ◌∙◌, ◌%◌, ◌/◌, Some, None, option_and_then, ap, sym, arith, rules, true, false}
use Rattle.std.proofs.lemmas.Bool.{cond-true, cond-false}
use Rattle.std.specs.FinMap.{get}
use Rattle.fz_blocks.specs.Blocks.{starts_at, extent_of, extent_in}
use Rattle.fz_blocks.specs.Claimed.{Claimed}
use Rattle.fz_blocks.proofs.Extents.{low_extent}
use Rattle.fz_blocks.proofs.Mapped.{extent_by}
use Rattle.fz_blocks.proofs.Reading.{read_block, read_none}
use Rattle.fz_blocks.proofs.block_map.BlockMap.extent_at.Goals as goal

pub returns-in_err-offset : goal.returns-in_err-offset
returns-in_err-offset c =
    c.from_residual.ensures ∙ sym (low_extent c.self.inside.blocks c.args.start (omega (arith, c.in_err-offset.ensures))) ∙ ap (λ (v : Claimed). get v.extents c.args.start) c.self.view_is

pub returns-in_err-block : goal.returns-in_err-block
returns-in_err-block c =
    let past = read_none c.self.inside.blocks c.as_slice-all.result.now (c.in_ok-offset.offset / 64) c.as_slice-all.ensures c.in_err-block.ensures.lookup.0 in
    c.from_residual-in_err-block.ensures
    ∙ sym (extent_by c.self.inside.blocks c.args.start c.in_ok-offset.offset c.in_ok-offset.ensures.0 c.in_ok-offset.ensures.1 ∙ ap (option_and_then (extent_in (c.in_ok-offset.offset % 64))) past)
    ∙ ap (λ (v : Claimed). get v.extents c.args.start) c.self.view_is

pub returns-then-not-starts_at : goal.returns-then-not-starts_at
returns-then-not-starts_at c =
    let here = read_block c.self.inside.blocks c.as_slice-all.result.now (c.in_ok-offset.offset / 64) c.in_ok-block.block.now c.as_slice-all.ensures c.in_ok-block.ensures.lookup.0 c.in_ok-block.ensures.lookup.1 in
    let off : c.starts_at.result ≡ false = search rules in
    sym (extent_by c.self.inside.blocks c.args.start c.in_ok-offset.offset c.in_ok-offset.ensures.0 c.in_ok-offset.ensures.1
    ∙ ap (option_and_then (extent_in (c.in_ok-offset.offset % 64))) here
    ∙ cond-false (starts_at c.in_ok-block.block.now (c.in_ok-offset.offset % 64)) (Some (extent_of c.in_ok-block.block.now)) None (sym c.starts_at.ensures ∙ off))
    ∙ ap (λ (v : Claimed). get v.extents c.args.start) c.self.view_is

pub returns : goal.returns
returns c =
    let here = read_block c.self.inside.blocks c.as_slice-all.result.now (c.in_ok-offset.offset / 64) c.in_ok-block.block.now c.as_slice-all.ensures c.in_ok-block.ensures.lookup.0 c.in_ok-block.ensures.lookup.1 in
    let on : c.starts_at.result ≡ true = search rules in
    ap Some c.extent.ensures
    ∙ sym (extent_by c.self.inside.blocks c.args.start c.in_ok-offset.offset c.in_ok-offset.ensures.0 c.in_ok-offset.ensures.1
    ∙ ap (option_and_then (extent_in (c.in_ok-offset.offset % 64))) here
    ∙ cond-true (starts_at c.in_ok-block.block.now (c.in_ok-offset.offset % 64)) (Some (extent_of c.in_ok-block.block.now)) None (sym c.starts_at.ensures ∙ on))
    ∙ ap (λ (v : Claimed). get v.extents c.args.start) c.self.view_is
