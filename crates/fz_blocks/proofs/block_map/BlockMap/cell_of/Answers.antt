use Rattle.std.proofs.Common.{◌≡◌, ◌∙◌, ◌/◌, ◌-◌, ◌+◌, ◌*◌, ◌%◌, ℕ, Option, Some, None, MatchOption, subst, sym, arith, slice_get}
use Rattle.std.specs.FinMap.{get}
use Rattle.fz_model.specs.declared.extent.Extent.{Extent}
use Rattle.fz_model.specs.Extents.{points_in}
use Rattle.fz_model.specs.State.{Map}
use Rattle.fz_blocks.specs.Claimed.{Claimed}
use Rattle.fz_blocks.specs.Layout.{extents_in}
use Rattle.fz_blocks.proofs.Extents.{points_low, points_past, points_here, points_free, points_back, points_rest}
use Rattle.fz_blocks.proofs.Reading.{read_block, read_none}
use Rattle.fz_blocks.proofs.block_map.BlockMap.cell_of.Goals as goal

abbrev Answer : ℕ → Option (ℕ × Extent) → Map Extent → Type 0
Answer w r extents = MatchOption r (points_in extents w ≡ None) (λ found. (points_in extents w ≡ Some found.0) × (get extents found.0 ≡ Some found.1))

pub returns-in_err-offset : goal.returns-in_err-offset
returns-in_err-offset c =
    subst (λ (v : Claimed). Answer c.args.word c.from_residual.result v.extents) c.self.view_is
    (subst (λ r. Answer c.args.word r (extents_in c.self.inside.blocks)) (sym c.from_residual.ensures) (points_low c.self.inside.blocks c.self.invariant.runs c.args.word (omega (arith, c.in_err-offset.ensures))))

pub returns-in_err-block : goal.returns-in_err-block
returns-in_err-block c =
    subst (λ (v : Claimed). Answer c.args.word c.from_residual-in_err-block.result v.extents) c.self.view_is
    (subst (λ r. Answer c.args.word r (extents_in c.self.inside.blocks)) (sym c.from_residual-in_err-block.ensures)
    (points_past c.self.inside.blocks c.self.invariant.runs c.args.word c.in_ok-offset.offset c.in_ok-offset.ensures.0 c.in_ok-offset.ensures.1 (read_none c.self.inside.blocks c.as_slice-all.result.now (c.in_ok-offset.offset / 64) c.as_slice-all.ensures c.in_err-block.ensures.lookup.0)))

pub returns-then-starts_at : goal.returns-then-starts_at
returns-then-starts_at c =
    let place = c.in_ok-offset.offset % 64 in
    let here = read_block c.self.inside.blocks c.as_slice-all.result.now (c.in_ok-offset.offset / 64) c.in_ok-block.block.now c.as_slice-all.ensures c.in_ok-block.ensures.lookup.0 c.in_ok-block.ensures.lookup.1 in
    let sized = c.in_ok-block.block.now.sized in
    let found = points_here c.self.inside.blocks c.self.invariant.runs c.args.word c.in_ok-offset.offset c.in_ok-offset.ensures.0 c.in_ok-offset.ensures.1 c.in_ok-block.block.now here place (record { starts = sym c.starts_at.ensures ∙ c.if-starts_at.true; first = omega arith; inside = omega (arith, sized) }) in
    let same : c.args.word - place + place ≡ c.args.word = omega (arith, c.in_ok-offset.ensures.0, c.in_ok-offset.ensures.1) in
    subst (λ (v : Claimed). Answer c.args.word (Some (c.args.word, c.extent.result)) v.extents) c.self.view_is
    (subst (λ w. Answer c.args.word (Some (w, c.extent.result)) (extents_in c.self.inside.blocks)) same (found.0, subst (λ x. get (extents_in c.self.inside.blocks) (c.args.word - place + place) ≡ Some x) (sym c.extent.ensures) found.1))

pub returns-in-Some : goal.returns-in-Some
returns-in-Some c =
    let here = read_block c.self.inside.blocks c.as_slice-all.result.now (c.in_ok-offset.offset / 64) c.in_ok-block.block.now c.as_slice-all.ensures c.in_ok-block.ensures.lookup.0 c.in_ok-block.ensures.lookup.1 in
    let found = points_here c.self.inside.blocks c.self.invariant.runs c.args.word c.in_ok-offset.offset c.in_ok-offset.ensures.0 c.in_ok-offset.ensures.1 c.in_ok-block.block.now here c.in-Some.start c.in-Some.ensures in
    subst (λ (v : Claimed). Answer c.args.word (Some (c.args.word - c.in_ok-offset.offset % 64 + c.in-Some.start, c.extent-in-Some.result)) v.extents) c.self.view_is (found.0, subst (λ x. get (extents_in c.self.inside.blocks) (c.args.word - c.in_ok-offset.offset % 64 + c.in-Some.start) ≡ Some x) (sym c.extent-in-Some.ensures) found.1)

pub returns-then-block-eq0 : goal.returns-then-block-eq0
returns-then-block-eq0 c =
    let here = read_block c.self.inside.blocks c.as_slice-all.result.now (c.in_ok-offset.offset / 64) c.in_ok-block.block.now c.as_slice-all.ensures c.in_ok-block.ensures.lookup.0 c.in_ok-block.ensures.lookup.1 in
    subst (λ (v : Claimed). Answer c.args.word None v.extents) c.self.view_is (points_free c.self.inside.blocks c.self.invariant.runs c.args.word c.in_ok-offset.offset c.in_ok-offset.ensures.0 c.in_ok-offset.ensures.1 c.in_ok-block.block.now here c.in_default.ensures c.if-block-eq0.true)

pub overflow_sub-index : goal.overflow_sub-index
overflow_sub-index c =
    let here = read_block c.self.inside.blocks c.as_slice-all.result.now (c.in_ok-offset.offset / 64) c.in_ok-block.block.now c.as_slice-all.ensures c.in_ok-block.ensures.lookup.0 c.in_ok-block.ensures.lookup.1 in
    let later = c.self.invariant.runs.behind (c.in_ok-offset.offset / 64) c.in_ok-block.block.now here (omega (arith, c.if-block-eq0.false)) in
    let low = later.within in
    let back = c.from-back.ensures in
    omega (arith, low, back)

pub overflow_sub-start-2 : goal.overflow_sub-start-2
overflow_sub-start-2 c =
    let here = read_block c.self.inside.blocks c.as_slice-all.result.now (c.in_ok-offset.offset / 64) c.in_ok-block.block.now c.as_slice-all.ensures c.in_ok-block.ensures.lookup.0 c.in_ok-block.ensures.lookup.1 in
    let later = c.self.invariant.runs.behind (c.in_ok-offset.offset / 64) c.in_ok-block.block.now here (omega (arith, c.if-block-eq0.false)) in
    let low = later.within in
    let back = c.from-back.ensures in
    let high = c.in_ok-offset.ensures.0 in
    let offset = c.in_ok-offset.ensures.1 in
    omega (arith, low, back, high, offset)

pub returns-then-word-start : goal.returns-then-word-start
returns-then-word-start c =
    let blocks = c.self.inside.blocks in
    let here = read_block c.self.inside.blocks c.as_slice-all.result.now (c.in_ok-offset.offset / 64) c.in_ok-block.block.now c.as_slice-all.ensures c.in_ok-block.ensures.lookup.0 c.in_ok-block.ensures.lookup.1 in
    let there = read_block c.self.inside.blocks c.as_slice-all.result.now (c.in_ok-offset.offset / 64 - c.from-back.result) c.in_ok-first.first.now c.as_slice-all.ensures c.in_ok-first.ensures.lookup.0 c.in_ok-first.ensures.lookup.1 in
    let far = c.if-word-start.true in
    let size = c.from.ensures in
    let back = c.from-back.ensures in
    subst (λ (v : Claimed). Answer c.args.word None v.extents) c.self.view_is
    (points_rest c.self.inside.blocks c.self.invariant.runs c.args.word c.in_ok-offset.offset c.in_ok-offset.ensures.0 c.in_ok-offset.ensures.1 c.in_ok-block.block.now here c.in_default.ensures c.if-block-eq0.false c.in_ok-first.first.now
    (subst (λ k. slice_get c.self.inside.blocks (c.in_ok-offset.offset / 64 - k) ≡ Some c.in_ok-first.first.now) back there) (omega (arith, far, size, back)))

pub returns : goal.returns
returns c =
    let here = read_block c.self.inside.blocks c.as_slice-all.result.now (c.in_ok-offset.offset / 64) c.in_ok-block.block.now c.as_slice-all.ensures c.in_ok-block.ensures.lookup.0 c.in_ok-block.ensures.lookup.1 in
    let there = read_block c.self.inside.blocks c.as_slice-all.result.now (c.in_ok-offset.offset / 64 - c.from-back.result) c.in_ok-first.first.now c.as_slice-all.ensures c.in_ok-first.ensures.lookup.0 c.in_ok-first.ensures.lookup.1 in
    let near = c.if-word-start.false in
    let size = c.from.ensures in
    let back = c.from-back.ensures in
    let found = points_back c.self.inside.blocks c.self.invariant.runs c.args.word c.in_ok-offset.offset c.in_ok-offset.ensures.0 c.in_ok-offset.ensures.1 c.in_ok-block.block.now here c.in_default.ensures c.if-block-eq0.false c.in_ok-first.first.now
    (subst (λ k. slice_get c.self.inside.blocks (c.in_ok-offset.offset / 64 - k) ≡ Some c.in_ok-first.first.now) back there) (omega (arith, near, size, back)) in
    subst (λ k. (points_in c.args.self.now.extents c.args.word ≡ Some (c.args.word - c.in_ok-offset.offset % 64 - 64 * k)) × (get c.args.self.now.extents (c.args.word - c.in_ok-offset.offset % 64 - 64 * k) ≡ Some c.extent-2.result)) (sym back)
    (subst (λ (v : Claimed). Answer c.args.word (Some (c.args.word - c.in_ok-offset.offset % 64 - 64 * c.in_ok-block.block.now.back, c.extent-2.result)) v.extents) c.self.view_is (found.0, subst (λ x. get (extents_in c.self.inside.blocks) (c.args.word - c.in_ok-offset.offset % 64 - 64 * c.in_ok-block.block.now.back) ≡ Some x) (sym c.extent-2.ensures) found.1))
