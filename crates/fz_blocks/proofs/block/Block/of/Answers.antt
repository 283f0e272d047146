use Rattle.std.proofs.Common.{◌∙◌, arith}
use Rattle.std.proofs.Math.Nat.{mod_self, add-mod_right}
use Rattle.fz_blocks.proofs.Objects.{first_cell, next_cell}
use Rattle.fz_blocks.proofs.block.Block.of.Goals as goal

pub loop-place-init : goal.loop-place-init
loop-place-init c = (omega arith, c.requires.small, mod_self c.args.size, first_cell c.args.size c.requires.sized)

pub loop-place-preserved : goal.loop-place-preserved
loop-place-preserved c =
    let inv = c.loop-place.invariant in
    let low = inv.0 in
    let sized = c.requires.sized in
    let fits = c.loop-place-test.true in (
      omega (arith, low),
      omega (arith, fits),
      add-mod_right c.loop-place.place c.args.size ∙ inv.2,
      next_cell c.loop-place.cells c.args.size c.loop-place.place sized inv.2 (λ is. omega (arith, is, low, sized)) fits inv.3,
    )
