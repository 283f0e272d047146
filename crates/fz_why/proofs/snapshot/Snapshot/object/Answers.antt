use Rattle.std.proofs.Common.{◌∙◌, sym, subst}
use Rattle.fz_why.specs.Snapshot.{AreCells, Copy, IsNext, objects_of}
use Rattle.fz_why.specs.declared.snapshot.listing.Cell.{Cell}
use Rattle.fz_why.proofs.Cells.{next_object}
use Rattle.fz_why.proofs.snapshot.Snapshot.object.Goals as goal

pub add-requires : goal.add-requires
add-requires c =
    let inv = subst (λ (s : Copy). AreCells (objects_of s.cells) s.cells) c.self.view_is c.self.invariant in
    subst (λ (d : Cell). IsNext c.args.self.now.cells c.args.self.now.links c.args.object d) (sym c.cell_of.ensures)
    (next_object c.args.self.now.cells inv c.args.self.now.links c.args.object c.args.first c.ranges.object.fits (sym c.is_taken.ensures ∙ c.if-is_taken.false))
