use Rattle.std.proofs.Common.{◌∙◌, sym, subst}
use Rattle.fz_why.specs.Snapshot.{AreCells, Copy, IsNext, objects_of}
use Rattle.fz_why.specs.declared.snapshot.listing.Cell.{Cell}
use Rattle.fz_why.proofs.Cells.{next_word}
use Rattle.fz_why.proofs.snapshot.Snapshot.word.Goals as goal

pub add-requires : goal.add-requires
add-requires c =
    let inv = subst (λ (s : Copy). AreCells (objects_of s.cells) s.cells) c.self.view_is c.self.invariant in
    subst (λ (d : Cell). IsNext c.args.self.now.cells c.args.self.now.links c.args.word d) (sym c.cell_of.ensures)
    (next_word c.args.self.now.cells inv c.args.self.now.links c.args.word c.in-Some.object c.args.listed c.ranges.word.fits (sym c.is_taken.ensures ∙ c.if-is_taken.false) (sym c.in-Some.ensures.object))
