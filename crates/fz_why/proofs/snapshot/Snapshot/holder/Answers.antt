use Rattle.std.proofs.Common.{◌≡◌, ◌∙◌, nat_eq, Some, None, option_map, ap, subst}
use Rattle.std.specs.Map.{lookup}
use Rattle.fz_why.specs.declared.snapshot.listing.Cell.{Cell}
use Rattle.fz_why.specs.Snapshot.{AreCells, Copy, objects_of}
use Rattle.fz_why.proofs.Cells.{points_is}
use Rattle.fz_why.proofs.snapshot.Snapshot.holder.Goals as goal

pub returns-in-Some-clause-points : goal.returns-in-Some-clause-points
returns-in-Some-clause-points c =
    let inv = subst (λ (s : Copy). AreCells (objects_of s.cells) s.cells) c.self.view_is c.self.invariant in
    let found : Some c.in-Some.cell.now ≡ lookup (nat_eq c.args.word) c.args.self.now.cells = c.in-Some.ensures.value ∙ ap (λ (s : Copy). lookup (nat_eq c.args.word) s.cells) c.self.view_is in
    ap (option_map (λ (x : Cell). x.object)) found ∙ points_is c.args.self.now.cells inv c.args.word

pub returns-in-None-clause-points : goal.returns-in-None-clause-points
returns-in-None-clause-points c =
    let inv = subst (λ (s : Copy). AreCells (objects_of s.cells) s.cells) c.self.view_is c.self.invariant in
    let none : None ≡ lookup (nat_eq c.args.word) c.args.self.now.cells = c.in-None.ensures.value ∙ ap (λ (s : Copy). lookup (nat_eq c.args.word) s.cells) c.self.view_is in
    ap (option_map (λ (x : Cell). x.object)) none ∙ points_is c.args.self.now.cells inv c.args.word
