use Rattle.std.proofs.Common.{◌≡◌, ◌∙◌, nat_eq, Some, None, ap, sym, subst}
use Rattle.std.specs.Map.{lookup}
use Rattle.fz_why.specs.Snapshot.{AreCells, Copy, objects_of}
use Rattle.fz_why.proofs.Cells.{contains_some, contains_none}
use Rattle.fz_why.proofs.snapshot.Snapshot.contains.Goals as goal

pub returns-in-Some : goal.returns-in-Some
returns-in-Some c =
    let inv = subst (λ (s : Copy). AreCells (objects_of s.cells) s.cells) c.self.view_is c.self.invariant in
    let found : Some c.in-Some.cell.now ≡ lookup (nat_eq c.args.object) c.args.self.now.cells = c.in-Some.ensures.value ∙ ap (λ (s : Copy). lookup (nat_eq c.args.object) s.cells) c.self.view_is in
    contains_some c.args.self.now.cells inv c.args.object c.in-Some.cell.now (sym found)

pub returns-in-None : goal.returns-in-None
returns-in-None c =
    let inv = subst (λ (s : Copy). AreCells (objects_of s.cells) s.cells) c.self.view_is c.self.invariant in
    let none : None ≡ lookup (nat_eq c.args.object) c.args.self.now.cells = c.in-None.ensures.value ∙ ap (λ (s : Copy). lookup (nat_eq c.args.object) s.cells) c.self.view_is in
    contains_none c.args.self.now.cells inv c.args.object (sym none)
