use Rattle.std.proofs.Common.{◌≡◌, ◌+◌, ◌∙◌, nat_eq, Some, None, ap, sym, subst, arith}
use Rattle.std.proofs.lemmas.Option.{none-some, same_Some}
use Rattle.std.specs.Map.{lookup}
use Rattle.fz_why.specs.declared.paths.Pointer.{Pointer}
use Rattle.fz_why.specs.declared.snapshot.listing.Cell.{Cell}
use Rattle.fz_why.specs.Snapshot.{AreCells, Copy, objects_of}
use Rattle.fz_why.proofs.Cells.{pointer_here, pointer_none}
use Rattle.fz_why.proofs.snapshot.SnapshotPaths.pointer.Goals as goal

pub returns-in_default-clause-pointer : goal.returns-in_default-clause-pointer
returns-in_default-clause-pointer c =
    let inv = subst (λ (s : Copy). AreCells (objects_of s.cells) s.cells) c.self.view_is c.self.invariant in
    pointer_none c.args.self.now.cells inv c.args.object c.args.index
    (λ x there is. let low = (inv.within (c.args.object + c.args.index) x there).1 in absurd (omega (arith, low, c.in_default.ensures)))

pub returns-in_default-get-clause-pointer : goal.returns-in_default-get-clause-pointer
returns-in_default-get-clause-pointer c =
    let inv = subst (λ (s : Copy). AreCells (objects_of s.cells) s.cells) c.self.view_is c.self.invariant in
    let word : c.in-Some.word ≡ c.args.object + c.args.index = omega (arith, c.in-Some.ensures) in
    let none : None ≡ lookup (nat_eq c.in-Some.word) c.args.self.now.cells = c.in_default-get.ensures.value ∙ ap (λ (s : Copy). lookup (nat_eq c.in-Some.word) s.cells) c.self.view_is in
    pointer_none c.args.self.now.cells inv c.args.object c.args.index
    (λ x there is. none-some x (none ∙ ap (λ n. lookup (nat_eq n) c.args.self.now.cells) word ∙ there))

pub returns-then-cell-object-clause-pointer : goal.returns-then-cell-object-clause-pointer
returns-then-cell-object-clause-pointer c =
    let inv = subst (λ (s : Copy). AreCells (objects_of s.cells) s.cells) c.self.view_is c.self.invariant in
    let word : c.in-Some.word ≡ c.args.object + c.args.index = omega (arith, c.in-Some.ensures) in
    let found : Some c.in-Some-get.cell.now ≡ lookup (nat_eq c.in-Some.word) c.args.self.now.cells = c.in-Some-get.ensures.value ∙ ap (λ (s : Copy). lookup (nat_eq c.in-Some.word) s.cells) c.self.view_is in
    let there = ap (λ n. lookup (nat_eq n) c.args.self.now.cells) (sym word) ∙ sym found in
    ap (λ n. Some (let p : Pointer = record { word = n; value = c.in-Some-get.cell.now.value } in p)) word
    ∙ pointer_here c.args.self.now.cells inv c.args.object c.args.index c.in-Some-get.cell.now there (omega arith)

pub returns-else-cell-object-clause-pointer : goal.returns-else-cell-object-clause-pointer
returns-else-cell-object-clause-pointer c =
    let inv = subst (λ (s : Copy). AreCells (objects_of s.cells) s.cells) c.self.view_is c.self.invariant in
    let word : c.in-Some.word ≡ c.args.object + c.args.index = omega (arith, c.in-Some.ensures) in
    let found : Some c.in-Some-get.cell.now ≡ lookup (nat_eq c.in-Some.word) c.args.self.now.cells = c.in-Some-get.ensures.value ∙ ap (λ (s : Copy). lookup (nat_eq c.in-Some.word) s.cells) c.self.view_is in
    pointer_none c.args.self.now.cells inv c.args.object c.args.index
    (λ x there is.
    let same : c.in-Some-get.cell.now ≡ x = same_Some c.in-Some-get.cell.now x (found ∙ ap (λ n. lookup (nat_eq n) c.args.self.now.cells) word ∙ there) in
    let equal : c.in-Some-get.cell.now.object ≡ c.args.object = ap (λ (y : Cell). y.object) same ∙ is in
    absurd (omega (arith, equal)))
