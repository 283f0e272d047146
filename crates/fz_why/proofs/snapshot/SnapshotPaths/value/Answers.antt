use Rattle.std.proofs.Common.{◌≡◌, ◌≢◌, ◌∙◌, ℕ, Bool, nat_eq, true, false, Some, refl, ap, sym, subst}
use Rattle.std.proofs.lemmas.Bool.{eqb-true, eq-eqb}
use Rattle.std.specs.Map.{lookup}
use Rattle.fz_why.specs.declared.snapshot.listing.TheConstants.{HIDDEN}
use Rattle.fz_why.specs.Snapshot.{AreCells, Copy, objects_of}
use Rattle.fz_why.proofs.Cells.{value_here}
use Rattle.fz_why.proofs.snapshot.SnapshotPaths.value.Goals as goal

differ : (n : ℕ) → n ≢ HIDDEN → nat_eq n HIDDEN ≡ false
differ n ne = one (nat_eq n HIDDEN) refl
  where
    one : (b : Bool) → nat_eq n HIDDEN ≡ b → b ≡ false
    one true is = absurd (ne (eqb-true n HIDDEN is))
    one false is = refl

pub returns-then-cell : goal.returns-then-cell
returns-then-cell c =
    let inv = subst (λ (s : Copy). AreCells (objects_of s.cells) s.cells) c.self.view_is c.self.invariant in
    let found : Some c.in_ok-cell.cell.now ≡ lookup (nat_eq c.in_ok-word.word) c.args.self.now.cells = c.in_ok-cell.ensures.value ∙ ap (λ (s : Copy). lookup (nat_eq c.in_ok-word.word) s.cells) c.self.view_is in
    c.holder.ensures.points ∙ sym (value_here c.args.self.now.cells inv c.args.self.now.links c.args.number c.in_ok-word.word c.in_ok-cell.cell.now true (sym c.in_ok-word.ensures) (sym found) (eq-eqb c.in_ok-cell.cell.now.value HIDDEN c.if-cell.true))

pub returns-else-cell : goal.returns-else-cell
returns-else-cell c =
    let inv = subst (λ (s : Copy). AreCells (objects_of s.cells) s.cells) c.self.view_is c.self.invariant in
    let found : Some c.in_ok-cell.cell.now ≡ lookup (nat_eq c.in_ok-word.word) c.args.self.now.cells = c.in_ok-cell.ensures.value ∙ ap (λ (s : Copy). lookup (nat_eq c.in_ok-word.word) s.cells) c.self.view_is in
    sym (value_here c.args.self.now.cells inv c.args.self.now.links c.args.number c.in_ok-word.word c.in_ok-cell.cell.now false (sym c.in_ok-word.ensures) (sym found) (differ c.in_ok-cell.cell.now.value c.if-cell.false))
