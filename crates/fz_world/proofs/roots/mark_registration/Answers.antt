use Rattle.std.proofs.Common.{◌≡◌, ◌⊎◌, inl, inr, ⊎_elim, IsTrue, true≢false, sym, ◌∙◌}
use Rattle.fz_world.specs.Roots.{IsPointedFrom, IsRootOfRegistration}
use Rattle.fz_world.proofs.Marking.{marks_then, marks_as, marks_target}
use Rattle.fz_world.proofs.roots.mark_registration.Goals as goal

pub returns-then-closed : goal.returns-then-closed
returns-then-closed c =
    let objects = c.args.heap.now.objects in
    let cd = c.args.registration.cd in
    marks_as c.args.marker.now c.mark_start.new.marker (λ a. IsPointedFrom objects cd a ⊎ (c.args.object ≡ a)) (IsRootOfRegistration objects (IsTrue c.args.closed) (c.args.object, c.args.registration))
    (λ a. (⊎_elim inl (λ e. inr (c.if-closed.true, e)), ⊎_elim inl (λ e. inr e.1)))
    (marks_then c.args.marker.now c.root.new.self c.mark_start.new.marker (IsPointedFrom objects cd) (λ a. c.args.object ≡ a) (marks_target objects c.args.marker.now c.root.new.self cd c.root.ensures.marked) c.mark_start.ensures)

pub returns-else-closed : goal.returns-else-closed
returns-else-closed c =
    let objects = c.args.heap.now.objects in
    let cd = c.args.registration.cd in
    marks_as c.args.marker.now c.root.new.self (IsPointedFrom objects cd) (IsRootOfRegistration objects (IsTrue c.args.closed) (c.args.object, c.args.registration))
    (λ a. (inl, ⊎_elim (λ p. p) (λ e. absurd (true≢false (sym e.0 ∙ c.if-closed.false)))))
    (marks_target objects c.args.marker.now c.root.new.self cd c.root.ensures.marked)
