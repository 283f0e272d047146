use Rattle.std.proofs.Common.{◌≡◌, ◌+◌, Some, slice_get, sym, ap, ◌∙◌, subst}
use Rattle.fz_finalizers.specs.Queue.{Queue}
use Rattle.fz_finalizers.specs.Ready.{Ready, IsTaken}
use Rattle.fz_finalizers.proofs.Taking.{passes, held_passes}
use Rattle.fz_finalizers.proofs.ready.Ready.take_finished.Goals as goal

pub invariant_of-self : goal.invariant_of-self
invariant_of-self c = subst (λ (q : Queue). IsTaken q c.self.inside.taken) (sym c.in_err-entry.ensures.held) c.self.invariant

pub invariant_of-self-2 : goal.invariant_of-self-2
invariant_of-self-2 c =
    let q = c.in_ok-entry.ensures in
    passes c.self.inside.queue c.finish_number.new.self c.self.inside.taken c.self.invariant c.in_ok-entry.entry (sym q.entry) q.queue q.forgotten.0 q.held

pub returns-clause-takes : goal.returns-clause-takes
returns-clause-takes c =
    let q = c.in_ok-entry.ensures in
    let at = sym q.entry in (
      subst (λ (r : Ready). slice_get r.queue r.taken ≡ Some c.in_ok-entry.entry) c.self.view_is at,
      q.queue ∙ ap (λ (r : Ready). r.queue) c.self.view_is,
      ap (λ (r : Ready). r.taken + 1) c.self.view_is,
      held_passes c.self.inside.queue c.finish_number.new.self c.self.inside.taken c.self.invariant c.in_ok-entry.entry at q.queue q.forgotten.0 q.held ∙ ap (λ (r : Ready). r.held) c.self.view_is,
    )
