use Rattle.std.proofs.Common.{◌∙◌, ap, sym, subst}
use Rattle.fz_world.specs.World.{WorldView}
use Rattle.fz_service.specs.States.{LockedState, locked_state, IsInOrder, LetsGo}
use Rattle.fz_service.proofs.Keeps.{finished_one, finish_refused}
use Rattle.fz_service.proofs.locked.Locked.finish.Goals as goal

pub invariant_of-self : goal.invariant_of-self
invariant_of-self g c =
    let w = c.self.inside in
    let same = c.in-Err.ensures.refused in (
      subst (λ (v : WorldView). IsInOrder g.O.Opening.origin (locked_state v w.owner.sent w.rung.entries w.book.total w.shortages.count)) (sym same) c.self.invariant.0,
      c.self.invariant.1,
    )

pub returns-in-Err-clause-refused : goal.returns-in-Err-clause-refused
returns-in-Err-clause-refused g c =
    let w = c.self.inside in
    let same = c.in-Err.ensures.refused in
    let cause = finish_refused _ _ _ w.owner.sent w.rung.entries w.book.total w.shortages.count _ _ c.in-Err.ensures.step c.self.invariant.0.reached in (
      (λ i. (cause i, c.args.duty)),
      ap (λ (v : WorldView). locked_state v w.owner.sent w.rung.entries w.book.total w.shortages.count) same ∙ c.self.view_is,
    )

pub invariant_of-self-in-Ok : goal.invariant_of-self-in-Ok
invariant_of-self-in-Ok g c =
    let w = c.self.inside in
    let after = finished_one _ _ _ _ _ _ _ _ _ c.entry.ensures c.in-Ok.ensures.step c.self.invariant.0 in (
      subst (λ n. IsInOrder g.O.Opening.origin (locked_state c.finish.new.self w.owner.sent w.rung.entries n w.shortages.count)) (sym c.add.ensures.total) after.0,
      c.self.invariant.1,
    )

pub returns-in-Ok-clause-gone : goal.returns-in-Ok-clause-gone
returns-in-Ok-clause-gone g c =
    let after = finished_one _ _ _ _ _ _ _ _ _ c.entry.ensures c.in-Ok.ensures.step c.self.invariant.0 in
    subst (λ (s : LockedState). LetsGo s.world c.finish.new.self c.args.duty.entry) c.self.view_is after.1
