use Rattle.std.proofs.Common.{ap, refl, sym}
use Rattle.fz_service.specs.States.{LockedState}
use Rattle.fz_service.proofs.Keeps.{ran}
use Rattle.fz_service.proofs.locked.Locked.with_world.Goals as goal

pub invariant_of-self : goal.invariant_of-self
invariant_of-self g c =
    let runs = c.requires.calls _ _ _ (record { shown = _; shows = refl; left = _; met = c.work-answer.ensures; leaves = refl }) in
    (ran _ _ _ _ _ _ _ runs c.self.invariant.0, c.self.invariant.1)

pub returns-clause-answer : goal.returns-clause-answer
returns-clause-answer g c = record {
  shown = _;
  shows = ap (λ (s : LockedState). s.world) c.self.view_is;
  left = _;
  met = c.work-answer.ensures;
  leaves = sym (ap (λ (s : LockedState). s.world) c.publish.ensures.sent);
}

pub returns-clause-calls : goal.returns-clause-calls
returns-clause-calls g c = c.requires.calls _ _ _ (record {
  shown = _;
  shows = ap (λ (s : LockedState). s.world) c.self.view_is;
  left = _;
  met = c.work-answer.ensures;
  leaves = sym (ap (λ (s : LockedState). s.world) c.publish.ensures.sent);
})
