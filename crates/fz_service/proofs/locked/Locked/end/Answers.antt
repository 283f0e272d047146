use Rattle.std.proofs.Common.{◌≡◌, refl, ap, ◌∙◌, inl, inr}
use Rattle.fz_line.specs.States.{OwnerState}
use Rattle.fz_service.proofs.Ends.{each_once, not_once}
use Rattle.fz_service.proofs.locked.Locked.end.Goals as goal

pub returns-then-not-is_each_once-clause-refused : goal.returns-then-not-is_each_once-clause-refused
returns-then-not-is_each_once-clause-refused g c =
    let owner = c.seats.ensures ∙ ap (λ (o : OwnerState). o.seats) c.self.invariant.1.owner_is in
    inl (c.of.ensures, not_once _ _ _ _ _ owner c.as_slice.ensures.value c.if-not-is_each_once.true c.is_each_once.ensures.1)

pub returns-in-Ok-clause-ended : goal.returns-in-Ok-clause-ended
returns-in-Ok-clause-ended g c =
    let owner = c.seats.ensures ∙ ap (λ (o : OwnerState). o.seats) c.self.invariant.1.owner_is in
    (c.settle.ensures, each_once _ _ _ _ _ owner c.as_slice.ensures.value c.if-not-is_each_once.false c.is_each_once.ensures.0)

pub returns-in-Err-clause-refused : goal.returns-in-Err-clause-refused
returns-in-Err-clause-refused g c =
    let owner = c.seats.ensures ∙ ap (λ (o : OwnerState). o.seats) c.self.invariant.1.owner_is in
    inr (c.from.ensures, each_once _ _ _ _ _ owner c.as_slice.ensures.value c.if-not-is_each_once.false c.is_each_once.ensures.0)
