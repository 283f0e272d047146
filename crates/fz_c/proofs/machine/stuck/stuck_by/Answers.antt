use Rattle.std.proofs.Common.{◌≡◌, ◌∙◌, Option, Some, None, MatchOption, true≢false, false, is_some, refl, sym, subst}
use Rattle.fz_finalizers.specs.States.{View}
use Rattle.fz_finalizers.specs.Walks.{registrations_in_order}
use Rattle.fz_why.specs.Copies.{AreStuckIn}
use Rattle.fz_why.specs.Snapshot.{HasAll, objects_of}
use Rattle.fz_c.proofs.machine.stuck.stuck_by.Goals as goal

none_of : {X : Type 0} (o : Option X) → is_some o ≡ false → o ≡ None
none_of None is = refl
none_of (Some x) is = absurd (true≢false is)

pub returns-in-Ok : goal.returns-in-Ok
returns-in-Ok c =
    let copy = c.args.snapshot.now in (
      none_of c.args.machine.now.phase (sym c.is_open.ensures ∙ c.if-is_open.false),
      subst (λ (v : View). MatchOption c.in-Ok.objects (HasAll (objects_of copy.cells) v.state → ⊥) (λ listed. AreStuckIn copy v.state (registrations_in_order v) listed.items)) c.finalizers.ensures c.in-Ok.ensures.listed,
    )
