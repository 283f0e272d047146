-- The second try follows a collection, or the refusal of one. A refused call left the world as it was.
use Rattle.std.proofs.Common.{Ok, Err, refl, subst, ap}
use Rattle.fz_model.specs.declared.call.Call.TheVariants.{Alloc, Collect}
use Rattle.fz_model.specs.declared.call.Reply.TheVariants.{Passed}
use Rattle.fz_model.specs.Places.{slot_at}
use Rattle.fz_world.specs.World.{WorldView}
use Rattle.fz_world.specs.Replies.{Replies}
use Rattle.fz_world.specs.Retried.{NotCollected, Twice}
use Rattle.fz_world.proofs.Replying.{made, refused}
use Rattle.fz_world.proofs.world.World.alloc_or_collect.Goals as goal

pub returns-in-Err : goal.returns-in-Err
returns-in-Err g c =
    let call = Alloc (slot_at c.args.frame c.args.slot) c.args.size c.args.kind in
    let a = c.in-Err-NoSpace.ensures in
    let e = c.in-Err.ensures in
    let tried = refused _ _ call _ _ (ap Err c.in-Err-NoSpace.field-0-is) a.step a.refused a.caused in
    let collected = made _ _ Collect (Err c.in-Err.refusal) e.step e.refused e.caused tt in
    NotCollected c.in-Err.refusal tried (subst (λ (w : WorldView). Replies w Collect (Err c.in-Err.refusal) c.collect.new.self) a.refused collected) refl

pub returns : goal.returns
returns g c =
    let call = Alloc (slot_at c.args.frame c.args.slot) c.args.size c.args.kind in
    let a = c.in-Err-NoSpace.ensures in
    let o = c.in_default-collect.ensures in
    let b = c.alloc-2.ensures in
    let tried = refused _ _ call _ _ (ap Err c.in-Err-NoSpace.field-0-is) a.step a.refused a.caused in
    let collected = made _ _ Collect (Ok c.in_default-collect.field-0) o.step tt o.caused (record { few = o.few; noted = o.noted }) in
    let passed = Passed c.in_default-collect.field-0 in
    Twice _ _ passed tried (subst (λ (w : WorldView). Replies w Collect (Ok passed) c.collect.new.self) a.refused collected)
    (record { shown = _; shows = refl; left = _; met = c.work.ensures; leaves = refl }) (made _ _ call c.alloc-2.result b.step b.refused b.caused b.marks)
