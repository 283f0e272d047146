-- The second try follows a collection, or the refusal of one. A refused call left all as it was.
use Rattle.std.proofs.Common.{Ok, Err, true≢false, refl, sym, ap, subst}
use Rattle.fz_model.specs.declared.call.Call.TheVariants.{Alloc, Collect}
use Rattle.fz_model.specs.declared.call.Reply.TheVariants.{Passed}
use Rattle.fz_model.specs.Places.{slot_at}
use Rattle.fz_world.specs.Retried.{NotCollected, Twice}
use Rattle.fz_service.specs.States.{LockedState, RepliesAndSends}
use Rattle.fz_service.proofs.Retried.{sends, leaves}
use Rattle.fz_service.proofs.locked.Locked.alloc_or_collect.Goals as goal

pub returns-in-Err : goal.returns-in-Err
returns-in-Err g c =
    let origin = g.O.Opening.origin in
    let call = Alloc (slot_at c.args.frame c.args.slot) c.args.size c.args.kind in
    let a = c.in-Err-NoSpace.ensures in
    let e = c.in-Err.ensures in
    let tried = leaves origin _ _ call _ _ (ap Err c.in-Err-NoSpace.field-0-is) a.step a.refused a.caused in
    let collected = sends origin _ _ Collect (Err c.in-Err.refusal) e.step e.refused e.caused tt (λ no. absurd (true≢false no)) (λ _. tt) in
    record { tried = NotCollected c.in-Err.refusal tried (subst (λ (s : LockedState). RepliesAndSends origin s Collect (Err c.in-Err.refusal) c.collect.new.self) a.refused collected) refl }

pub returns : goal.returns
returns g c =
    let origin = g.O.Opening.origin in
    let call = Alloc (slot_at c.args.frame c.args.slot) c.args.size c.args.kind in
    let a = c.in-Err-NoSpace.ensures in
    let o = c.in_default-collect.ensures in
    let b = c.alloc-2.ensures in
    let tried = leaves origin _ _ call _ _ (ap Err c.in-Err-NoSpace.field-0-is) a.step a.refused a.caused in
    let collected = sends origin _ _ Collect (Ok c.in_default-collect.field-0) o.step tt o.caused (record { few = o.few; noted = o.noted }) (λ no. absurd (true≢false no)) (λ _. o.sent) in
    let passed = Passed c.in_default-collect.field-0 in
    let second = sends origin _ _ call c.alloc-2.result b.step b.refused b.caused b.marks (λ _. b.line) (λ is. absurd (true≢false (sym is))) in
    record { tried = Twice _ _ passed tried (subst (λ (s : LockedState). RepliesAndSends origin s Collect (Ok passed) c.collect.new.self) a.refused collected) refl second }
