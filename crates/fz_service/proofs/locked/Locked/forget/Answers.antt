-- All entries were sent, and the rest stays in order.
use Rattle.std.proofs.Common.{arith}
use Rattle.fz_service.proofs.Keeps.{forgot}
use Rattle.fz_service.proofs.locked.Locked.forget.Goals as goal

pub invariant_of-self : goal.invariant_of-self
invariant_of-self g c =
    let e = c.forget.ensures in
    let all = c.queued.ensures in
    let sent = c.if-self-queued.false in
    (forgot _ _ _ _ _ _ _ e.same e.stands e.forgotten (omega (arith, all, sent)) c.self.invariant.0, c.self.invariant.1)
