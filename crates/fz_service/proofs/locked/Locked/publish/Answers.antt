use Rattle.std.proofs.Common.{◌+◌, ap, sym, subst, arith}
use Rattle.fz_line.specs.States.{OwnerState}
use Rattle.fz_service.specs.States.{locked_state, IsInOrder}
use Rattle.fz_service.proofs.Keeps.{sent_count, outbox_count, outbox_numbered, published_more, sent_more}
use Rattle.fz_service.proofs.locked.Locked.publish.Goals as goal

pub publish-count-requires-clause-numbers : goal.publish-count-requires-clause-numbers
publish-count-requires-clause-numbers g c = outbox_numbered _ _ _ _ _ _ c.self.invariant.0 _ c.queue_from-outbox.ensures.queue

pub publish-count-requires-clause-limit : goal.publish-count-requires-clause-limit
publish-count-requires-clause-limit g c =
    let all = outbox_count _ _ _ _ _ _ c.self.invariant.0 _ c.queue_from-outbox.ensures.queue in
    let few = c.queue_from-outbox.ensures.few in
    omega (arith, all, few)

pub overflow_add-sent : goal.overflow_add-sent
overflow_add-sent g c =
    let all = outbox_count _ _ _ _ _ _ c.self.invariant.0 _ c.queue_from-outbox.ensures.queue in
    let sent = sent_count _ _ _ _ _ _ c.self.invariant.0 in
    let few = c.queue_from-outbox.ensures.few in
    let count = c.publish-count.ensures.within in
    omega (arith, all, sent, few, count)

pub invariant_of-self : goal.invariant_of-self
invariant_of-self g c =
    let w = c.self.inside in
    let rest = c.queue_from-outbox.ensures.queue in
    let sent = ap (λ (o : OwnerState). o.sent) c.publish-count.ensures.sent in
    let ready = c.self.invariant.1 in (
      subst (λ n. IsInOrder g.O.Opening.origin (locked_state w.world c.publish-count.new.self.sent n w.book.total c.note.new.self.count)) (sym c.ring.ensures)
          (subst (λ es. IsInOrder g.O.Opening.origin (locked_state w.world es (w.rung.entries + c.publish-count.result.0) w.book.total c.note.new.self.count)) (sym sent) (published_more _ _ _ _ _ _ c.self.invariant.0 _ _ _ rest c.publish-count.ensures.within)),
      sent_more _ _ _ _ _ _ ready c.publish-count.ensures.sent,
    )
