-- The session is looked at, and the handle gets it back.
use Rattle.fz_c.proofs.Looking.{finds}
use Rattle.fz_c.proofs.world.shown.fz_next_registration.Goals as goal

pub returns : goal.returns
returns c = finds _ _ _ _ c.in-Some.it.value c.deref.result.now c.next_registration-reply.result c.deref.ensures c.in-Some.ensures.taken c.put.ensures (c.next_registration-reply.ensures.first, c.next_registration-reply.ensures.registration) c.tell_registration.ensures
