-- The session is looked at, and the handle gets it back.
use Rattle.fz_c.proofs.Looking.{finds}
use Rattle.fz_c.proofs.world.shown.fz_queued.Goals as goal

pub returns : goal.returns
returns c = finds _ _ _ _ c.in-Some.it.value c.deref.result.now c.queued-reply.result c.deref.ensures c.in-Some.ensures.taken c.put.ensures c.queued-reply.ensures c.tell_entry.ensures
