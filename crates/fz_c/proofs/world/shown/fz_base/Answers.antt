-- The session is looked at, and the handle gets it back.
use Rattle.fz_c.proofs.Looking.{finds}
use Rattle.fz_c.proofs.world.shown.fz_base.Goals as goal

pub returns : goal.returns
returns c = finds _ _ _ _ c.in-Some.it.value c.deref.result.now c.object_of-reply.result c.deref.ensures c.in-Some.ensures.taken c.put.ensures (c.object_of-reply.ensures.start, c.object_of-reply.ensures.object) c.tell_object.ensures
