-- The session is looked at, and the handle gets it back.
use Rattle.fz_c.proofs.Looking.{reads}
use Rattle.fz_c.proofs.world.slots.fz_get.Goals as goal

pub returns : goal.returns
returns c = reads _ _ _ _ c.in-Some.it.value c.deref.result.now c.slot-reply.result c.deref.ensures c.in-Some.ensures.taken c.put.ensures (c.slot-reply.ensures.judged, c.slot-reply.ensures.word) c.tell_word.ensures
