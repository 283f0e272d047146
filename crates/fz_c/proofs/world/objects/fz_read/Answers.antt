-- The session is looked at, and the handle gets it back.
use Rattle.fz_c.proofs.Looking.{reads}
use Rattle.fz_c.proofs.world.objects.fz_read.Goals as goal

pub returns : goal.returns
returns c = reads _ _ _ _ c.in-Some.it.value c.deref.result.now c.read-reply.result c.deref.ensures c.in-Some.ensures.taken c.put.ensures (c.read-reply.ensures.judged, c.read-reply.ensures.read) c.tell_word.ensures
