-- The session is looked at, and the handle gets it back.
use Rattle.std.proofs.Common.{refl}
use Rattle.fz_c.proofs.Looking.{looked}
use Rattle.fz_c.proofs.world.shown.fz_count.Goals as goal

pub returns : goal.returns
returns c = looked _ _ _ c.in-Some.it.value c.deref.result.now c.deref.ensures c.in-Some.ensures.taken c.put.ensures (refl, c.counts-reply.ensures)
