-- The session hands out its next entry, and the handle gets it back.
use Rattle.std.proofs.Common.{refl}
use Rattle.fz_c.proofs.Told.{none_taken}
use Rattle.fz_c.proofs.Taking.{not_taken, taken}
use Rattle.fz_c.proofs.world.entries.fz_take.Goals as goal

pub returns-in_default : goal.returns-in_default
returns-in_default c = not_taken _ _ (none_taken _ c.in_default.is c.take.ensures.taken) c.take.ensures.empty refl

pub returns : goal.returns
returns c = taken _ _ _ _ _ _ _ c.deref_mut.ensures.value c.in-Some.ensures.taken c.put.ensures c.next-reply.ensures.world c.next-reply.ensures.next c.tell_entry.ensures
