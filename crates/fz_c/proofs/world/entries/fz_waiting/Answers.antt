-- The session tells whether it has a next entry, and the handle gets it back.
use Rattle.std.proofs.Common.{refl}
use Rattle.fz_c.proofs.Told.{none_taken}
use Rattle.fz_c.proofs.Taking.{not_waited, waited}
use Rattle.fz_c.proofs.world.entries.fz_waiting.Goals as goal

pub returns-in_default : goal.returns-in_default
returns-in_default c = not_waited _ _ (none_taken _ c.in_default.is c.take.ensures.taken) c.take.ensures.empty refl

pub returns : goal.returns
returns c = waited _ _ _ _ _ c.deref_mut.ensures.value c.in-Some.ensures.taken c.put.ensures c.is_waiting-reply.ensures.world c.is_waiting-reply.ensures.next c.is_waiting-reply.ensures.waiting
