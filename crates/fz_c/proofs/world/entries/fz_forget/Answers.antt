-- The session's world forgets, and the handle gets the session back.
use Rattle.std.proofs.Common.{refl}
use Rattle.fz_c.proofs.Told.{none_taken}
use Rattle.fz_c.proofs.Forgetting.{not_forgot, forgot}
use Rattle.fz_c.proofs.world.entries.fz_forget.Goals as goal

pub returns-in_default : goal.returns-in_default
returns-in_default c = not_forgot _ _ (none_taken _ c.in_default.is c.take.ensures.taken) c.take.ensures.empty refl

pub returns : goal.returns
returns c =
    let did = c.forget-reply.ensures in
    forgot _ _ _ _ _ c.deref_mut.ensures.value c.in-Some.ensures.taken c.put.ensures (record { same = did.same; taken = refl; stands = did.stands; few = did.few; freed = did.freed; ok = refl })
