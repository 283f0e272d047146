-- The handle gets the new session, or stays as it is.
use Rattle.fz_c.proofs.Opening.{opened, refused}
use Rattle.fz_c.proofs.world.worlds.open_into.Goals as goal

pub returns-in-Ok : goal.returns-in-Ok
returns-in-Ok c = opened _ _ c.in-Ok.session.value c.put.ensures c.in-Ok.ensures.opened

pub returns-in-Err : goal.returns-in-Err
returns-in-Err c = refused _ _ c.in-Err.refusal c.requires c.code.ensures c.in-Err.ensures.judged
