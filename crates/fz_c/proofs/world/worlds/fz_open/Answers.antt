-- A handle that has a session keeps it.
use Rattle.fz_c.proofs.Opening.{has_world, opens}
use Rattle.fz_c.proofs.world.worlds.fz_open.Goals as goal

pub returns-in-Some : goal.returns-in-Some
returns-in-Some c = has_world _ _ c.in-Some.session.value c.in-Some.ensures.taken c.put.ensures

pub returns-in-None : goal.returns-in-None
returns-in-None c = opens _ _ c.in-None.ensures.taken c.open_into.ensures
