use Rattle.std.proofs.Common.{arith}
use Rattle.fz_pass.proofs.Keyed.{len_within, still_has}
use Rattle.fz_pass.proofs.ephemerons.Ephemerons.clear_short.Goals as goal

pub invariant_of-self : goal.invariant_of-self
invariant_of-self g c =
    let e = c.self.inside in
    still_has _ c.drop_dead.new.links.links e.long.links e.waiting.items e.rest.items _ _ (len_within e.short.links c.drop_dead.new.links.links _ c.drop_dead.ensures) (omega arith) c.self.invariant
