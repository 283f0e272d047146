use Rattle.std.proofs.Common.{arith}
use Rattle.fz_pass.proofs.Keyed.{len_within, still_has}
use Rattle.fz_pass.proofs.ephemerons.Ephemerons.clear_long.Goals as goal

pub invariant_of-self : goal.invariant_of-self
invariant_of-self g c =
    let e = c.self.inside in
    still_has _ e.short.links c.drop_dead.new.links.links e.waiting.items e.rest.items _ _ (omega arith) (len_within e.long.links c.drop_dead.new.links.links _ c.drop_dead.ensures) c.self.invariant
