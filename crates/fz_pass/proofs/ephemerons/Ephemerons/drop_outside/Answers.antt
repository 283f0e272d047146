use Rattle.fz_pass.proofs.Keyed.{len_within, still_has}
use Rattle.fz_pass.proofs.ephemerons.Ephemerons.drop_outside.Goals as goal

pub invariant_of-self : goal.invariant_of-self
invariant_of-self g c =
    let e = c.self.inside in
    still_has _ c.drop_outside.new.links.links c.drop_outside-2.new.links.links e.waiting.items e.rest.items _ _
    (len_within e.short.links c.drop_outside.new.links.links _ c.drop_outside.ensures) (len_within e.long.links c.drop_outside-2.new.links.links _ c.drop_outside-2.ensures) c.self.invariant
