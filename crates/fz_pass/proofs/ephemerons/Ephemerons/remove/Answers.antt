use Rattle.std.proofs.Common.{ap, arith}
use Rattle.std.specs.FinMap.{len}
use Rattle.fz_pass.proofs.Keyed.{removed_few, still_has}
use Rattle.fz_pass.proofs.ephemerons.Ephemerons.remove.Goals as goal

pub invariant_of-self : goal.invariant_of-self
invariant_of-self c =
    let e = c.self.inside in
    still_has _ c.unregister.new.self.links c.unregister-2.new.self.links e.waiting.items e.rest.items _ _
    (let same = ap len c.unregister.ensures.removed in let few = removed_few e.short.links c.args.word in omega (arith, same, few))
    (let same = ap len c.unregister-2.ensures.removed in let few = removed_few e.long.links c.args.word in omega (arith, same, few)) c.self.invariant
