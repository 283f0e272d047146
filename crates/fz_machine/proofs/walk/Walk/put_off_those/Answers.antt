use Rattle.std.proofs.Common.{◌≡◌, ◌∙◌, ◌-◌, ◌++◌, length, min, take, ap, arith}
use Rattle.fz_machine.specs.Asks.{bits_of}
use Rattle.fz_machine.specs.Sifts.{chosen}
use Rattle.fz_machine.specs.Walks.{Walk}
use Rattle.fz_machine.proofs.Masked.{chosen_left}
use Rattle.fz_machine.proofs.walk.Walk.put_off_those.Goals as goal

pub returns-clause-off : goal.returns-clause-off
returns-clause-off c =
    let i = c.self.inside in
    let off = i.rows.off in
    let is = c.min-few.ensures in
    let count = c.len.ensures in
    let long = i.items.ok.0 in
    let few : c.min-few.result ≡ min c.args.count (length i.items.items - i.place) = omega (arith, is, count, long) in
    c.put_off_those.ensures.off
    ∙ ap (λ xs. record off { stuck = off.stuck ++ xs }) (chosen_left c.args.bits c.args.count c.min-few.result i.place i.items.items c.deref.result.now c.deref.ensures.value few)
    ∙ ap (λ (w : Walk). record w.off { stuck = w.off.stuck ++ chosen (take c.args.count (bits_of c.args.bits)) w.left }) c.self.view_is
