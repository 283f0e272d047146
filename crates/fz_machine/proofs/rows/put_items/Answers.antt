use Rattle.std.proofs.Common.{◌∙◌, length, take, ap, arith}
use Rattle.std.proofs.lemmas.List.{length-append, length-take-le}
use Rattle.fz_machine.proofs.rows.put_items.Goals as goal

pub put-requires : goal.put-requires
put-requires c =
    let i = c.loop-item.item-index in
    let long = ap length c.loop-item.invariant.listed ∙ length-append c.args.items.now.items (take i c.args.from.now) in
    let test = c.loop-item-test.true in
    let part = length-take-le i c.args.from.now (omega (arith, test)) in
    let grown = c.loop-item.invariant.grown in
    let room = c.requires.room in
    let ok = c.loop-item.items.ok.0 in
    let was = c.args.items.now.ok.0 in
    record { room = omega (arith, long, part, test, grown, room, ok, was) }
