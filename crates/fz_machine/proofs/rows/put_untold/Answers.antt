use Rattle.std.proofs.Common.{◌∙◌, length, take, ap, arith}
use Rattle.std.proofs.lemmas.List.{length-append}
use Rattle.fz_machine.specs.Off.{untold}
use Rattle.fz_machine.proofs.Index.{may_put_row}
use Rattle.fz_machine.proofs.rows.put_untold.Goals as goal

pub put_row-requires : goal.put_row-requires
put_row-requires c =
    let i = c.loop-row.row-index in
    let long = ap length c.loop-row.invariant.listed ∙ length-append c.args.items.now.items (untold (take i c.args.index.now)) in
    let grown = c.loop-row.invariant.grown in
    let room = c.requires.room in
    let ok = c.loop-row.items.ok.0 in
    let was = c.args.items.now.ok.0 in
    record { room = may_put_row c.args.index.now i _ c.loop-row-test.true _ _ (length c.args.items.now.items) (omega (arith, long, ok)) (omega (arith, grown, room, was)) }
