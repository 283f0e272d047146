use Rattle.std.proofs.Common.{◌<◌, ◌∙◌, length, arith}
use Rattle.std.proofs.lemmas.List.{length-set}
use Rattle.fz_machine.proofs.Gathered.{item_at, one_more}
use Rattle.fz_machine.proofs.going_on.gather.Goals as goal

pub loop-count-preserved : goal.loop-count-preserved
loop-count-preserved c =
    let lt = c.loop-count-test.true in
    let long = c.loop-count.invariant.long in
    let room : c.loop-count.count < length c.loop-count.about = omega (arith, lt, long) in
    let at = item_at c.args.left.now c.loop-count.count c.in-Some.item.now c.in-Some.ensures.lookup.0 c.in-Some.ensures.lookup.1 in
    let more = one_more c.args.phase c.args.ask c.args.left.now c.loop-count.count c.in-Some.item.now at (c.asks_same.ensures.same c.if-not-asks_same.false) c.loop-count.about c.subject.result c.subject.ensures room c.loop-count.invariant.alike c.loop-count.invariant.about in
    record { few = (omega (arith, lt), more.0); alike = more.1; long = length-set c.loop-count.about c.loop-count.count c.subject.result ∙ long; about = more.2 }
