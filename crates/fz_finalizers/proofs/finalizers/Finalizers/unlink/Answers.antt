use Rattle.std.proofs.Common.{ap, arith}
use Rattle.std.specs.FinMap.{len}
use Rattle.fz_finalizers.specs.States.{View}
use Rattle.fz_finalizers.proofs.Counting.{len_less}
use Rattle.fz_finalizers.proofs.Roomy.{long_kept, short_kept}
use Rattle.fz_finalizers.proofs.finalizers.Finalizers.unlink.Goals as goal

pub invariant_of-self : goal.invariant_of-self
invariant_of-self c =
    let moves = c.self.invariant.1 in
    let less = len_less c.self.inside.short.links c.args.word in
    let same = ap len c.unregister.ensures.removed in
    (c.self.invariant.0, record { none = moves.none; few_short = omega (arith, less, same, moves.few_short); few_long = moves.few_long })

pub invariant_of-self-in-Long : goal.invariant_of-self-in-Long
invariant_of-self-in-Long c =
    let moves = c.self.invariant.1 in
    let less = len_less c.self.inside.long.links c.args.word in
    let same = ap len c.unregister-in-Long.ensures.removed in
    (c.self.invariant.0, record { none = moves.none; few_short = moves.few_short; few_long = omega (arith, less, same, moves.few_long) })

pub returns-in-Short-clause-room : goal.returns-in-Short-clause-room
returns-in-Short-clause-room c =
    let i = c.self.inside in
    let less = len_less i.short.links c.args.word in
    let count = ap len c.unregister.ensures.removed in
    short_kept i c.args.self.now.rooms (ap (λ (v : View). v.rooms) c.self.view_is) c.unregister.new.self c.unregister.ensures.room (omega (arith, less, count))

pub returns-in-Long-clause-room : goal.returns-in-Long-clause-room
returns-in-Long-clause-room c =
    let i = c.self.inside in
    let less = len_less i.long.links c.args.word in
    let count = ap len c.unregister-in-Long.ensures.removed in
    long_kept i c.args.self.now.rooms (ap (λ (v : View). v.rooms) c.self.view_is) c.unregister-in-Long.new.self c.unregister-in-Long.ensures.room (omega (arith, less, count))
