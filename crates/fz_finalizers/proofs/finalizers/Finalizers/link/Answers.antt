use Rattle.std.proofs.Common.{◌*◌, ap, arith}
use Rattle.std.specs.Prelude.{vec_capacity}
use Rattle.fz_finalizers.specs.States.{View}
use Rattle.fz_finalizers.proofs.Roomy.{long_room, short_room}
use Rattle.fz_finalizers.proofs.finalizers.Finalizers.link.Goals as goal

pub returns-in-Short-clause-room : goal.returns-in-Short-clause-room
returns-in-Short-clause-room c =
    let i = c.self.inside in
    let e = c.link.ensures in
    rw c.in-Short.is
    (short_room i c.args.self.now.rooms (ap (λ (v : View). v.rooms) c.self.view_is) c.link.new.links (2 * vec_capacity c.link.new.moves) c.args.word c.args.target c.link.result
    (omega (arith, e.kept)) e.roomier e.spared e.unchanged e.linked)

pub returns-in-Long-clause-room : goal.returns-in-Long-clause-room
returns-in-Long-clause-room c =
    let i = c.self.inside in
    let e = c.link-in-Long.ensures in
    rw c.in-Long.is
    (long_room i c.args.self.now.rooms (ap (λ (v : View). v.rooms) c.self.view_is) c.link-in-Long.new.links (2 * vec_capacity c.link-in-Long.new.moves) c.args.word c.args.target c.link-in-Long.result
    (omega (arith, e.kept)) e.roomier e.spared e.unchanged e.linked)
