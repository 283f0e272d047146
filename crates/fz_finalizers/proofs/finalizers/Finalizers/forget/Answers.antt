use Rattle.std.proofs.Common.{◌+◌, ◌-◌, ◌*◌, refl, subst, arith}
use Rattle.std.specs.Prelude.{vec_capacity}
use Rattle.std.specs.FinMap.{len}
use Rattle.fz_finalizers.specs.Fits.{rooms_of}
use Rattle.fz_finalizers.specs.States.{View, KeepsEntries}
use Rattle.fz_finalizers.proofs.Roomy.{entries_left, rooms_in}
use Rattle.fz_finalizers.proofs.finalizers.Finalizers.forget.Goals as goal

pub returns-clause-room : goal.returns-clause-room
returns-clause-room c =
    let i = c.self.inside in
    let new = rooms_of i.table i.short i.long i.cleanups c.forget_to.new.self (2 * vec_capacity i.moves) in
    subst (λ (v : View). KeepsEntries (c.args.room - (len v.registrations + len v.cleanups)) v.rooms new) c.self.view_is
    (entries_left i (rooms_in i) refl c.args.room c.max.result c.forget_to.new.self (omega (arith, c.max.ensures)) c.forget_to.ensures.room)
