use Rattle.std.proofs.Common.{[], true, sym, subst}
use Rattle.fz_machine.specs.declared.phase.Phase.TheVariants.{Keys}
use Rattle.fz_machine.specs.Going.{HasRoomOff, HaveRoom}
use Rattle.fz_machine.specs.Off.{all_off}
use Rattle.fz_machine.specs.Phases.{Lists}
use Rattle.fz_machine.specs.Walks.{Walk}
use Rattle.fz_machine.proofs.Beside.{begun_room, begun_room_off}
use Rattle.fz_machine.proofs.listing.walk_rows.Goals as goal

pub returns-clause-listed : goal.returns-clause-listed
returns-clause-listed c = λ from.
    let s = c.args.finalizers.now.state in
    subst (λ (w : Walk). Lists (Keys c.args.moment) from [] s (all_off c.args.walk.now.off) w.left) (sym c.forget.ensures)
    (subst (λ (w : Walk). Lists (Keys c.args.moment) from [] s (all_off w.off) c.list_rows.new.walk.left) c.set_aside.ensures (c.list_rows.ensures.listed from))

pub returns-clause-room : goal.returns-clause-room
returns-clause-room c =
    let s = c.args.finalizers.now.state in
    subst (HaveRoom true s) (sym c.forget.ensures) (begun_room s c.args.walk.now c.set_aside.new.self c.list_rows.new.walk c.set_aside.ensures c.list_rows.ensures.others c.requires.room c.requires.off c.list_rows.ensures.few)

pub returns-clause-off : goal.returns-clause-off
returns-clause-off c =
    let s = c.args.finalizers.now.state in
    subst (HasRoomOff true) (sym c.forget.ensures) (begun_room_off s c.args.walk.now c.set_aside.new.self c.list_rows.new.walk c.set_aside.ensures c.list_rows.ensures.others c.requires.room c.requires.off c.list_rows.ensures.few)
