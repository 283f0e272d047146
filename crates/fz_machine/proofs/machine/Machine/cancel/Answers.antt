use Rattle.std.proofs.Common.{[], sym, subst, ap, ◌∙◌}
use Rattle.fz_finalizers.specs.States.{State}
use Rattle.fz_machine.specs.Going.{HasRoom}
use Rattle.fz_machine.specs.Causes.{first_of}
use Rattle.fz_machine.specs.Machines.{Machine}
use Rattle.fz_machine.proofs.Less.{IsLess, cancelled_less}
use Rattle.fz_machine.proofs.Remaining.{calm, idle_rooms, unopened}
use Rattle.fz_machine.proofs.Rooms.{cancelled, rooms_same}
use Rattle.fz_machine.proofs.machine.Machine.cancel.Goals as goal

pub invariant_of-self : goal.invariant_of-self
invariant_of-self c =
    let s = c.self.inside.finalizers.state in
    let walk = c.self.inside.walk in
    let idle = unopened c.self.inside.phase [] (ap (λ (m : Machine). first_of m.phase []) c.self.view_is ∙ c.in_ok-check.ensures) in
    let rooms = idle_rooms s walk c.self.inside.tables.items c.self.inside.phase c.self.inside.asked c.self.invariant idle in
    let room = subst (λ (t : State). HasRoom t c.self.inside.walk.room) (sym c.cancel.ensures.follows) (cancelled s c.self.inside.walk.room rooms.main c.args.number) in
    calm s c.self.inside.walk c.self.inside.tables.items c.self.inside.phase c.self.inside.asked c.self.invariant idle
    c.cancel.new.self.state walk (rooms_same s walk rooms c.cancel.new.self.state room (ap (λ (t : State). t.ephemerons) c.cancel.ensures.follows))
    (subst (IsLess s) (sym c.cancel.ensures.follows) (cancelled_less s c.args.number))
