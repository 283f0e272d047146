use Rattle.std.proofs.Common.{[], ap, ◌∙◌}
use Rattle.fz_machine.specs.Causes.{first_of}
use Rattle.fz_machine.specs.Machines.{Machine}
use Rattle.fz_machine.proofs.Less.{emptied_less}
use Rattle.fz_machine.proofs.Remaining.{calm, idle_rooms, unopened}
use Rattle.fz_machine.proofs.Rooms.{emptied, rooms_same}
use Rattle.fz_machine.proofs.machine.Machine.queue_all.Goals as goal

pub invariant_of-self : goal.invariant_of-self
invariant_of-self c =
    let s = c.self.inside.finalizers.state in
    let walk = c.self.inside.walk in
    let idle = unopened c.self.inside.phase [] (ap (λ (m : Machine). first_of m.phase []) c.self.view_is ∙ c.in_ok-check.ensures) in
    let rooms = idle_rooms s walk c.self.inside.tables.items c.self.inside.phase c.self.inside.asked c.self.invariant idle in
    let room = (let does = c.queue_all.ensures.follows in emptied s c.self.inside.walk.room rooms.main c.queue_all.new.self.state does.1 does.3 does.4 does.0.cleanups does.6) in
    calm s c.self.inside.walk c.self.inside.tables.items c.self.inside.phase c.self.inside.asked c.self.invariant idle
    c.queue_all.new.self.state walk (rooms_same s walk rooms c.queue_all.new.self.state room c.queue_all.ensures.follows.6)
    (let does = c.queue_all.ensures.follows in emptied_less s c.queue_all.new.self.state does.1 does.3 does.4 does.0.cleanups)
