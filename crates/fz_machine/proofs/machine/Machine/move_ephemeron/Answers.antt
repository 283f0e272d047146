use Rattle.std.proofs.Common.{[], ap, ◌∙◌}
use Rattle.fz_machine.specs.Causes.{first_of}
use Rattle.fz_machine.specs.Machines.{Machine}
use Rattle.fz_machine.proofs.Remaining.{calm, idle_rooms, moved_rows_less, unopened}
use Rattle.fz_machine.proofs.Rooms.{moved_rooms}
use Rattle.fz_machine.proofs.machine.Machine.move_ephemeron.Goals as goal

pub invariant_of-self : goal.invariant_of-self
invariant_of-self c =
    let s = c.self.inside.finalizers.state in
    let walk = c.self.inside.walk in
    let idle = unopened c.self.inside.phase [] (ap (λ (m : Machine). first_of m.phase []) c.self.view_is ∙ c.in_ok-check.ensures) in
    let rooms = idle_rooms s walk c.self.inside.tables.items c.self.inside.phase c.self.inside.asked c.self.invariant idle in
    let t = c.move_ephemeron.new.self.state in
    calm s walk c.self.inside.tables.items c.self.inside.phase c.self.inside.asked c.self.invariant idle
    t walk (moved_rooms s walk c.args.word c.args.to t c.move_ephemeron.result c.move_ephemeron.ensures.refused c.move_ephemeron.ensures.follows rooms)
    (moved_rows_less s c.args.word c.args.to t c.move_ephemeron.result c.move_ephemeron.ensures.refused c.move_ephemeron.ensures.follows)
