use Rattle.std.proofs.Common.{[], false, refl, sym, subst, ap, ◌∙◌}
use Rattle.fz_finalizers.specs.States.{State}
use Rattle.fz_machine.specs.Causes.{first_of}
use Rattle.fz_machine.specs.Going.{HaveRoom}
use Rattle.fz_machine.specs.Machines.{Machine}
use Rattle.fz_machine.proofs.Less.{IsLess, tables_less}
use Rattle.fz_machine.proofs.Remaining.{calm, idle_rooms, unopened}
use Rattle.fz_machine.proofs.Rooms.{ended_rooms}
use Rattle.fz_machine.proofs.machine.Machine.end_ephemeron.Goals as goal

pub invariant_of-self : goal.invariant_of-self
invariant_of-self c =
    let s = c.self.inside.finalizers.state in
    let walk = c.self.inside.walk in
    let idle = unopened c.self.inside.phase [] (ap (λ (m : Machine). first_of m.phase []) c.self.view_is ∙ c.in_ok-check.ensures) in
    let rooms = idle_rooms s walk c.self.inside.tables.items c.self.inside.phase c.self.inside.asked c.self.invariant idle in
    let t = c.end_ephemeron.new.self.state in
    calm s walk c.self.inside.tables.items c.self.inside.phase c.self.inside.asked c.self.invariant idle
    t walk (subst (λ (u : State). HaveRoom false u walk) (sym c.end_ephemeron.ensures.follows) (ended_rooms s walk c.args.word rooms))
    (subst (IsLess s) (sym c.end_ephemeron.ensures.follows) (tables_less s _ refl refl refl refl))
