use Rattle.std.proofs.Common.{[], subst, ap, ◌∙◌}
use Rattle.fz_finalizers.specs.Passed.{CleansAll}
use Rattle.fz_finalizers.specs.States.{State}
use Rattle.fz_machine.specs.Causes.{first_of}
use Rattle.fz_machine.specs.Machines.{Machine}
use Rattle.fz_machine.proofs.Less.{all_cleaned_less}
use Rattle.fz_machine.proofs.Remaining.{calm, idle_rooms, unopened}
use Rattle.fz_machine.proofs.Rooms.{cleaned, rooms_same}
use Rattle.fz_machine.proofs.machine.Machine.queue_cleanups.Goals as goal

pub invariant_of-self : goal.invariant_of-self
invariant_of-self c =
    let s = c.self.inside.finalizers.state in
    let walk = c.self.inside.walk in
    let idle = unopened c.self.inside.phase [] (ap (λ (m : Machine). first_of m.phase []) c.self.view_is ∙ c.in_ok-check.ensures) in
    let rooms = idle_rooms s walk c.self.inside.tables.items c.self.inside.phase c.self.inside.asked c.self.invariant idle in
    let room = cleaned s c.self.inside.walk.room rooms.main c.queue_cleanups.new.self.state c.queue_cleanups.ensures.queued c.queue_cleanups.ensures.none in
    calm s c.self.inside.walk c.self.inside.tables.items c.self.inside.phase c.self.inside.asked c.self.invariant idle
    c.queue_cleanups.new.self.state walk (rooms_same s walk rooms c.queue_cleanups.new.self.state room (let does = c.queue_cleanups.ensures.queued in ap (λ (t : State). t.ephemerons) does.2.2 ∙ ap (λ (t : State). t.ephemerons) does.1.2))
    (all_cleaned_less s c.queue_cleanups.new.self.state c.queue_cleanups.ensures.queued)

pub returns-clause-queued : goal.returns-clause-queued
returns-clause-queued c = subst (λ (m : Machine). CleansAll m.finalizers.state c.queue_cleanups.new.self.state) c.self.view_is c.queue_cleanups.ensures.queued
