use Rattle.std.proofs.Common.{◌∙◌, subst}
use Rattle.fz_machine.specs.Machines.{Machine}
use Rattle.fz_c.specs.MachineChanges.{QueuesCleanups}
use Rattle.fz_c.proofs.Rooted.{accepted, changed}
use Rattle.fz_c.proofs.machine.passing.fz_machine_queue_cleanups.Goals as goal

pub returns-in-Ok : goal.returns-in-Ok
returns-in-Ok c =
    let same = c.behind-it.view_is ∙ c.deref_mut.ensures.value in
    changed _ _ c.in-Some.it.value c.queue_cleanups-reply.new.self _ _ _ c.in-Some.ensures.taken c.put.ensures
    (subst (λ (m : Machine). QueuesCleanups 0 c.args.queued.now c.in-Ok.all m c.queue_cleanups-reply.new.self) same (accepted _ _ _ c.in-Ok.ensures.judged (c.in-Ok.ensures.idle, c.in-Ok.ensures.queued, c.in-Ok.ensures.none, c.in-Ok.ensures.count)))
