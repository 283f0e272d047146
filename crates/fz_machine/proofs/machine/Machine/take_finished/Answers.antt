use Rattle.fz_finalizers.specs.Follows.{TakeFinished}
use Rattle.fz_machine.specs.Machines.{TakesFinished}
use Rattle.fz_machine.proofs.Worked.{taken_in_order}
use Rattle.fz_machine.proofs.machine.Machine.take_finished.Goals as goal

pub invariant_of-self : goal.invariant_of-self
invariant_of-self c = (
  taken_in_order c.self.inside.walk c.self.inside.tables.items c.self.inside.phase c.self.inside.finalizers.state c.take_finished.new.self.state TakeFinished TakesFinished c.take_finished.result c.take_finished.ensures.takes c.self.invariant.0,
  c.self.invariant.1,
  c.self.invariant.2,
)
