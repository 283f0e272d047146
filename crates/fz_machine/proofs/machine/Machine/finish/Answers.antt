use Rattle.fz_finalizers.specs.Follows.{Finish}
use Rattle.fz_machine.specs.Machines.{Finishes}
use Rattle.fz_machine.proofs.Worked.{finished_in_order}
use Rattle.fz_machine.proofs.machine.Machine.finish.Goals as goal

pub invariant_of-self : goal.invariant_of-self
invariant_of-self c = (
  finished_in_order c.self.inside.walk c.self.inside.tables.items c.self.inside.phase c.self.inside.finalizers.state c.finish.new.self.state (Finish c.args.entry.now) (Finishes c.args.entry.now) c.finish.result c.finish.ensures.refused c.finish.ensures.follows
      c.self.invariant.0,
  c.self.invariant.1,
  c.self.invariant.2,
)
