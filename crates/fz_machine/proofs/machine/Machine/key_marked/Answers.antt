use Rattle.fz_machine.proofs.Told.{told_in_order}
use Rattle.fz_machine.proofs.machine.Machine.key_marked.Goals as goal

pub invariant_of-self : goal.invariant_of-self
invariant_of-self c = (
  told_in_order c.self.inside.finalizers.state c.self.inside.walk c.tell.new.self c.self.inside.tables.items c.self.inside.phase c.args.key c.self.invariant.0 c.tell.ensures.told c.tell.ensures.others c.tell.ensures.room,
  c.self.invariant.1,
  c.self.invariant.2,
)
