use Rattle.std.proofs.Common.{refl}
use Rattle.fz_model.specs.Events.{Make}
use Rattle.fz_service.proofs.Keeps.{stepped}
use Rattle.fz_service.proofs.locked.Locked.make.Goals as goal

pub invariant_of-self-then-ends_cycle : goal.invariant_of-self-then-ends_cycle
invariant_of-self-then-ends_cycle g c = (stepped _ _ _ _ _ _ _ (Make c.args.call) _ refl c.in_ok-reply.ensures.told.does c.self.invariant.0, c.self.invariant.1)

pub invariant_of-self-else-ends_cycle : goal.invariant_of-self-else-ends_cycle
invariant_of-self-else-ends_cycle g c = (stepped _ _ _ _ _ _ _ (Make c.args.call) _ refl c.in_ok-reply.ensures.told.does c.self.invariant.0, c.self.invariant.1)
