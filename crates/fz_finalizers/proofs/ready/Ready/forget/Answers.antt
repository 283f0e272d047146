use Rattle.std.proofs.Common.{ap}
use Rattle.fz_finalizers.specs.Queue.{Queue}
use Rattle.fz_finalizers.proofs.Taking.{forgets}
use Rattle.fz_finalizers.proofs.ready.Ready.forget.Goals as goal

pub forget-requires-clause-open : goal.forget-requires-clause-open
forget-requires-clause-open c = (c.self.invariant.early, c.self.invariant.open_is)

pub invariant_of-self : goal.invariant_of-self
invariant_of-self c = forgets c.self.inside.queue c.forget.new.self c.self.inside.taken c.self.invariant (ap (λ (q : Queue). q.queue) c.forget.ensures.same) (ap (λ (q : Queue). q.held) c.forget.ensures.same) c.forget.ensures.forgotten
