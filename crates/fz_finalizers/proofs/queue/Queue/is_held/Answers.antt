use Rattle.std.proofs.Common.{sym, ap, refl}
use Rattle.fz_finalizers.specs.Queue.{Queue}
use Rattle.fz_finalizers.proofs.Queues.{held_as}
use Rattle.fz_finalizers.proofs.queue.Queue.is_held.Goals as goal

pub returns : goal.returns
returns c = sym (held_as _ _ _ _ _ _ c.self.invariant c.args.entry.now _ _ _ c.place_of-place.ensures c.deref.ensures.value c.deref-2.ensures.value _ c.is_held_at.ensures _ _ (ap (λ (r : Queue). r.held) (sym c.self.view_is)) refl)
