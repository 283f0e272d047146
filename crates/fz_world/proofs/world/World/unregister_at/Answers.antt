use Rattle.std.proofs.Common.{sym, ap, ◌∙◌}
use Rattle.fz_finalizers.specs.States.{Memory}
use Rattle.fz_world.proofs.Addresses.{framed, unregisters_nothing, unregister_refused, unregisters}
use Rattle.fz_world.proofs.Leaving.{unregistered}
use Rattle.fz_world.proofs.Linking.{IsKept}
use Rattle.fz_world.proofs.Plain.{removed_plain}
use Rattle.fz_world.proofs.Whole.{world_plain}
use Rattle.fz_world.proofs.world.World.unregister_at.Goals as goal

pub returns-then-is_off_heap-clause-by : goal.returns-then-is_off_heap-clause-by
returns-then-is_off_heap-clause-by c = rw (← c.self.view_is) (λ frames slot there at. unregisters_nothing (framed c.self.inside frames) slot there c.args.address at (sym c.is_off_heap.ensures ∙ c.if-is_off_heap.true))

pub returns-in_err-check_start-clause-by : goal.returns-in_err-check_start-clause-by
returns-in_err-check_start-clause-by c =
    rw (← c.self.view_is)
    (λ frames slot there at. unregister_refused (framed c.self.inside frames) slot there c.args.address at c.in_err-check_start.field-0.0 _ c.from_residual.ensures.1 (sym c.is_off_heap.ensures ∙ c.if-is_off_heap.false) c.in_err-check_start.ensures.judged)

pub invariant_of-self : goal.invariant_of-self
invariant_of-self c =
    let w = c.self.inside in
    let e = c.unregister.ensures in
    let plain = world_plain _ _ _ _ _ c.self.invariant.0 in
    let h : IsKept w.marked.heap w.marked.marker w.dirty w.cycle w.finalizers.state = (c.self.invariant.0, c.self.invariant.1, c.self.invariant.2, c.self.invariant.3) in
    let now = unregistered w.marked.heap w.marked.marker w.dirty w.cycle w.finalizers.state c.unregister.new.self.state c.args.address (removed_plain w.finalizers.state c.unregister.new.self.state c.args.address plain.none e.follows) h in
    (now.0, now.1, now.2, now.3, ap (λ (m : Memory). m.whole) e.memory ∙ c.self.invariant.4)

pub returns-clause-by : goal.returns-clause-by
returns-clause-by c =
    let w = c.self.inside in
    let e = c.unregister.ensures in
    let plain = world_plain _ _ _ _ _ c.self.invariant.0 in
    rw (← c.self.view_is)
    (λ frames slot there at. unregisters (framed w frames) slot there c.args.address at c.unregister.new.self c.unregister.result (sym c.is_off_heap.ensures ∙ c.if-is_off_heap.false) c.in_ok-check_start.ensures.judged e.answer
    (removed_plain w.finalizers.state c.unregister.new.self.state c.args.address plain.none e.follows) e.memory)
