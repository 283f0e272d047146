use Rattle.std.proofs.Common.{sym, ap, ◌∙◌}
use Rattle.fz_finalizers.specs.States.{State, Memory}
use Rattle.fz_world.proofs.Addresses.{framed, registers_outside, register_refused, enroll_refused, enrolled}
use Rattle.fz_world.proofs.Whole.{world_plain}
use Rattle.fz_world.proofs.world.World.register_at.Goals as goal

pub returns-then-is_off_heap-clause-by : goal.returns-then-is_off_heap-clause-by
returns-then-is_off_heap-clause-by c = rw (← c.self.view_is) (λ frames slot there at. registers_outside (framed c.self.inside frames) slot there c.args.address at c.args.finalizer (sym c.is_off_heap.ensures ∙ c.if-is_off_heap.true))

pub returns-in_err-check_start-clause-by : goal.returns-in_err-check_start-clause-by
returns-in_err-check_start-clause-by c =
    rw (← c.self.view_is) (λ frames slot there at. register_refused (framed c.self.inside frames) slot there c.args.address at c.args.finalizer c.in_err-check_start.field-0.0 _ c.from_residual.ensures.1 (sym c.is_off_heap.ensures ∙ c.if-is_off_heap.false) c.in_err-check_start.ensures.judged)

pub enroll-requires-clause-none : goal.enroll-requires-clause-none
enroll-requires-clause-none c =
    let plain = world_plain _ _ _ _ _ c.self.invariant.0 in
    ap (λ (t : State). t.late) c.make_first_room.ensures.state ∙ plain.none

pub returns-in_err-number-clause-by : goal.returns-in_err-number-clause-by
returns-in_err-number-clause-by c =
    let e = c.in_err-number.ensures in
    let memory = e.memory (ap (λ (m : Memory). m.whole) (c.make_first_room.ensures.memory c.self.invariant.4) ∙ c.self.invariant.4) ∙ c.make_first_room.ensures.memory c.self.invariant.4 in
    rw (← c.self.view_is)
    (λ frames slot there at. enroll_refused (framed c.self.inside frames) slot there c.args.address at c.args.finalizer c.make_first_room.new.finalizers c.enroll.new.finalizers (sym c.is_off_heap.ensures ∙ c.if-is_off_heap.false) c.in_ok-check_start.ensures.judged
    c.make_first_room.ensures.state e.same memory c.in_err-number.field-0.0 _ c.from_residual-in_err-number.ensures.1 e.registers)

pub returns-clause-by : goal.returns-clause-by
returns-clause-by c =
    let e = c.in_ok-number.ensures in
    let memory = e.memory (ap (λ (m : Memory). m.whole) (c.make_first_room.ensures.memory c.self.invariant.4) ∙ c.self.invariant.4) ∙ c.make_first_room.ensures.memory c.self.invariant.4 in
    rw (← c.self.view_is)
    (λ frames slot there at. enrolled (framed c.self.inside frames) slot there c.args.address at c.args.finalizer c.make_first_room.new.finalizers c.enroll.new.finalizers (sym c.is_off_heap.ensures ∙ c.if-is_off_heap.false) c.in_ok-check_start.ensures.judged
    c.make_first_room.ensures.state e.same memory (c.in_ok-number.number, c.in_ok-number.old) e.registers)
