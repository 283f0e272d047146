use Rattle.std.proofs.Common.{take, ◌-◌, sym, ap, ◌∙◌, subst, arith}
use Rattle.fz_bits.specs.Flags.{Flagged}
use Rattle.fz_finalizers.specs.Queue.{Queue, IsReady, placed_in}
use Rattle.fz_finalizers.proofs.Queues.{held_as, one_less_held, others_held, still_ready}
use Rattle.fz_finalizers.proofs.Taking.{none_of}
use Rattle.fz_finalizers.proofs.queue.Queue.finish.Goals as goal

pub returns-then-not-is_held_at-clause-answer : goal.returns-then-not-is_held_at-clause-answer
returns-then-not-is_held_at-clause-answer c = sym (held_as _ _ _ _ _ _ c.self.invariant c.args.entry.now _ _ _ c.place_of-place.ensures c.deref.ensures.value c.deref-2.ensures.value _ c.is_held_at.ensures _ _ (ap (λ (r : Queue). r.held) (sym c.self.view_is)) c.if-not-is_held_at.true)

pub overflow_sub-self : goal.overflow_sub-self
overflow_sub-self c =
    let one = one_less_held _ _ _ _ _ _ c.self.invariant c.args.entry.now _ _ _ c.place_of-place.ensures c.deref.ensures.value c.deref-2.ensures.value _ c.is_held_at.ensures c.if-not-is_held_at.false in
    omega (arith, one)

pub invariant_of-self : goal.invariant_of-self
invariant_of-self c =
    let i = c.self.inside in
    subst (λ (f : Flagged). IsReady (take i.first i.past.entries) i.entries.items i.kept i.first f.members (i.outstanding - 1)) (sym c.remove.ensures.removed)
    (still_ready _ _ _ _ _ _ c.self.invariant c.args.entry.now _ _ _ c.place_of-place.ensures c.deref.ensures.value c.deref-2.ensures.value _ c.is_held_at.ensures c.if-not-is_held_at.false)

pub returns-clause-answer : goal.returns-clause-answer
returns-clause-answer c = sym (held_as _ _ _ _ _ _ c.self.invariant c.args.entry.now _ _ _ c.place_of-place.ensures c.deref.ensures.value c.deref-2.ensures.value _ c.is_held_at.ensures _ _ (ap (λ (r : Queue). r.held) (sym c.self.view_is)) c.if-not-is_held_at.false)

pub returns-clause-held : goal.returns-clause-held
returns-clause-held c =
    ap (λ (f : Flagged). placed_in f.members 0 c.self.inside.entries.items) c.remove.ensures.removed
    ∙ others_held _ _ _ _ _ _ c.self.invariant c.args.entry.now _ _ _ c.place_of-place.ensures c.deref.ensures.value c.deref-2.ensures.value _ c.is_held_at.ensures c.if-not-is_held_at.false _ (ap (λ (r : Queue). r.held) (sym c.self.view_is))

pub returns-then-not-is_held_at-clause-held : goal.returns-then-not-is_held_at-clause-held
returns-then-not-is_held_at-clause-held c =
    none_of c.args.entry.now c.args.self.now.held (held_as _ _ _ _ _ _ c.self.invariant c.args.entry.now _ _ _ c.place_of-place.ensures c.deref.ensures.value c.deref-2.ensures.value _ c.is_held_at.ensures _ _ (ap (λ (r : Queue). r.held) (sym c.self.view_is)) c.if-not-is_held_at.true)
