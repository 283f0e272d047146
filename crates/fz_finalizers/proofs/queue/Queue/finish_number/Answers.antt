use Rattle.std.proofs.Common.{◌-◌, ◌≤◌, take, sym, ap, ◌∙◌, subst, arith}
use Rattle.fz_bits.specs.Flags.{Flagged}
use Rattle.fz_finalizers.specs.Queue.{Queue, IsReady, placed_in}
use Rattle.fz_finalizers.proofs.Queues.{window_not_held, window_one_less, window_others, window_ready}
use Rattle.fz_finalizers.proofs.Taking.{none_of}
use Rattle.fz_finalizers.proofs.queue.Queue.finish_number.Goals as goal

pub overflow_sub-self : goal.overflow_sub-self
overflow_sub-self c =
    let from = subst (λ (r : Queue). r.forgotten ≤ c.args.number) (sym c.self.view_is) c.requires.window in
    let one = window_one_less _ _ _ _ _ _ c.self.invariant c.in_ok-entry.entry c.args.number from _ (ap (λ (r : Queue). r.queue) (sym c.self.view_is)) (sym (c.in_ok-entry.ensures c.requires.window)) (sym c.contains.ensures ∙ c.if-contains.true) in
    omega (arith, one)

pub invariant_of-self : goal.invariant_of-self
invariant_of-self c =
    let i = c.self.inside in
    let from = subst (λ (r : Queue). r.forgotten ≤ c.args.number) (sym c.self.view_is) c.requires.window in
    subst (λ (f : Flagged). IsReady (take i.first i.past.entries) i.entries.items i.kept i.first f.members (i.outstanding - 1)) (sym c.remove.ensures.removed)
    (window_ready _ _ _ _ _ _ c.self.invariant c.in_ok-entry.entry c.args.number from _ (ap (λ (r : Queue). r.queue) (sym c.self.view_is)) (sym (c.in_ok-entry.ensures c.requires.window)) (sym c.contains.ensures ∙ c.if-contains.true))

pub returns-then-contains-clause-held : goal.returns-then-contains-clause-held
returns-then-contains-clause-held c =
    let from = subst (λ (r : Queue). r.forgotten ≤ c.args.number) (sym c.self.view_is) c.requires.window in
    ap (λ (f : Flagged). placed_in f.members 0 c.self.inside.entries.items) c.remove.ensures.removed
    ∙ window_others _ _ _ _ _ _ c.self.invariant c.in_ok-entry.entry c.args.number from _ (ap (λ (r : Queue). r.queue) (sym c.self.view_is)) (sym (c.in_ok-entry.ensures c.requires.window)) (sym c.contains.ensures ∙ c.if-contains.true) _ (ap (λ (r : Queue). r.held) (sym c.self.view_is))

pub returns-else-contains-clause-held : goal.returns-else-contains-clause-held
returns-else-contains-clause-held c =
    let from = subst (λ (r : Queue). r.forgotten ≤ c.args.number) (sym c.self.view_is) c.requires.window in
    none_of c.in_ok-entry.entry c.args.self.now.held
    (window_not_held _ _ _ _ _ _ c.self.invariant c.in_ok-entry.entry c.args.number from _ (ap (λ (r : Queue). r.queue) (sym c.self.view_is)) (sym (c.in_ok-entry.ensures c.requires.window)) _ (ap (λ (r : Queue). r.held) (sym c.self.view_is)) (sym c.contains.ensures ∙ c.if-contains.false))
