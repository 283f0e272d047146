use Rattle.std.proofs.Common.{◌∙◌, min, take, ap, sym, subst, refl, arith}
use Rattle.fz_machine.specs.Asks.{bits_of}
use Rattle.fz_machine.specs.Going.{asked_in, left_in, told_in}
use Rattle.fz_machine.specs.Machines.{Answers, GoesTo, Machine, next_of}
use Rattle.fz_machine.proofs.Asked.{after_heard, answered_in_order, answered_on}
use Rattle.fz_machine.proofs.Masked.{count_bits}
use Rattle.fz_machine.proofs.Stepping.{heard}
use Rattle.fz_machine.proofs.machine.Machine.next_bits.Goals as goal

pub invariant_of-self : goal.invariant_of-self
invariant_of-self c =
    let i = c.self.inside in (
      answered_in_order i.finalizers c.hear_bits.new.finalizers i.walk c.hear_bits.new.walk i.tables.items i.phase c.in-Some.phase (take c.min-count.result (bits_of c.args.answers)) c.self.invariant.0 c.in-Some.is c.hear_bits.ensures.heard c.hear_bits.ensures.room c.hear_bits.ensures.same,
      c.self.invariant.1,
      c.self.invariant.2,
    )

pub returns-clause-goes : goal.returns-clause-goes
returns-clause-goes c =
    let i = c.self.inside in
    let bits = bits_of c.args.answers in
    let count = c.min-count.ensures ∙ ap (λ n. min n i.asked) (sym (count_bits c.args.answers)) in
    subst (λ (m : Machine). GoesTo m (Answers (take m.asked bits)) c.ask.new.self (next_of c.ask.result c.ask.new.about)) c.self.view_is
    (after_heard _ _ _ (Answers (take i.asked bits)) c.in-Some.phase _ c.in-Some.is refl
    (answered_on i.finalizers c.hear_bits.new.finalizers i.walk c.hear_bits.new.walk c.in-Some.phase (take (asked_in i.tables.items i.phase) (left_in i.tables.items i.phase)) (take c.min-count.result bits) (take i.asked bits) (told_in i.tables.items i.phase) (heard bits i.asked c.min-count.result count) c.hear_bits.ensures.heard)
    refl refl refl refl refl (omega arith) c.ask.ensures.goes)
