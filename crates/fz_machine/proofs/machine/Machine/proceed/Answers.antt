use Rattle.std.proofs.Common.{take, subst, refl, arith}
use Rattle.fz_machine.specs.Going.{asked_in, left_in, told_in}
use Rattle.fz_machine.specs.Machines.{Answers, GoesTo, Machine, next_of}
use Rattle.fz_machine.proofs.Asked.{after_heard, answered_in_order, answered_on}
use Rattle.fz_machine.proofs.Stepping.{heard}
use Rattle.fz_machine.proofs.machine.Machine.proceed.Goals as goal

pub invariant_of-self : goal.invariant_of-self
invariant_of-self c =
    let i = c.self.inside in (
      answered_in_order i.finalizers c.hear.new.finalizers i.walk c.hear.new.walk i.tables.items i.phase c.in-Some.phase (take c.min-heard.result c.args.answers.now) c.self.invariant.0 c.in-Some.is c.hear.ensures.heard c.hear.ensures.room c.hear.ensures.same,
      c.self.invariant.1,
      c.self.invariant.2,
    )

pub returns-clause-goes : goal.returns-clause-goes
returns-clause-goes c =
    let i = c.self.inside in
    subst (λ (m : Machine). GoesTo m (Answers (take m.asked c.args.answers.now)) c.ask.new.self (next_of c.ask.result c.ask.new.about)) c.self.view_is
    (after_heard _ _ _ (Answers (take i.asked c.args.answers.now)) c.in-Some.phase _ c.in-Some.is refl
    (answered_on i.finalizers c.hear.new.finalizers i.walk c.hear.new.walk c.in-Some.phase (take (asked_in i.tables.items i.phase) (left_in i.tables.items i.phase)) (take c.min-heard.result c.args.answers.now) (take i.asked c.args.answers.now) (told_in i.tables.items i.phase) (heard c.args.answers.now i.asked c.min-heard.result c.min-heard.ensures) c.hear.ensures.heard)
    refl refl refl refl refl (omega arith) c.ask.ensures.goes)
