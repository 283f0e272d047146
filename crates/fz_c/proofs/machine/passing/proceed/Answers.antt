use Rattle.std.proofs.Common.{IfOk, subst}
use Rattle.fz_machine.specs.Asks.{bits_of}
use Rattle.fz_machine.specs.Machines.{GoesTo, Heard, next_of}
use Rattle.fz_c.proofs.Heard.{of_items, of_regions}
use Rattle.fz_c.proofs.machine.passing.proceed.Goals as goal

pub returns-then-asks_marks-clause-goes : goal.returns-then-asks_marks-clause-goes
returns-then-asks_marks-clause-goes c =
    let m = c.args.machine.now in
    subst (λ (heard : Heard). IfOk c.next_marks.result (λ step. GoesTo m heard c.next_marks.new.self (next_of step c.next_marks.new.about)))
    (of_regions m.regions m.asked (bits_of c.args.answers) c.args.marks.now (c.asks_marks.ensures.regions c.if-asks_marks.true).1) c.next_marks.ensures.goes

pub returns-else-asks_marks-clause-goes : goal.returns-else-asks_marks-clause-goes
returns-else-asks_marks-clause-goes c =
    let m = c.args.machine.now in
    subst (λ (heard : Heard). IfOk c.next_bits.result (λ step. GoesTo m heard c.next_bits.new.self (next_of step c.next_bits.new.about)))
    (of_items m.regions m.asked (bits_of c.args.answers) c.args.marks.now (c.asks_marks.ensures.items c.if-asks_marks.false)) c.next_bits.ensures.goes
