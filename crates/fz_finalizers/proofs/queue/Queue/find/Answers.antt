use Rattle.std.proofs.Common.{⊎_elim, ap, arith}
use Rattle.fz_model.specs.declared.answers.Entry.{Entry}
use Rattle.fz_finalizers.proofs.queue.Queue.find.Goals as goal

pub returns-in_err-entry-clause-kept : goal.returns-in_err-entry-clause-kept
returns-in_err-entry-clause-kept c = λ early. rw c.from_residual.ensures (λ e held same. let less = c.in_err-entry.ensures.next e held in omega (arith, less, same))

pub returns-else-entry-number-clause-kept : goal.returns-else-entry-number-clause-kept
returns-else-entry-number-clause-kept c = λ early e held same.
    let next = c.in_ok-entry.ensures.next in
    let after = next.after in
    let apart = c.if-entry-number.false in
    ⊎_elim
    (λ less. absurd (omega (arith, less, same)))
    (λ others. ⊎_elim (λ is. absurd (apart (let seq = ap (λ (x : Entry). x.seq) is in omega (arith, seq, same)))) (λ later. absurd (omega (arith, later, same, after, apart))) others)
    (next.others e held)
