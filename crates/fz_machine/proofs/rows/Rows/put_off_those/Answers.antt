use Rattle.std.proofs.Common.{◌∙◌, ◌++◌, length, take, ap, sym, append-nil}
use Rattle.fz_machine.specs.Asks.{bits_of}
use Rattle.fz_machine.specs.Sifts.{chosen}
use Rattle.fz_machine.proofs.Masked.{chosen_by_zero}
use Rattle.fz_machine.proofs.rows.Rows.put_off_those.Goals as goal

pub returns-else-bits-ne0-clause-off : goal.returns-else-bits-ne0-clause-off
returns-else-bits-ne0-clause-off c =
    let off = c.args.self.now.off in
    let items = c.args.items.now in
    let none = ap (λ b. chosen (take (length items) (bits_of b)) items) c.if-bits-ne0.false ∙ chosen_by_zero (length items) items in
    sym (ap (λ xs. record off { stuck = xs }) (ap (λ xs. off.stuck ++ xs) none ∙ append-nil off.stuck))
