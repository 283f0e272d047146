use Rattle.std.proofs.Common.{◌∙◌, ◌++◌, Some, sym, subst}
use Rattle.std.specs.Map.{keys_of}
use Rattle.fz_machine.specs.declared.phase.Phase.{Phase}
use Rattle.fz_machine.specs.Going.{AreTables}
use Rattle.fz_machine.specs.Regions.{table_at}
use Rattle.fz_machine.proofs.Asked.{heard_tables, still_whole, untold_still}
use Rattle.fz_machine.proofs.tables.hear.Goals as goal

pub returns-clause-heard : goal.returns-clause-heard
returns-clause-heard c = λ s are.
    let old = c.args.tables.now in
    let new = c.hear_in.new.tables in
    let sweep = c.in-Regions.sweep in
    let was = table_at old sweep in
    subst (λ (p : Phase). AreTables s new (Some p)) (sym c.in-Regions.is)
    (heard_tables s old new sweep c.hear_in.ensures.changes c.hear_in.ensures.same
    (λ whole. (λ i. keys_of (c.hear_in.ensures.told i) ++ c.hear_in.ensures.left i) ∙ still_whole was.told was.left c.args.words.now (keys_of was.order) was.asked c.told-words whole)
    (untold_still was (table_at new sweep) c.args.words.now c.hear_in.ensures.told c.hear_in.ensures.left c.hear_in.ensures.same)
    (subst (λ (p : Phase). AreTables s old (Some p)) c.in-Regions.is are))
