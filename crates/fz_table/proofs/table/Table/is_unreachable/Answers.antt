use Rattle.std.proofs.Common.{◌∙◌, ap, sym}
use Rattle.std.specs.FinSet.{contains}
use Rattle.fz_table.specs.Tabled.{Tabled, flagged}
use Rattle.fz_table.proofs.Flagged.{contains_flagged, late_in, none_flagged}
use Rattle.fz_table.proofs.table.Table.is_unreachable.Goals as goal

pub returns-then-self-eq0 : goal.returns-then-self-eq0
returns-then-self-eq0 c =
    sym (none_flagged (flagged c.self.inside.entries.entries) (c.self.invariant.flags_are ∙ c.if-self-eq0.true) c.args.object) ∙ ap (λ (t : Tabled). contains t.late c.args.object) c.self.view_is

pub returns : goal.returns
returns c =
    c.is_flagged.ensures ∙ ap late_in (c.copied.ensures ∙ c.get.ensures.value) ∙ sym (contains_flagged c.self.inside.entries.entries c.args.object)
    ∙ ap (λ (t : Tabled). contains t.late c.args.object) c.self.view_is
