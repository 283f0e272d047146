use Rattle.std.proofs.Common.{◌≤◌, ◌∙◌, ap, sym, subst}
use Rattle.std.specs.FinMap.{len}
use Rattle.fz_table.specs.declared.limits.TheConstants.{MOST_ENTRIES}
use Rattle.fz_table.specs.Tabled.{Tabled}
use Rattle.fz_table.proofs.Flagged.{len_shown}
use Rattle.fz_table.proofs.table.Table.len.Goals as goal

pub returns-clause-count : goal.returns-clause-count
returns-clause-count c =
    c.len.ensures.len ∙ sym (len_shown c.self.inside.entries.entries c.len.ensures.unique) ∙ ap (λ (t : Tabled). len t.registrations) c.self.view_is

pub returns-clause-limit : goal.returns-clause-limit
returns-clause-limit c =
    subst (λ n. n ≤ MOST_ENTRIES) (len_shown c.self.inside.entries.entries c.len.ensures.unique ∙ sym c.len.ensures.len) c.self.invariant.few
