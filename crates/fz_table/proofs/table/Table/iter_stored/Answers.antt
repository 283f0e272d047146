use Rattle.std.proofs.Common.{◌≡◌, ◌≤◌, ◌∙◌, ℕ, List, length, All, ap, sym, subst}
use Rattle.std.specs.FinMap.{len}
use Rattle.std.specs.FinSet.{contains}
use Rattle.fz_table.specs.declared.limits.TheConstants.{MOST_ENTRIES}
use Rattle.fz_table.specs.declared.stored.Stored.{Stored}
use Rattle.fz_table.specs.Tabled.{Tabled}
use Rattle.fz_table.proofs.Flagged.{flags_of_each, len_shown}
use Rattle.fz_table.proofs.table.Table.iter_stored.Goals as goal

pub returns-clause-flags : goal.returns-clause-flags
returns-clause-flags c =
    let es = c.self.inside.entries.entries in
    subst (λ (xs : List (ℕ × Stored)). All (λ (e : ℕ × Stored). e.1.unreachable ≡ contains c.args.self.now.late e.0) xs) (sym (c.of.ensures ∙ c.iter.ensures.rest))
    (subst (λ (t : Tabled). All (λ (e : ℕ × Stored). e.1.unreachable ≡ contains t.late e.0) es) c.self.view_is (flags_of_each es c.iter.ensures.unique))

pub returns-clause-count : goal.returns-clause-count
returns-clause-count c =
    ap length c.of.ensures ∙ c.iter.ensures.len ∙ sym (len_shown c.self.inside.entries.entries c.iter.ensures.unique) ∙ ap (λ (t : Tabled). len t.registrations) c.self.view_is

pub returns-clause-limit : goal.returns-clause-limit
returns-clause-limit c =
    subst (λ n. n ≤ MOST_ENTRIES) (len_shown c.self.inside.entries.entries c.iter.ensures.unique ∙ sym (ap length c.of.ensures ∙ c.iter.ensures.len)) c.self.invariant.few
