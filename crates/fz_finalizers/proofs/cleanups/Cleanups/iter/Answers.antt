use Rattle.std.proofs.Common.{length, ◌≤◌, ◌∙◌, ap, sym, subst}
use Rattle.std.specs.FinMap.{len}
use Rattle.fz_model.proofs.KeyedEntries.{len_made}
use Rattle.fz_table.specs.declared.limits.TheConstants.{MOST_ENTRIES}
use Rattle.fz_finalizers.specs.Cleanups.{Cleanups}
use Rattle.fz_finalizers.proofs.cleanups.Cleanups.iter.Goals as goal

pub returns-clause-count : goal.returns-clause-count
returns-clause-count c =
    ap length c.of.ensures ∙ c.iter.ensures.len ∙ sym (len_made c.self.inside.entries.entries c.iter.ensures.unique) ∙ ap (λ (t : Cleanups). len t.cleanups) c.self.view_is

pub returns-clause-limit : goal.returns-clause-limit
returns-clause-limit c = subst (λ n. n ≤ MOST_ENTRIES) (len_made c.self.inside.entries.entries c.iter.ensures.unique ∙ sym (ap length c.of.ensures ∙ c.iter.ensures.len)) c.self.invariant
