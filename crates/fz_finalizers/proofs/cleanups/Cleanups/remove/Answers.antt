use Rattle.std.proofs.Common.{◌∙◌, ◌≡◌, ◌+◌, nat_cmp, ap, sym, subst}
use Rattle.std.specs.FinMap.{get, len, remove, from_entries}
use Rattle.std.specs.Option.{IfSome}
use Rattle.fz_model.proofs.Tables.{get_made, made_removed}
use Rattle.fz_table.proofs.Entries.{limit_taken, one_taken}
use Rattle.fz_finalizers.specs.Cleanups.{Cleanups}
use Rattle.fz_finalizers.proofs.cleanups.Cleanups.remove.Goals as goal

pub invariant_of-self : goal.invariant_of-self
invariant_of-self c = limit_taken c.self.inside.entries.entries c.swap_remove.new.self.entries c.args.number c.swap_remove.ensures.updates.0 c.self.invariant

pub returns-clause-answer : goal.returns-clause-answer
returns-clause-answer c = c.swap_remove.ensures.value ∙ sym (get_made c.self.inside.entries.entries c.args.number) ∙ ap (λ (t : Cleanups). get t.cleanups c.args.number) c.self.view_is

pub returns-clause-removed : goal.returns-clause-removed
returns-clause-removed c =
    made_removed c.self.inside.entries.entries c.swap_remove.new.self.entries c.args.number c.swap_remove.ensures.updates.0 ∙ ap (λ (t : Cleanups). remove t.cleanups c.args.number) c.self.view_is

pub returns-clause-count : goal.returns-clause-count
returns-clause-count c =
    subst (λ (t : Cleanups). IfSome c.swap_remove.result (λ _. len (from_entries {R = nat_cmp} c.swap_remove.new.self.entries) + 1 ≡ len t.cleanups)) c.self.view_is
    (one_taken c.self.inside.entries.entries c.swap_remove.new.self.entries c.args.number c.swap_remove.ensures.updates.0 c.swap_remove.result c.swap_remove.ensures.value)
