use Rattle.std.proofs.Common.{◌≤◌, ◌∙◌, ap, sym, subst, is_some, arith}
use Rattle.std.specs.FinMap.{get, len, remove}
use Rattle.fz_table.specs.declared.limits.TheConstants.{MOST_ENTRIES}
use Rattle.fz_model.proofs.Tables.{get_made, made_removed}
use Rattle.fz_links.specs.Linked.{Linked}
use Rattle.fz_table.proofs.Entries.{limit_removed}
use Rattle.fz_links.proofs.links.Links.unregister.Goals as goal

pub invariant_of-self : goal.invariant_of-self
invariant_of-self c = record {
  few = subst (λ m. len m ≤ MOST_ENTRIES) (sym (made_removed c.self.inside.entries.entries _ c.args.link c.swap_remove.ensures.updates.0)) (limit_removed _ c.args.link c.self.invariant.few);
  spared = let more = c.swap_remove.ensures.room.0 in let was = c.self.invariant.spared in omega (arith, more, was);
}

pub returns-clause-answer : goal.returns-clause-answer
returns-clause-answer c =
    c.is_some.ensures
    ∙ ap is_some (c.swap_remove.ensures.value ∙ sym (get_made c.self.inside.entries.entries c.args.link) ∙ ap (λ (t : Linked). get t.links c.args.link) c.self.view_is)

pub returns-clause-removed : goal.returns-clause-removed
returns-clause-removed c =
    made_removed c.self.inside.entries.entries _ c.args.link c.swap_remove.ensures.updates.0 ∙ ap (λ (t : Linked). remove t.links c.args.link) c.self.view_is
