use Rattle.std.proofs.Common.{◌-◌, arith, ◌≡◌, ◌≤◌, ◌∙◌, rules, ◌≡◌, ap, sym, subst, is_some, None, cond}
use Rattle.std.specs.FinMap.{get, len, insert}
use Rattle.fz_table.specs.declared.limits.TheConstants.{MOST_ENTRIES}
use Rattle.fz_table.specs.Places.{lacks_place}
use Rattle.fz_model.proofs.Tables.{get_made, made_inserted}
use Rattle.fz_links.specs.Linked.{Linked}
use Rattle.fz_model.specs.declared.answers.LinkAnswer.TheVariants.{Success, Duplicate}
use Rattle.fz_table.proofs.Entries.{limit_inserted}
use Rattle.fz_links.proofs.links.Links.put.Goals as goal

pub returns-in_err-replaced-clause-fresh : goal.returns-in_err-replaced-clause-fresh
returns-in_err-replaced-clause-fresh c =
    let absent : get c.args.self.now.links c.args.link ≡ None = ap (λ (t : Linked). get t.links c.args.link) (sym c.self.view_is) ∙ get_made c.self.inside.entries.entries c.args.link ∙ c.in_err-replaced.ensures.absent in
    search rules

pub invariant_of-self-2 : goal.invariant_of-self-2
invariant_of-self-2 c =
    let free = ap (λ (t : Linked). lacks_place t.links c.args.link) c.self.view_is ∙ c.requires.place in
    record {
      few = subst (λ m. len m ≤ MOST_ENTRIES) (sym (made_inserted c.self.inside.entries.entries _ c.args.link _ c.in_ok-replaced.ensures.updates.0)) (limit_inserted _ c.args.link _ free c.self.invariant.few);
      spared = c.room_within-self-inside.ensures.within;
    }

pub returns-clause-answer : goal.returns-clause-answer
returns-clause-answer c =
    c.answer_of.ensures
    ∙ ap (λ b. cond b Duplicate Success)
    (c.is_some.ensures ∙ ap is_some (c.in_ok-replaced.ensures.old ∙ sym (get_made c.self.inside.entries.entries c.args.link) ∙ ap (λ (t : Linked). get t.links c.args.link) c.self.view_is))

pub returns-clause-registered : goal.returns-clause-registered
returns-clause-registered c =
    made_inserted c.self.inside.entries.entries _ c.args.link _ c.in_ok-replaced.ensures.updates.0 ∙ ap (λ (t : Linked). insert t.links c.args.link c.args.target) c.self.view_is

pub returns-clause-used : goal.returns-clause-used
returns-clause-used c = λ fresh some.
    let none : c.in_ok-replaced.replaced ≡ None =
    c.in_ok-replaced.ensures.old ∙ sym (get_made c.self.inside.entries.entries c.args.link) ∙ ap (λ (t : Linked). get t.links c.args.link) c.self.view_is ∙ fresh in
    let same = ap (λ (l : Linked). l.room) c.self.view_is in
    let spared = c.self.invariant.spared in
    let less = c.in_ok-replaced.ensures.spare in
    let left : c.saturating_sub.result ≡ c.self.inside.room - 1 = search rules in
    let is = c.room_within-self-inside.ensures.all (omega (arith, left, spared, less)) in
    omega (arith, is, left, same, some)
