use Rattle.std.proofs.Common.{◌∙◌, ◌+◌, ◌<◌, ◌≤◌, sym, subst, arith}
use Rattle.std.proofs.lemmas.Bool.{not-false, not-true}
use Rattle.fz_bits.specs.Flags.{Flagged}
use Rattle.fz_dirty.specs.Pages.{Pages, ArePages}
use Rattle.fz_dirty.proofs.Pages.{page_noted, noted_again, few_pages}
use Rattle.fz_dirty.proofs.Dirty.mark.Goals as goal

pub overflow_add-self : goal.overflow_add-self
overflow_add-self c =
    let within : c.args.page < c.self.inside.pages = subst (λ (v : Pages). c.args.page < v.pages) (sym c.self.view_is) c.requires in
    let are = page_noted c.self.inside.noted c.insert.new.self c.self.inside.pages c.self.inside.count c.args.page c.self.invariant within (not-true _ (sym c.insert.ensures.new ∙ c.if-insert.true)) c.insert.ensures.inserted in
    let few : c.self.inside.count + 1 ≤ c.self.inside.pages = few_pages c.insert.new.self c.self.inside.pages (c.self.inside.count + 1) are in
    omega (arith, few)

pub invariant_of-self : goal.invariant_of-self
invariant_of-self c =
    let within : c.args.page < c.self.inside.pages = subst (λ (v : Pages). c.args.page < v.pages) (sym c.self.view_is) c.requires in
    page_noted c.self.inside.noted c.insert.new.self c.self.inside.pages c.self.inside.count c.args.page c.self.invariant within (not-true _ (sym c.insert.ensures.new ∙ c.if-insert.true)) c.insert.ensures.inserted

pub invariant_of-self-else-insert : goal.invariant_of-self-else-insert
invariant_of-self-else-insert c =
    let same = noted_again c.self.inside.noted c.insert.new.self c.self.inside.pages c.self.inside.count c.args.page c.self.invariant (not-false _ (sym c.insert.ensures.new ∙ c.if-insert.false)) c.insert.ensures.inserted in
    subst (λ (f : Flagged). ArePages f c.self.inside.pages c.self.inside.count) (sym same) c.self.invariant
