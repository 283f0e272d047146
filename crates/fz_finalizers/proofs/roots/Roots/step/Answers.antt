use Rattle.std.proofs.Common.{◌∙◌, Some, sym, ap, subst}
use Rattle.fz_model.specs.declared.answers.Entry.{Entry}
use Rattle.fz_finalizers.specs.Walks.{Steps, somes, words_left}
use Rattle.fz_finalizers.proofs.Shown.{none_map, steps_map}
use Rattle.fz_finalizers.proofs.roots.Roots.step.Goals as goal

pub returns-in_err-step-in-HeldObject : goal.returns-in_err-step-in-HeldObject
returns-in_err-step-in-HeldObject c =
    let i = c.self.inside in
    let e = c.in_err-step-in-HeldObject.ensures in
    rw c.from_residual.ensures (
      ap somes (sym c.self.view_is ∙ ap (λ r. words_left r i.entries i.registered) c.in-HeldObject.is) ∙ none_map (λ (e : Entry). e.obj) i.entries e.0,
      ap (λ es. words_left i.root es i.registered) e.1 ∙ c.self.view_is,
    )

pub returns-in_err-step-in-HeldData : goal.returns-in_err-step-in-HeldData
returns-in_err-step-in-HeldData c =
    let i = c.self.inside in
    let e = c.in_err-step-in-HeldData.ensures in
    rw c.from_residual-in_err-step-in-HeldData.ensures (
      ap somes (sym c.self.view_is ∙ ap (λ r. words_left r i.entries i.registered) c.in-HeldData.is) ∙ none_map (λ (e : Entry). e.cd) i.entries e.0,
      ap (λ es. words_left i.root es i.registered) e.1 ∙ c.self.view_is,
    )

pub returns-in_ok-step-in-HeldObject : goal.returns-in_ok-step-in-HeldObject
returns-in_ok-step-in-HeldObject c =
    let i = c.self.inside in
    let x = c.in_ok-step-in-HeldObject.field-0 in
    let s = steps_map (λ (e : Entry). e.obj) x i.entries c.step.new.self c.in_ok-step-in-HeldObject.ensures in
    subst (λ v. Steps (Some x.obj) v (words_left i.root c.step.new.self i.registered)) c.self.view_is
    (subst (λ r. Steps (Some x.obj) (words_left r i.entries i.registered) (words_left r c.step.new.self i.registered)) (sym c.in-HeldObject.is) s)

pub returns-in_ok-step-in-HeldData : goal.returns-in_ok-step-in-HeldData
returns-in_ok-step-in-HeldData c =
    let i = c.self.inside in
    let x = c.in_ok-step-in-HeldData.field-0 in
    let s = steps_map (λ (e : Entry). e.cd) x i.entries c.step-in-HeldData.new.self c.in_ok-step-in-HeldData.ensures in
    subst (λ v. Steps (Some x.cd) v (words_left i.root c.step-in-HeldData.new.self i.registered)) c.self.view_is
    (subst (λ r. Steps (Some x.cd) (words_left r i.entries i.registered) (words_left r c.step-in-HeldData.new.self i.registered)) (sym c.in-HeldData.is) s)
