use Rattle.std.proofs.Common.{◌≡◌, ◌∙◌, arith, List, ⊎_elim, Contains, ap, sym, subst}
use Rattle.std.proofs.lemmas.List.Elements.{Contains-push_cases}
use Rattle.fz_model.specs.declared.answers.Entry.{Entry}
use Rattle.fz_finalizers.specs.Walks.{somes}
use Rattle.fz_pass.proofs.Walking.{one_on, all_of}
use Rattle.fz_why.proofs.asking.entry_of.Goals as goal

pub loop-entry-preserved : goal.loop-entry-preserved
loop-entry-preserved c =
    let inv = c.loop-entry.invariant in
    record {
      none = λ e within is. ⊎_elim (λ before. inv.none e before is) (λ same. let h : c.in-Some.entry.obj ≡ c.args.object = ap (λ (x : Entry). x.obj) same ∙ is in absurd (omega (arith, h))) (Contains-push_cases c.loop-entry.yielded c.in-Some.entry e within);
      rest = one_on c.loop-entry.yielded (somes c.loop-entry.entry-iterator) _ (somes c.next.new.self) c.in-Some.entry inv.rest c.in-Some.ensures.steps;
    }

pub returns : goal.returns
returns c = λ e within.
    let words = somes c.entries-entry-items.result in
    let all : c.loop-entry.yielded ≡ words = all_of c.loop-entry.yielded _ words (c.loop-entry.invariant.rest ∙ ap somes c.into_iter-entry-iterator.ensures.into_iter_gives) c.in-None.ensures.steps.0 in
    c.loop-entry.invariant.none e (subst (λ (xs : List Entry). Contains xs e) (sym (all ∙ c.entries-entry-items.ensures.all)) within)
