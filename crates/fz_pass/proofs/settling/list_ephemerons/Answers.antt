use Rattle.std.proofs.Common.{◌≡◌, ◌∙◌, ◌++◌, ℕ, Contains, sym, ap, subst, inl, inr, ⊎_elim}
use Rattle.std.proofs.lemmas.List.Elements.{Contains-append_left, Contains-append_right, Contains-append_cases}
use Rattle.std.specs.FinMap.{get}
use Rattle.fz_model.specs.State.{Map}
use Rattle.fz_model.proofs.KeyedEntries.{listed, got}
use Rattle.fz_pass.proofs.Walking.{all_of}
use Rattle.fz_pass.proofs.settling.list_ephemerons.Goals as goal

pub returns-clause-listed : goal.returns-clause-listed
returns-clause-listed c = λ w k.
    let old = c.args.waiting.now.items in
    let es = c.iter-entry-items.result in
    let all : c.loop-entry.yielded ≡ es = all_of c.loop-entry.yielded _ es (c.loop-entry.invariant.all ∙ c.into_iter-entry-iterator.ensures.into_iter_gives) c.in-None.ensures.steps.0 in
    let items : c.loop-entry.waiting.items ≡ old ++ es = c.loop-entry.invariant.listed ∙ ap (λ ys. old ++ ys) all in (
      λ is_in. ⊎_elim inl (λ in_es. inr (ap (λ (m : Map ℕ). get m w) (sym c.iter-entry-items.ensures.all) ∙ got es w k c.iter-entry-items.ensures.once in_es))
          (Contains-append_cases old es (w, k) (subst (λ xs. Contains xs (w, k)) items is_in)),
      λ either. subst (λ xs. Contains xs (w, k)) (sym items)
          (⊎_elim (Contains-append_left old es (w, k)) (λ here. Contains-append_right old es (w, k) (listed es w k (ap (λ (m : Map ℕ). get m w) c.iter-entry-items.ensures.all ∙ here))) either),
    )
