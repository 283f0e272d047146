use Rattle.std.proofs.Common.{◌≡◌, ◌∙◌, ℕ, length, sym, ap, subst, arith}
use Rattle.fz_machine.specs.Items.{link_number}
use Rattle.fz_machine.specs.Regions.{IsNoted}
use Rattle.fz_machine.proofs.Renewed.{EachNoted, IsLinkOf, all_of, links_noted, one_more, rest_of, still_untold}
use Rattle.fz_machine.proofs.tables.note_links.Goals as goal
use Rattle.fz_machine.proofs.tables.note_links.Goals.{then-words, else-words}

pub loop-word-preserved : goal.loop-word-preserved
loop-word-preserved c =
    let so_far = c.loop-word.invariant.few in
    let one = c.note.ensures.tabled in
    let left = ap length c.in-Some.ensures.steps in
    let e : ℕ × ℕ = (c.in-Some.word, c.in-Some.target) in
    let number : c.if-words.note ≡ link_number c.args.words e =
    elim c.if-words.branch [
      | then-words w ↦ w.note-is ∙ ap (λ b. link_number b e) (sym w.if-words.true)
      | else-words w ↦ w.note-is ∙ ap (λ b. link_number b e) (sym w.if-words.false)
    ] in
    record {
      untold = still_untold _ _ c.note.ensures.keeps c.loop-word.invariant.untold;
      rest = rest_of _ _ _ _ _ c.in-Some.ensures.steps c.loop-word.invariant.rest;
      few = omega (arith, so_far, one, left);
      noted = λ all. one_more (IsLinkOf c.args.words) _ _ _ e c.note.ensures.keeps.kept (λ n is. subst (IsNoted _) (sym (is ∙ sym number)) (c.note.ensures.noted all)) (c.loop-word.invariant.noted (c.note.ensures.keeps.complete all));
    }

pub returns-clause-noted : goal.returns-clause-noted
returns-clause-noted c = λ all.
    let es = c.iter_links-word-items.result in
    let whole = all_of _ _ _ c.in-None.ensures.steps.0 c.loop-word.invariant.rest ∙ c.into_iter-word-iterator.ensures.into_iter_gives in
    links_noted c.args.finalizers.now.state c.loop-word.table.order c.args.words c.args.kind es c.iter_links-word-items.ensures.all (subst (EachNoted (IsLinkOf c.args.words) c.loop-word.table.order) whole (c.loop-word.invariant.noted all))
