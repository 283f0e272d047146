use Rattle.std.proofs.Common.{◌+◌, inl, inr, ⊎_elim, take, Some, get_or, sym, ap, ◌∙◌, subst}
use Rattle.std.proofs.lemmas.List.{get_or_default}
use Rattle.std.proofs.lemmas.Option.{same_Some}
use Rattle.fz_marker.specs.Frontiers.{Frontier, Gains, IsPointedAt}
use Rattle.fz_marker.proofs.Gaining.{gains_known, gains_on, one_more_word, no_words}
use Rattle.fz_marker.proofs.frontier.Frontier.add_targets.Goals.{in-Some, in_default}
use Rattle.fz_marker.proofs.frontier.Frontier.add_targets.Goals as goal

pub loop-word-preserved : goal.loop-word-preserved
loop-word-preserved c =
    let objects = c.args.heap.now.objects in
    let i = c.loop-word.word-index in
    let words = c.args.words.now in
    let now_at = IsPointedAt objects (take (i + 1) words) in
    let more = one_more_word objects words i (get_or words i 0) c.loop-word-test.true (get_or_default words i 0 (get_or words i 0) c.loop-word-test.true) c.resolve.result (sym c.resolve.ensures.points) in
    elim c.match-resolve.branch [
      | in-Some w ↦
          let start = w.in-Some.start in
          subst (λ (f : Frontier). Gains c.args.self.now f now_at) (sym w.self-is)
          (gains_on now_at c.loop-word.invariant w.add.ensures.gains (λ a. (
            λ p. ⊎_elim inl (λ is. inr (sym (same_Some start a (sym w.in-Some.is ∙ is)))) ((more a).0 p),
            ⊎_elim (λ p. (more a).1 (inl p)) (λ is. (more a).1 (inr (w.in-Some.is ∙ ap Some (sym is)))),
          )))
      | in_default w ↦
          subst (λ (f : Frontier). Gains c.args.self.now f now_at) (sym w.self-is)
          (gains_on now_at c.loop-word.invariant (gains_known c.loop-word.self (λ a. ⊥) c.loop-word.invariant.few (λ a h. absurd h)) (λ a. (
            λ p. ⊎_elim inl (λ is. inr (w.in_default.not-Some a is)) ((more a).0 p),
            ⊎_elim (λ p. (more a).1 (inl p)) (λ none. absurd none),
          )))
    ]

pub loop-word-init : goal.loop-word-init
loop-word-init c = gains_known c.args.self.now (IsPointedAt c.args.heap.now.objects (take 0 c.args.words.now)) c.requires.room (λ a p. absurd (no_words c.args.heap.now.objects c.args.words.now a p))
