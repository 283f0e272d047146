use Rattle.std.proofs.Common.{◌≡◌, ◌∙◌, ◌<◌, ◌-◌, ◌+◌, ◌++◌, ◌∷◌, [], inl, inr, ⊎_elim, drop, get_or, take, zip, append-nil, ap, sym, arith}
use Rattle.std.proofs.lemmas.List.{drop-drop, length-drop, length-take, nil_from_length}
use Rattle.fz_machine.specs.Regions.{Regions}
use Rattle.fz_machine.proofs.Noting.{all_told, at_end, one_heard, word_at}
use Rattle.fz_machine.proofs.regions.Regions.hear.Goals as goal

pub loop-word-preserved : goal.loop-word-preserved
loop-word-preserved c =
    let inv = c.loop-word.invariant in
    let i = c.loop-word.word-index in
    let asked = c.args.self.now.asked in
    let word = get_or (take c.min.result c.args.words.now) i 0 in
    let test = c.loop-word-test.true in
    let long = length-take c.min.result c.args.words.now in
    let few = c.min.ensures in
    let is = ap (λ (r : Regions). r.asked) c.self.view_is in
    let some : 0 < asked - i = omega (arith, test, long, few, is) in
    let less : asked - (i + 1) ≡ asked - i - 1 = omega arith in
    let told = ap (λ (r : Regions). r.told) c.hear_one.ensures in
    let left = ap (λ (r : Regions). r.left) c.hear_one.ensures in
    record {
      told =
          (λ j. told j ++ zip (take (less j) (left j)) (drop (i + 1) c.args.words.now))
          ∙ one_heard c.loop-word.self.told c.loop-word.self.left (asked - i) word (drop (i + 1) c.args.words.now) some
          ∙ ap (λ ws. c.loop-word.self.told ++ zip (take (asked - i) c.loop-word.self.left) ws) (sym (word_at c.args.words.now c.min.result i test)) ∙ inv.told;
      left = left ∙ ap (drop 1) inv.left ∙ drop-drop 1 i c.args.self.now.left;
      same = c.hear_one.ensures ∙ ap (λ (r : Regions). record r { told = r.told ++ zip r.left (word ∷ []); left = drop 1 r.left }) inv.same ∙ (λ j. record c.args.self.now { told = sym told j; left = sym left j });
    }

pub returns-clause-told : goal.returns-clause-told
returns-clause-told c =
    let i = c.loop-word.word-index in
    let test = c.loop-word-test.false in
    let most = c.loop-word.auto.word-index-end in
    let long = length-take c.min.result c.args.words.now in
    let all = c.told-words in
    let few = c.min.ensures in
    let is = ap (λ (r : Regions). r.asked) c.self.view_is in
    let dropped = length-drop i c.args.words.now in
    let end = at_end c.args.self.now.asked i (omega (arith, test, most, long, all, few, is)) in
    let over = all_told c.loop-word.self.left (c.args.self.now.asked - i) (drop i c.args.words.now) (⊎_elim (λ (none : c.args.self.now.asked - i ≡ 0). inl none) (λ (none : 64 - i ≡ 0). inr (nil_from_length (drop i c.args.words.now) (omega (arith, none, dropped, all)))) end) in
    sym (ap (λ xs. c.loop-word.self.told ++ xs) over ∙ append-nil c.loop-word.self.told) ∙ c.loop-word.invariant.told
