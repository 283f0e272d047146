-- The parts of a line between its spaces.
use Rattle.std.proofs.Common.{◌≡◌, ℕ, ◌≤◌, ◌+◌, ◌-◌, List, [], ◌∷◌, Option, is_some, not, IsTrue, ◌↔◌, Some, None, ◌∙◌, ap, sym, take, drop, length, ◌==◌, Bool, true, false, cond, ltb-true, ltb-false, refl, arith}
use Rattle.std.proofs.lemmas.List.{take_rest}
use Rattle.std.proofs.lemmas.List.Elements.{All-from_get_or}
use Rattle.std.proofs.lemmas.List.Sums.{fails_before_first}
use Rattle.std.proofs.lemmas.List.Splits.{slice_split_first, slice_split_none, length-slice_split}
use Rattle.std.proofs.lemmas.Option.{cond_some}
use Rattle.std.specs.List.{position, position_or_len, All}
use Rattle.fz_script.specs.Reading.{words_of, words_in, word_at}
use denote.Bor.{Bor}

cond_none : {A : Type 0} (b : Bool) (x : A) → cond b (Some x) None ≡ None → b ≡ false
cond_none true x h = cc
cond_none false x h = refl

-- the first word ends at the first space
pub first_word : (line : List ℕ) (at : ℕ) (words : List (List ℕ)) → words ≡ words_of line → Some at ≡ position (λ b. b == 32) line
    → word_at words ≡ Some (take at line, words_of (take (length line - (at + 1)) (drop (at + 1) line)))
first_word line at words e found =
    let t = cond_some _ _ _ (sym found) in
    let parts : words ≡ take at line ∷ words_of (drop (at + 1) line) =
    e ∙ slice_split_first (λ b. b == 32) line 0 (ltb-true _ _ t.0) ∙ ap (λ i. take i line ∷ words_of (drop (i + 1) line)) t.1 in
    rw (take_rest, parts) refl

-- without a space it is the whole line
pub only_word : (line : List ℕ) (words : List (List ℕ)) → words ≡ words_of line → None ≡ position (λ b. b == 32) line → word_at words ≡ Some (line, [])
only_word line words e found =
    let t = cond_none _ _ (sym found) in
    let none : All (λ x. (x == 32) ≡ false) line =
    All-from_get_or (λ x. (x == 32) ≡ false) line 0 (λ i lt. fails_before_first (λ b. b == 32) line i 0 (let far : length line ≤ position_or_len (λ b. b == 32) line = ltb-false _ _ t in omega arith)) in
    let parts : words ≡ line ∷ [] = e ∙ slice_split_none (λ b. b == 32) line none in
    rw parts refl

-- a line has a word, be it an empty one
pub none_left : (rest : Option (Bor (List ℕ))) (none : Bool) → is_some rest ≡ not none → IsTrue none ↔ (words_in rest ≡ [])
none_left None true is = (λ _. refl, λ _. refl)
none_left None false is = cc
none_left (Some line) true is = cc
none_left (Some line) false is =
    (λ on. cc, λ empty. let some = length-slice_split (λ b. b == 32) line.now in let same = ap length empty in absurd (omega (arith, some, same)))
