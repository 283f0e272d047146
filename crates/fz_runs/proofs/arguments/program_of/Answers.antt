use Rattle.std.proofs.Common.{◌≡◌, ℕ, List, [], ◌∷◌, codes, get_or, length, map, Bool, true, sym, ◌∙◌, arith}
use Rattle.std.proofs.lemmas.Slice.Eq.{bytes_eq-Decides}
use Rattle.std.specs.Str.{bytes_eq}
use Rattle.fz_runs.proofs.arguments.program_of.Goals as goal

-- two words, of which the first has this text
two_words : {A : Type 0} (text : A → List ℕ) (words : List A) (name : List ℕ) (first : A) → length words ≡ 2 → first ≡ get_or words 0 first → text first ≡ name → (file : List ℕ) × (map text words ≡ name ∷ file ∷ [])
two_words text [] name first two at is = absurd (omega arith)
two_words text (x ∷ []) name first two at is = absurd (omega arith)
two_words text (x ∷ y ∷ []) name first two at is = (text y, cc)
two_words text (x ∷ y ∷ z ∷ more) name first two at is = absurd (omega arith)

-- a text that equals another
same_text : (a b : List ℕ) (equal : Bool) → equal ≡ bytes_eq a b → equal ≡ true → a ≡ b
same_text a b equal e h = (bytes_eq-Decides a b).0 (sym e ∙ h)

pub returns-then-eq-clause-some : goal.returns-then-eq-clause-some
returns-then-eq-clause-some g c =
    let named = same_text c.as_str-name.result.now (codes "run") c.eq.result c.eq.ensures c.if-eq.true in
    two_words g.S.AsStr.text c.args.words.now (codes "run") c.index-words-0.result c.if-words-ne2.false c.index-words-0.is (sym c.as_str-name.ensures ∙ named)

pub returns-then-eq-2-clause-some : goal.returns-then-eq-2-clause-some
returns-then-eq-2-clause-some g c =
    let named = same_text c.as_str-name.result.now (codes "threads") c.eq-else-eq.result c.eq-else-eq.ensures c.if-eq-2.true in
    two_words g.S.AsStr.text c.args.words.now (codes "threads") c.index-words-0.result c.if-words-ne2.false c.index-words-0.is (sym c.as_str-name.ensures ∙ named)
