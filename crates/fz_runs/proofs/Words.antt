-- Words that are joined into a line.
use Rattle.std.proofs.Common.{◌≡◌, ℕ, zero, suc, ◌+◌, ◌<◌, ◌≤◌, true, List, [], ◌∷◌, ◌++◌, length, map, refl, sym, ap, ◌∙◌, append_assoc, arith, get_or, take, add-one, if◌then◌else◌}
use Rattle.std.proofs.lemmas.Bool.{and_parts}
use Rattle.std.proofs.lemmas.List.{map-append, length-map, length-take-le}
use Rattle.std.proofs.lemmas.Bool.{lt-ltb}
use Rattle.std.proofs.Math.Seq.{take-suc, take-length}
use Rattle.std.specs.List.{join_with_byte}
use Rattle.fz_script.specs.Spelling.{text}
use Rattle.fz_runs.specs.declared.text.output.Word.{Word}
use Rattle.fz_runs.specs.Words.{said, separator, is_short, all_short}

pub short_at : (words : List Word) (k : ℕ) (d : Word) → all_short words ≡ true → k < length words → is_short (get_or words k d) ≡ true
short_at [] k d h l = absurd (omega arith)
short_at (w ∷ ws) zero d h l = (and_parts _ _ h).0
short_at (w ∷ ws) (suc k) d h l = short_at ws k d ((and_parts _ _ h).1) (omega arith)

later : (n : ℕ) → separator (suc n) ≡ 32 ∷ []
later n = ap (λ b. if b then (32 ∷ []) else []) (lt-ltb 0 (suc n) (omega arith))

joined_more : (xs : List (List ℕ)) (x : List ℕ) → join_with_byte 32 (xs ++ x ∷ []) ≡ (join_with_byte 32 xs ++ separator (length xs)) ++ x
joined_more [] x = refl
joined_more (y ∷ []) x = sym (append_assoc y (32 ∷ []) x) ∙ ap (λ l. (y ++ l) ++ x) (sym (later 0))
joined_more (y ∷ z ∷ zs) x =
    let all : List ℕ = join_with_byte 32 (z ∷ zs) in
    let s : List ℕ = separator (length (z ∷ zs)) in
    ap (λ l. y ++ (32 ∷ l)) (joined_more (z ∷ zs) x)
    ∙ sym (append_assoc y (32 ∷ (all ++ s)) x)
    ∙ ap (λ l. l ++ x) (sym (append_assoc y (32 ∷ all) s))
    ∙ ap (λ l. ((y ++ (32 ∷ all)) ++ l) ++ x) (later (length zs) ∙ sym (later (length (z ∷ zs))))

abbrev pub joined : List Word → List ℕ
joined words = join_with_byte 32 (map text (map said words))

-- one word more
pub joined_word : (words : List Word) (k : ℕ) (d : Word) → k < length words → joined (take (k + 1) words) ≡ (joined (take k words) ++ separator k) ++ text (said (get_or words k d))
joined_word words k d l =
    let front = take k words in
    let word = get_or words k d in
    let count : length (map text (map said front)) ≡ k = length-map (map said front) text ∙ length-map front said ∙ length-take-le k words (omega arith) in
    ap joined (ap (λ n. take n words) (add-one k) ∙ take-suc words k d l)
    ∙ ap (λ l. join_with_byte 32 (map text l)) (map-append said front (word ∷ []))
    ∙ ap (join_with_byte 32) (map-append text (map said front) (said word ∷ []))
    ∙ joined_more (map text (map said front)) (text (said word))
    ∙ ap (λ n. (joined front ++ separator n) ++ text (said word)) count

pub line_more : (words : List Word) (k : ℕ) (d : Word) (line ended new : List ℕ) → k < length words → line ≡ joined (take k words) → ended ≡ line ++ separator k → new ≡ ended ++ text (said (get_or words k d))
    → new ≡ joined (take (k + 1) words)
line_more words k d line ended new l e f g = g ∙ ap (λ b. b ++ text (said (get_or words k d))) (f ∙ ap (λ b. b ++ separator k) e) ∙ sym (joined_word words k d l)

-- all words are joined
pub line_whole : (words : List Word) (k : ℕ) (line : List ℕ) → k ≤ length words → length words ≤ k → line ≡ joined (take k words) → line ≡ joined words
line_whole words k line l m e = let same : k ≡ length words = omega arith in e ∙ ap (λ n. joined (take n words)) same ∙ ap joined (take-length words)
