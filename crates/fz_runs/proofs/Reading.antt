-- How a line is cut off the bytes of a chunk.
use Rattle.std.proofs.Common.{◌≡◌, ◌≢◌, ℕ, ◌<◌, ◌≤◌, ◌+◌, List, [], ◌∷◌, ◌++◌, Option, Some, None, Bool, true, false, cond, ◌∙◌, ap, sym, subst, refl, arith, length, take, drop, get_or, take-append-drop, append_assoc, append-nil, length-append, length-drop, length-take-le, ◌==◌, ltb-true, ltb-false, eqb-true}
use Rattle.std.proofs.lemmas.List.{take_more, get_or-take, take_all, drop_all}
use Rattle.std.proofs.lemmas.List.Elements.{All-from_get_or, All-append}
use Rattle.std.proofs.lemmas.List.Sums.{fails_before_first, passes_at_first}
use Rattle.std.proofs.lemmas.Option.{cond_some}
use Rattle.std.proofs.lemmas.Bool.{eqb-false}
use Rattle.std.proofs.KnownBytes.{Consumes-trans}
use Rattle.std.specs.List.{position, position_or_len}
use Rattle.std.specs.Io.KnownBytes.{Consumes, IsAtEnd, prepend_known}
use Rattle.fz_runs.specs.declared.text.input.Ending.{Ending}
use Rattle.fz_runs.specs.declared.text.input.Ending.TheVariants.{Whole, Last, Nothing, TooLong}
use Rattle.fz_runs.specs.Lines.{IsOneLine}
use Rattle.fz_runs.specs.Reading.{TakenFor, EndsInput, MovesLine, EndsWithInput}

-- the first LF is at this place
pub feed_at : (bytes : List ℕ) (place : ℕ) → Some place ≡ position (λ byte. byte == 10) bytes → (place < length bytes) × ((i : ℕ) → i < place → get_or bytes i 0 ≢ 10) × (get_or bytes place 0 ≡ 10)
feed_at bytes place found =
    let t = cond_some _ _ _ (sym found) in
    let within : position_or_len (λ byte. byte == 10) bytes < length bytes = ltb-true _ _ t.0 in
    subst (λ (n : ℕ). (n < length bytes) × ((i : ℕ) → i < n → get_or bytes i 0 ≢ 10) × (get_or bytes n 0 ≡ 10)) t.1
    (within, λ i lt. eqb-false _ 10 (fails_before_first (λ byte. byte == 10) bytes i 0 lt), eqb-true _ 10 (passes_at_first (λ byte. byte == 10) bytes 0 within))

cond_none : {A : Type 0} (b : Bool) (x : A) → cond b (Some x) None ≡ None → b ≡ false
cond_none true x h = cc
cond_none false x h = refl

-- there is no LF
pub no_feed : (bytes : List ℕ) → None ≡ position (λ byte. byte == 10) bytes → (i : ℕ) → i < length bytes → get_or bytes i 0 ≢ 10
no_feed bytes found i lt =
    let far : length bytes ≤ position_or_len (λ byte. byte == 10) bytes = ltb-false _ _ (cond_none _ _ (sym found)) in
    eqb-false _ 10 (fails_before_first (λ byte. byte == 10) bytes i 0 (omega (arith, far, lt)))

-- bytes before the first LF are one line
pub one_line : (bytes : List ℕ) (k end : ℕ) → k ≤ end → k ≤ length bytes → ((i : ℕ) → i < end → get_or bytes i 0 ≢ 10) → IsOneLine (take k bytes)
one_line bytes k end le within before =
    All-from_get_or (λ b. b ≢ 10) (take k bytes) 0
    (λ i lt. let near : i < k = let l = length-take-le k bytes within in omega (arith, lt, l) in subst (λ b. b ≢ 10) (sym (get_or-take k bytes i 0 near)) (before i (omega (arith, near, le))))

-- a byte, with what stands before it and behind it
pub cut_at : (bytes : List ℕ) (k : ℕ) → k < length bytes → bytes ≡ (take k bytes ++ get_or bytes k 0 ∷ []) ++ drop (k + 1) bytes
cut_at bytes k lt = sym (take-append-drop (k + 1) bytes) ∙ ap (λ l. l ++ drop (k + 1) bytes) (take_more bytes k 0 lt)

pub some_unread : (bytes : List ℕ) (at len : ℕ) → at ≤ len → at ≢ len → len ≤ length bytes → drop at (take len bytes) ≢ []
some_unread bytes at len le other within none =
    let d = length-drop at (take len bytes) in let t = length-take-le len bytes within in let e = ap length none in other (omega (arith, d, t, e, le))

-- bytes were used
pub used : (r : Option (List ℕ)) (old part new : List ℕ) → old ≡ part ++ new → Consumes (prepend_known old r) (prepend_known new r) part
used None old part new e = tt
used (Some v) old part new e = ap (λ l. l ++ v) e ∙ append_assoc part new v

-- ---- a line that ends in the chunk, and one that doesn't; `v` are the unread bytes as they were handed over

pub moves_too_long : (v u new line line' : List ℕ) (room end : ℕ) → v ≡ u → room + length line ≡ 200 → room < end → end ≤ length v → ((i : ℕ) → i < end → get_or v i 0 ≢ 10) → line' ≡ line ++ take room v → new ≡ drop (room + 1) u
    → MovesLine u line (Some TooLong) new line'
moves_too_long v u new line line' room end e full long within before moved rest =
    let short : room ≤ length v = omega (arith, long, within) in
    let all : length line' ≡ 200 = let l = length-take-le room v short in let n = length-append line (take room v) in omega (arith, ap length moved, n, l, full) in
    subst (λ (w : List ℕ). MovesLine w line (Some TooLong) new line') e
    (take room v, get_or v room 0, cut_at v room (omega (arith, long, within)) ∙ ap (λ l. (take room v ++ get_or v room 0 ∷ []) ++ l) (ap (drop (room + 1)) e ∙ sym rest), before room long, moved, one_line v room end (omega (arith, long)) short before, all)

pub moves_whole : (v u new line line' : List ℕ) (room end : ℕ) → v ≡ u → room + length line ≡ 200 → end ≤ room → end < length v → ((i : ℕ) → i < end → get_or v i 0 ≢ 10) → get_or v end 0 ≡ 10 → line' ≡ line ++ take end v → new ≡ drop (end + 1) u
    → MovesLine u line (Some Whole) new line'
moves_whole v u new line line' room end e full fits within before feed moved rest =
    let short : end ≤ length v = omega (arith, within) in
    let all : length line' ≤ 200 = let l = length-take-le end v short in let n = length-append line (take end v) in omega (arith, ap length moved, n, l, full, fits) in
    subst (λ (w : List ℕ). MovesLine w line (Some Whole) new line') e
    (take end v, cut_at v end within ∙ ap (λ b. (take end v ++ b ∷ []) ++ drop (end + 1) v) feed ∙ ap (λ l. (take end v ++ 10 ∷ []) ++ l) (ap (drop (end + 1)) e ∙ sym rest), moved, one_line v end end (omega arith) short before, all)

pub moves_all : (v u new line line' : List ℕ) (room end : ℕ) → v ≡ u → room + length line ≡ 200 → end ≤ room → end ≡ length v → ((i : ℕ) → i < end → get_or v i 0 ≢ 10) → line' ≡ line ++ take end v → new ≡ drop end u → MovesLine u line None new line'
moves_all v u new line line' room end e full fits whole before moved rest =
    let same : take end v ≡ v = take_all end v (omega (arith, whole)) in
    let all : length line' ≤ 200 = let n = length-append line v in omega (arith, ap length (moved ∙ ap (λ l. line ++ l) same), n, full, fits, whole) in
    subst (λ (w : List ℕ). MovesLine w line None new line') e
    (rest ∙ ap (drop end) (sym e) ∙ drop_all end v (omega (arith, whole)), moved ∙ ap (λ l. line ++ l) same, subst IsOneLine same (one_line v end end (omega arith) (omega (arith, whole)) before), all)

-- ---- whole lines

took_nothing : (a b c : Option (List ℕ)) (y : List ℕ) → Consumes a b y → Consumes b c [] → Consumes a c y
took_nothing a b c y p q = subst (λ l. Consumes a c l) (append-nil y) (Consumes-trans a b c y [] p q)

-- the line ends with the input
pub taken_last : (a b left : Option (List ℕ)) (line : List ℕ) (ending : Ending) → Consumes a b line → Consumes b left [] → IsAtEnd left → EndsWithInput ending line
    → ((bytes : List ℕ) × TakenFor ending line bytes × Consumes a left bytes) × EndsInput ending left
taken_last a b left line Whole p q end h = absurd h
taken_last a b left line Last p q end h = ((line, (refl, h), took_nothing a b left line p q), end)
taken_last a b left line Nothing p q end h = (([], (refl, h), subst (λ l. Consumes a left l) h (took_nothing a b left line p q)), end)
taken_last a b left line TooLong p q end h = absurd h

-- what was moved is of the same line
pub one_more : (line part line' : List ℕ) → line' ≡ line ++ part → IsOneLine line → IsOneLine part → IsOneLine line'
one_more line part line' e one more = subst IsOneLine (sym e) (All-append (λ b. b ≢ 10) line part one more)

-- the line ends in the chunk
pub taken_moved : (a b r : Option (List ℕ)) (old new line line' : List ℕ) (ending : Ending) → Consumes a b line → Consumes b (prepend_known old r) [] → IsOneLine line → MovesLine old line (Some ending) new line'
    → (((bytes : List ℕ) × TakenFor ending line' bytes × Consumes a (prepend_known new r) bytes) × EndsInput ending (prepend_known new r)) × IsOneLine line' × (length line' ≤ 200)
taken_moved a b r old new line line' Whole p q one m =
    let part = m.0 in
    let took = Consumes-trans a _ _ line (part ++ 10 ∷ []) (took_nothing a b _ line p q) (used r old (part ++ 10 ∷ []) new m.1) in
    (((line ++ (part ++ 10 ∷ []), sym (append_assoc line part (10 ∷ [])) ∙ ap (λ l. l ++ 10 ∷ []) (sym m.2), took), tt), one_more line part line' m.2 one m.3, m.4)
taken_moved a b r old new line line' TooLong p q one m =
    let part = m.0 in
    let took = Consumes-trans a _ _ line (part ++ m.1 ∷ []) (took_nothing a b _ line p q) (used r old (part ++ m.1 ∷ []) new m.2) in
    let all = m.6 in
    (((line ++ (part ++ m.1 ∷ []), (m.1, sym (append_assoc line part (m.1 ∷ [])) ∙ ap (λ l. l ++ m.1 ∷ []) (sym m.4), m.3, all), took), tt), one_more line part line' m.4 one m.5, omega (arith, all))
taken_moved a b r old new line line' Last p q one m = absurd m
taken_moved a b r old new line line' Nothing p q one m = absurd m

-- the line goes on behind the chunk
pub taken_on : (a b r : Option (List ℕ)) (old new line line' : List ℕ) → Consumes a b line → Consumes b (prepend_known old r) [] → MovesLine old line None new line' → Consumes a (prepend_known new r) line'
taken_on a b r old new line line' p q m =
    subst (λ l. Consumes a (prepend_known new r) l) (sym m.1)
    (Consumes-trans a _ _ line old (took_nothing a b _ line p q) (used r old old new (sym (append-nil old) ∙ ap (λ l. old ++ l) (sym m.0))))

pub longer : (old line line' : List ℕ) → old ≢ [] → line' ≡ line ++ old → length line < length line'
longer [] line line' some e = absurd (some refl)
longer (x ∷ old) line line' some e = let n = length-append line (x ∷ old) in omega (arith, n, ap length e)
