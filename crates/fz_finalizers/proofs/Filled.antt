-- A buffer that is filled from a list, one after another.
use Rattle.std.proofs.Common.{◌≡◌, ◌≤◌, ◌<◌, ℕ, zero, suc, ◌+◌, min, List, [], ◌∷◌, length, take, drop, set, refl, sym, ap, subst, ◌∙◌, add-one, arith}
use Rattle.std.proofs.lemmas.List.{drop-drop, drop-set-lt, length-drop}

-- the first of the list are in the buffer, and the others are left
pub record IsFilled {X : Type 0} (filled : ℕ) (words left buffer : List X) : Type 0 where
  pub within : filled ≤ length words
  pub left_is : left ≡ drop filled words
  pub same : take filled buffer ≡ take filled words

dropped : {X : Type 0} (n : ℕ) (xs rest : List X) (x : X) → x ∷ rest ≡ drop n xs → rest ≡ drop (suc n) xs
dropped zero [] rest x h = cc
dropped zero (y ∷ ys) rest x h = cc
dropped (suc n) [] rest x h = cc
dropped (suc n) (y ∷ ys) rest x h = dropped n ys rest x h

longer : {X : Type 0} (n : ℕ) (xs rest : List X) (x : X) → x ∷ rest ≡ drop n xs → n < length xs
longer n xs rest x h = let cut = ap length h ∙ length-drop n xs in let some : length (x ∷ rest) ≡ length rest + 1 = omega arith in omega (arith, cut, some)

taken : {X : Type 0} (n : ℕ) (buffer xs rest : List X) (x : X) → n < length buffer → x ∷ rest ≡ drop n xs → take n buffer ≡ take n xs → take (suc n) (set buffer n x) ≡ take (suc n) xs
taken n [] xs rest x h left same = absurd (omega (arith, h))
taken zero (c ∷ cs) [] rest x h left same = cc
taken zero (c ∷ cs) (y ∷ ys) rest x h left same = cc
taken (suc n) (c ∷ cs) [] rest x h left same = cc
taken (suc n) (c ∷ cs) (y ∷ ys) rest x h left same =
    let tails : take n cs ≡ take n ys = cc in
    let heads : c ≡ y = cc in
    let rest_same = taken n cs ys rest x (omega (arith, h)) left tails in
    cc

-- a word that is written leaves what lies behind it
pub untouched : {X : Type 0} (n : ℕ) (x : X) (now before : List X) → drop n now ≡ drop n before → drop (n + 1) (set now n x) ≡ drop (n + 1) before
untouched n x now before same = drop-set-lt (n + 1) now n x (omega arith) ∙ sym (drop-drop 1 n now) ∙ ap (drop 1) same ∙ drop-drop 1 n before

module _ {X : Type 0} (words buffer : List X) where
  pub none_filled : IsFilled 0 words words buffer
  none_filled = record { within = omega arith; left_is = refl; same = refl }

  pub one_more : (filled : ℕ) (left rest : List X) (x : X) → filled < length buffer → left ≡ x ∷ rest → IsFilled filled words left buffer → IsFilled (filled + 1) words rest (set buffer filled x)
  one_more filled left rest x h is was =
      let at = sym is ∙ was.left_is in
      subst (λ n. IsFilled n words rest (set buffer filled x)) (sym (add-one filled)) (record {
        within = let lt = longer filled words rest x at in omega (arith, lt);
        left_is = dropped filled words rest x at;
        same = taken filled buffer words rest x h at was.same;
      })

  -- where none is left, all are there
  pub all_filled : (filled : ℕ) (left : List X) → filled ≤ length buffer → left ≡ [] → IsFilled filled words left buffer → filled ≡ min (length buffer) (length words)
  all_filled filled left h none was =
      let cut = ap length (sym none ∙ was.left_is) ∙ length-drop filled words in
      let within = was.within in
      omega (arith, cut, within, h)
