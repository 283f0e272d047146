-- Numbers that run on, and numbers that rise.
use Rattle.std.proofs.Common.{◌≡◌, ℕ, zero, suc, ◌+◌, ◌<◌, List, [], ◌∷◌, ◌++◌, Some, length, map, drop, get_or, slice_get, sym, ap, ◌∙◌, subst, ⊎_elim, arith, add-zero}
use Rattle.std.specs.List.{AllByRecursion}
use Rattle.std.specs.List.Sorted.{IsStrictlyIncreasing}
use Rattle.std.proofs.lemmas.Option.{same_Some, none-some}
use Rattle.fz_model.specs.declared.answers.Entry.{Entry}
use Rattle.fz_model.proofs.Lists.{slice_get-right, slice_get-cases}
use Rattle.fz_line.specs.Numbers.{AreNumberedFrom, Rises}

-- one entry more
pub numbered_push : (n : ℕ) (xs : List Entry) (y : Entry) → AreNumberedFrom n xs → y.seq ≡ n + length xs → AreNumberedFrom n (xs ++ y ∷ [])
numbered_push n xs y numbers last k e at = ⊎_elim (numbers k e) (λ new. at_end new.0 new.1 new.2) (slice_get-cases xs (y ∷ []) k e at)
  where
    at_end : (i : ℕ) → k ≡ length xs + i → slice_get (y ∷ []) i ≡ Some e → e.seq ≡ n + k
    at_end zero place here = let s : y.seq ≡ e.seq = ap (λ (x : Entry). x.seq) (same_Some y e here) in omega (arith, place, last, s)
    at_end (suc i) place here = absurd (none-some e here)

-- the number of an entry in the midst
pub numbered_at : (n : ℕ) (xs : List Entry) (y : Entry) (ys : List Entry) → AreNumberedFrom n (xs ++ y ∷ ys) → y.seq ≡ n + length xs
numbered_at n xs y ys numbers = numbers (length xs) y (ap (slice_get (xs ++ y ∷ ys)) (sym (add-zero (length xs))) ∙ slice_get-right xs (y ∷ ys) 0)

rises_cons : (y : ℕ) (ys : List ℕ) → (0 < length ys → y < get_or ys 0 0) → IsStrictlyIncreasing ys → IsStrictlyIncreasing (y ∷ ys)
rises_cons y ys first rest zero lt = first (omega arith)
rises_cons y ys first rest (suc k) lt = let l : k + 1 < length ys = omega arith in subst (λ n. get_or ys k 0 < get_or (y ∷ ys) n 0) (let e : suc (k + 1) ≡ suc k + 1 = omega arith in e) (rest k l)

rises_tail : (y : ℕ) (ys : List ℕ) → IsStrictlyIncreasing (y ∷ ys) → IsStrictlyIncreasing ys
rises_tail y ys h k lt = let l : suc k + 1 < suc (length ys) = omega arith in subst (λ n. get_or ys k 0 < get_or (y ∷ ys) n 0) (let e : suc k + 1 ≡ suc (k + 1) = omega arith in e) (h (suc k) l)

-- an entry above all others goes to the end
pub rises_push : (xs : List Entry) (x : Entry) → AllByRecursion (λ e. e.seq < x.seq) xs → Rises xs → Rises (xs ++ x ∷ [])
rises_push [] x b r = rises_cons x.seq [] (λ (no : 0 < 0). absurd (omega arith)) (λ k lt. absurd (omega arith))
rises_push (y ∷ []) x b r = rises_cons y.seq (x.seq ∷ []) (λ _. b.0) (rises_cons x.seq [] (λ (no : 0 < 0). absurd (omega arith)) (λ k lt. absurd (omega arith)))
rises_push (y ∷ z ∷ ys) x b r = rises_cons y.seq (map (λ (e : Entry). e.seq) ((z ∷ ys) ++ x ∷ [])) (λ _. r 0 (omega arith)) (rises_push (z ∷ ys) x b.1 (rises_tail y.seq (map (λ (e : Entry). e.seq) (z ∷ ys)) r))

-- the rest of an outbox, of which k entries were sent
pub numbered_rest : (n : ℕ) (xs : List Entry) (k : ℕ) → AreNumberedFrom n xs → AreNumberedFrom (n + k) (drop k xs)
numbered_rest n xs zero numbers i e at = numbers i e at ∙ ap (λ m. m + i) (sym (add-zero n))
numbered_rest n [] (suc k) numbers i e at = absurd (none-some e at)
numbered_rest n (x ∷ xs) (suc k) numbers i e at =
    let rest = numbered_rest (suc n) xs k (λ j d here. let s = numbers (suc j) d here in omega (arith, s)) i e at in omega (arith, rest)
