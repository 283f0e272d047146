-- Walks from a place on.
use Rattle.std.proofs.Common.{◌≡◌, ◌-◌, ◌++◌, ℕ, zero, suc, min, List, [], ◌∷◌, drop, length, Option, Some, option_map, refl, sym, ap, ◌∙◌, arith}
use Rattle.std.proofs.lemmas.List.{drop-map}
use Rattle.fz_model.specs.declared.answers.Entry.{Entry}
use Rattle.fz_finalizers.specs.declared.roots.Root.{Root}
use Rattle.fz_finalizers.specs.declared.roots.Root.TheVariants.{HeldObject, HeldData, RegisteredData}
use Rattle.fz_finalizers.specs.Walks.{words_left}

pub drop_words : (root : Root) (entries : List (Option Entry)) (registered : List ℕ) (n : ℕ) → words_left root (drop n entries) (drop n registered) ≡ drop n (words_left root entries registered)
drop_words HeldObject entries registered n = sym (drop-map (option_map (λ (e : Entry). e.obj)) n entries)
drop_words HeldData entries registered n = sym (drop-map (option_map (λ (e : Entry). e.cd)) n entries)
drop_words RegisteredData entries registered n = sym (drop-map Some n registered)

abbrev empty_of : (X : Type 0) → List X
empty_of X = []

-- the rest of two lists, one after the other
pub drop_both : {X : Type 0} (xs ys : List X) (n k : ℕ) → k ≡ min n (length xs) → drop n (xs ++ ys) ≡ drop k xs ++ drop (n - k) ys
drop_both {X} [] ys n k is =
    let none : k ≡ 0 = omega (arith, is) in
    ap (λ m. drop m ys) {x = n} {y = n - k} (omega (arith, none)) ∙ ap (λ (zs : List X). zs ++ drop (n - k) ys) (nothing k)
  where
    nothing : (k : ℕ) → empty_of X ≡ drop k (empty_of X)
    nothing zero = refl
    nothing (suc k) = refl
drop_both (x ∷ xs) ys zero k is = let none : k ≡ 0 = omega (arith, is) in (λ i. drop (sym none i) (x ∷ xs) ++ drop (0 - sym none i) ys)
drop_both (x ∷ xs) ys (suc n) zero is = absurd (omega (arith, is))
drop_both (x ∷ xs) ys (suc n) (suc k) is = drop_both xs ys n k (omega (arith, is)) ∙ ap (λ m. drop k xs ++ drop m ys) {x = n - k} {y = suc n - suc k} (omega arith)
