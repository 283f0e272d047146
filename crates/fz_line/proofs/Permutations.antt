-- Lists that weigh the same, however their entries are weighed, have the same entries.
use Rattle.std.proofs.Common.{◌≡◌, ℕ, ◌+◌, ◌<◌, List, [], ◌∷◌, Bool, true, false, cond, refl, sym, ap, ◌∙◌, subst, arith}
use Rattle.std.specs.List.{sum_by}
use Rattle.std.specs.List.Sorted.{IsPermutation}
use Rattle.std.proofs.lemmas.List.Sums.{sum_by-cons}
use Rattle.std.proofs.lemmas.List.Sorted.{IsPermutation-refl, IsPermutation-sym, IsPermutation-cons, IsPermutation-trans, IsPermutation-middle, sum_by-IsPermutation}
use Rattle.fz_model.specs.declared.answers.Entry.{Entry}
use Rattle.fz_model.specs.Events.{same_entry}
use Rattle.fz_model.proofs.Events.{one_entry, same_itself}
use Rattle.fz_line.specs.Views.{total}

abbrev hit : Entry → Entry → ℕ
hit a b = cond (same_entry a b) 1 0

pub total-sum_by : (h : Entry → ℕ) (xs : List Entry) → total h xs ≡ sum_by h xs
total-sum_by h [] = refl
total-sum_by h (x ∷ xs) = ap (λ n. h x + n) (total-sum_by h xs) ∙ sym (sum_by-cons h x xs)

pub total_moved : (h : Entry → ℕ) (xs ys : List Entry) → IsPermutation xs ys → total h xs ≡ total h ys
total_moved h xs ys p = total-sum_by h xs ∙ sym (sum_by-IsPermutation h xs ys p) ∙ sym (total-sum_by h ys)

-- an entry of the list can be put first
abbrev Pulls : Entry → List Entry → Type 0
Pulls x ys = (rest : List Entry) × IsPermutation ys (x ∷ rest)

pull_by : (x y : Entry) (ys : List Entry) (b : Bool) → same_entry x y ≡ b → 0 < hit x y + total (hit x) ys → (0 < total (hit x) ys → Pulls x ys) → Pulls x (y ∷ ys)
pull_by x y ys true e some_one more = (ys, subst (λ (z : Entry). IsPermutation (y ∷ ys) (z ∷ ys)) (sym (one_entry x y e)) (IsPermutation-refl (y ∷ ys)))
pull_by x y ys false e some_one more =
    let none : hit x y ≡ 0 = ap (λ (b : Bool). cond b 1 0) e in
    let rest = more (omega arith) in
    (y ∷ rest.0, IsPermutation-trans (y ∷ ys) (y ∷ x ∷ rest.0) (x ∷ y ∷ rest.0) (IsPermutation-cons y ys (x ∷ rest.0) rest.1) (IsPermutation-middle (y ∷ []) x rest.0))

pull : (x : Entry) (ys : List Entry) → 0 < total (hit x) ys → Pulls x ys
pull x [] some_one = absurd (omega arith)
pull x (y ∷ ys) some_one = pull_by x y ys (same_entry x y) refl some_one (λ lt. pull x ys lt)

pub same_weights : (xs ys : List Entry) → ((h : Entry → ℕ) → total h xs ≡ total h ys) → IsPermutation xs ys
same_weights [] [] same = IsPermutation-refl []
same_weights [] (y ∷ ys) same = let s = same (λ _. 1) in absurd (omega arith)
same_weights (x ∷ xs) ys same =
    let one : hit x x ≡ 1 = ap (λ (b : Bool). cond b 1 0) (same_itself x) in
    let s = same (hit x) in
    let put = pull x ys (omega arith) in
    let rest = same_weights xs put.0 (λ h. let a = same h in let b = total_moved h ys (x ∷ put.0) put.1 in omega arith) in
    IsPermutation-trans (x ∷ xs) (x ∷ put.0) ys (IsPermutation-cons x xs put.0 rest) (IsPermutation-sym ys (x ∷ put.0) put.1)
