-- A table whose order changes, and its two halves.
use Rattle.std.proofs.Common.{◌≡◌, ◌≤◌, ◌<◌, ℕ, ◌-◌, ◌++◌, List, [], ◌∷◌, length, take, drop, get_or, slice_get, Option, Some, None, nat_eq, nat_cmp, false, refl, sym, ap, subst, ◌∙◌, arith, zero, suc, IsPermutation}
use Rattle.std.proofs.lemmas.Bool.{both_ways, eq-eqb}
use Rattle.std.proofs.lemmas.List.{length-take, get_or-take, take-append-drop}
use Rattle.std.proofs.lemmas.List.Edits.{swapped_from_swap, length-swap}
use Rattle.std.proofs.lemmas.List.Sorted.{Contains-permutation, IsPermutation-sym, IsPermutation-map, IsPermutation-append_comm}
use Rattle.std.proofs.lemmas.Map.Keys.{IsDistinct-IsPermutation, IsDistinct-head, IsDistinct-tail}
use Rattle.std.proofs.lemmas.Option.{same_Some, none-some, slice_get_within, get_or_from_slice_get, slice_get-get_or}
use Rattle.std.specs.List.{IsDistinct, AllByRecursion, swap}
use Rattle.std.specs.Map.{keys_of}
use Rattle.std.specs.Cmp.{nat_cmp_total, nat_eq_equiv}
use Rattle.std.specs.FinMap.{get, from_entries, same_map, nat_cmp-IsAntisymmetric}
use Rattle.fz_model.proofs.Lists.{place_of}
use Rattle.fz_model.proofs.KeyedEntries.{got, listed}

-- the order of the links makes no difference
pub permuted : (es fs : List (ℕ × ℕ)) → IsDistinct nat_eq (keys_of es) → IsPermutation es fs → from_entries {R = nat_cmp} fs ≡ from_entries es
permuted es fs once moved = same_map nat_cmp_total nat_cmp-IsAntisymmetric _ _ (λ q. by q (get (from_entries {R = nat_cmp} es) q) refl (get (from_entries {R = nat_cmp} fs) q) refl)
  where
    once_there : IsDistinct nat_eq (keys_of fs)
    once_there = IsDistinct-IsPermutation nat_eq (λ x y. nat_eq_equiv.symm x y) (keys_of es) (keys_of fs) (IsPermutation-map (λ (e : ℕ × ℕ). e.0) es fs moved) once

    by : (q : ℕ) (o : Option ℕ) → get (from_entries {R = nat_cmp} es) q ≡ o → (p : Option ℕ) → get (from_entries {R = nat_cmp} fs) q ≡ p → get (from_entries {R = nat_cmp} fs) q ≡ get (from_entries {R = nat_cmp} es) q
    by q (Some x) here p there = got fs q x once_there (Contains-permutation es fs (q, x) moved (listed es q x here)) ∙ sym here
    by q None none None there = there ∙ sym none
    by q None none (Some x) there = absurd (none-some x (sym none ∙ got es q x once (Contains-permutation fs es (q, x) (IsPermutation-sym es fs moved) (listed fs q x there))))

pub halves_turned : (es : List (ℕ × ℕ)) (n : ℕ) → IsDistinct nat_eq (keys_of es) → from_entries {R = nat_cmp} (drop n es ++ take n es) ≡ from_entries es
halves_turned es n once = permuted es (drop n es ++ take n es) once (subst (λ xs. IsPermutation xs (drop n es ++ take n es)) (take-append-drop n es) (IsPermutation-append_comm (take n es) (drop n es)))

-- a word has one link
key_at : (P : ℕ → Type 0) (es : List (ℕ × ℕ)) → AllByRecursion P (keys_of es) → (j k x : ℕ) → slice_get es j ≡ Some (k, x) → P k
key_at P [] h j k x at = absurd (none-some (k, x) at)
key_at P (e ∷ es) h zero k x at = subst (λ (f : ℕ × ℕ). P f.0) (same_Some e (k, x) at) h.0
key_at P (e ∷ es) h (suc j) k x at = key_at P es h.1 j k x at

later : (e : ℕ × ℕ) (es : List (ℕ × ℕ)) → IsDistinct nat_eq (keys_of (e ∷ es)) → (j k x y : ℕ) → e ≡ (k, x) → slice_get es j ≡ Some (k, y) → ⊥
later e es once j k x y is at = both_ways (nat_eq e.0 k) (key_at (λ key. nat_eq e.0 key ≡ false) es (IsDistinct-head nat_eq e.0 (keys_of es) once) j k y at) (eq-eqb e.0 k (ap (λ (f : ℕ × ℕ). f.0) is))

one_place : (es : List (ℕ × ℕ)) → IsDistinct nat_eq (keys_of es) → (i j k x y : ℕ) → slice_get es i ≡ Some (k, x) → slice_get es j ≡ Some (k, y) → i ≡ j
one_place [] once i j k x y at there = absurd (none-some (k, x) at)
one_place (e ∷ es) once zero zero k x y at there = refl
one_place (e ∷ es) once zero (suc j) k x y at there = absurd (later e es once j k x y (same_Some e (k, x) at) there)
one_place (e ∷ es) once (suc i) zero k x y at there = absurd (later e es once i k y x (same_Some e (k, y) there) at)
one_place (e ∷ es) once (suc i) (suc j) k x y at there = ap suc (one_place es (IsDistinct-tail nat_eq e.0 (keys_of es) once) i j k x y at there)

-- so the links before its own don't have its word
pub absent_before : (es : List (ℕ × ℕ)) (n place k x : ℕ) → IsDistinct nat_eq (keys_of es) → n ≤ place → slice_get es place ≡ Some (k, x) → get (from_entries {R = nat_cmp} (take n es)) k ≡ None
absent_before es n place k x once before at = by (get (from_entries {R = nat_cmp} (take n es)) k) refl
  where
    by : (o : Option ℕ) → get (from_entries {R = nat_cmp} (take n es)) k ≡ o → get (from_entries {R = nat_cmp} (take n es)) k ≡ None
    by None is = is
    by (Some y) is =
        let p = place_of (take n es) (k, y) (listed (take n es) k y is) in
        let inside = slice_get_within (take n es) p.0 (k, y) p.1 in
        let cut = length-take n es in
        let lt : p.0 < n = omega (arith, inside, cut) in
        let e_is : get_or es p.0 (k, y) ≡ (k, y) = sym (get_or-take n es p.0 (k, y) lt) ∙ get_or_from_slice_get (take n es) p.0 (k, y) (k, y) p.1 in
        let here : slice_get es p.0 ≡ Some (k, y) = slice_get-get_or es p.0 (k, y) (omega (arith, inside, cut)) ∙ ap (λ (e : ℕ × ℕ). Some e) e_is in
        absurd (let same = one_place es once p.0 place k y x here at in omega (arith, same, lt, before))

-- a link that changes places with the last
pub comes_last : (es ns : List (ℕ × ℕ)) (place k x : ℕ) → slice_get es place ≡ Some (k, x) → ns ≡ swap es place (length es - 1) → slice_get ns (length ns - 1) ≡ Some (k, x)
comes_last es ns place k x at is =
    let inside = slice_get_within es place (k, x) at in
    let swapped = swapped_from_swap es ns place (length es - 1) (k, x) inside (omega (arith, inside)) is in
    let long = ap length is ∙ length-swap es place (length es - 1) in
    let e_is : get_or ns (length es - 1) (k, x) ≡ (k, x) = swapped.1 ∙ get_or_from_slice_get es place (k, x) (k, x) at in
    ap (λ n. slice_get ns (n - 1)) long ∙ slice_get-get_or ns (length es - 1) (k, x) (omega (arith, inside, long)) ∙ ap (λ (e : ℕ × ℕ). Some e) e_is
