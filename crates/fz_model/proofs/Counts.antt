-- How many keys of a map pass a test.
use Rattle.std.proofs.Common.{T, ◌≡◌, ℕ, ◌+◌, ◌&&◌, Bool, true, false, cond, not, List, [], ◌∷◌, map, length, Option, Some, None, refl, sym, ap, ◌∙◌, ⊎_elim, arith, suc, slice_get, filter, count_by, nat_cmp, is_lt}
use Rattle.std.proofs.lemmas.Bool.{cases_Bool, cond-true, cond-false}
use Rattle.std.proofs.lemmas.List.Sums.{length-filter}
use Rattle.std.specs.Ordering.{eq_by_cmp}
use Rattle.std.specs.Cmp.{nat_cmp_total}
use Rattle.std.specs.FinMap as finmap
use Rattle.std.specs.FinMap.Entries.{below_all}
use Rattle.std.specs.FinMap.{entries, entries_sorted, entries-from_sorted, get-from_sorted, get-entries, from_sorted, retain_keys, len, len-entries, keys, same_map, nat_cmp-IsAntisymmetric, is_sorted}
use Rattle.fz_model.specs.State.{Map}
use Rattle.fz_model.specs.Extents.{mapped}
use Rattle.fz_model.proofs.Lists.{count_cons}
use Rattle.fz_model.proofs.MapEntries.{same_key, T-first, T-second}
use Rattle.fz_model.proofs.Maps.{get-retain, entries-mapped}

module _ {X : Type 0} where
  -- tests that agree on a list pass as often
  pub count_alike : (p q : X → Bool) (xs : List X) → ((k : ℕ) (x : X) → slice_get xs k ≡ Some x → p x ≡ q x) → count_by p xs ≡ count_by q xs
  count_alike p q [] h = refl
  count_alike p q (x ∷ xs) h =
      count_cons p x xs ∙ ap (λ b. cond b 1 0 + count_by p xs) (h 0 x refl) ∙ ap (λ n. cond (q x) 1 0 + n) (count_alike p q xs (λ k y e. h (suc k) y e)) ∙ sym (count_cons q x xs)

  -- what passes and what doesn't is all
  pub count_not : (p : X → Bool) (xs : List X) → count_by p xs + count_by (λ x. not (p x)) xs ≡ length xs
  count_not p [] = refl
  count_not p (x ∷ xs) =
      let rest = count_not p xs in
      let a = count_cons p x xs in
      let b = count_cons (λ x. not (p x)) x xs in
      ⊎_elim
      (λ on. omega (arith, a, b, rest, ap {B = ℕ} (λ t. cond t 1 0) on, ap {B = ℕ} (λ t. cond (not t) 1 0) on))
      (λ off. omega (arith, a, b, rest, ap {B = ℕ} (λ t. cond t 1 0) off, ap {B = ℕ} (λ t. cond (not t) 1 0) off))
      (cases_Bool (p x))

T-both : (a b : Bool) → T a → T b → T (a && b)
T-both true b h g = g
T-both false b h g = absurd h

module _ {X : Type 0} (p : ℕ → Bool) where
  abbrev kept : List (ℕ × X) → List (ℕ × X)
  kept es = filter (λ e. p e.0) es

  below_kept : (k : ℕ) (es : List (ℕ × X)) → T (below_all nat_cmp k es) → T (below_all nat_cmp k (kept es))
  below_kept k [] h = h
  below_kept k (e ∷ es) h =
      let rest = below_kept k es (T-second (is_lt (nat_cmp k e.0)) (below_all nat_cmp k es) h) in
      elim (p e.0) as (λ b. T (below_all nat_cmp k (cond b (e ∷ kept es) (kept es)))) [
        | true ↦ T-both (is_lt (nat_cmp k e.0)) (below_all nat_cmp k (kept es)) (T-first (is_lt (nat_cmp k e.0)) (below_all nat_cmp k es) h) rest
        | false ↦ rest
      ]

  sorted_kept : (es : List (ℕ × X)) → T (is_sorted nat_cmp es) → T (is_sorted nat_cmp (kept es))
  sorted_kept [] h = h
  sorted_kept (e ∷ es) h =
      let below = below_kept e.0 es (T-first (below_all nat_cmp e.0 es) (is_sorted nat_cmp es) h) in
      let rest = sorted_kept es (T-second (below_all nat_cmp e.0 es) (is_sorted nat_cmp es) h) in
      elim (p e.0) as (λ b. T (is_sorted nat_cmp (cond b (e ∷ kept es) (kept es)))) [
        | true ↦ T-both (below_all nat_cmp e.0 (kept es)) (is_sorted nat_cmp (kept es)) below rest
        | false ↦ rest
      ]

  find_kept : (q : ℕ) (es : List (ℕ × X)) → finmap.find nat_cmp q (kept es) ≡ cond (p q) (finmap.find nat_cmp q es) None
  find_kept q [] = elim (p q) as (λ b. ◌≡◌ {A = Option X} None (cond b None None)) [ true ↦ refl | false ↦ refl ]
  find_kept q (e ∷ es) =
      elim (p e.0) as (λ b. p e.0 ≡ b → finmap.find nat_cmp q (cond b (e ∷ kept es) (kept es)) ≡ cond (p q) (finmap.find nat_cmp q (e ∷ es)) None) [
        | true ↦ λ on. elim (eq_by_cmp nat_cmp q e.0) as (λ t. eq_by_cmp nat_cmp q e.0 ≡ t → cond t (Some e.1) (finmap.find nat_cmp q (kept es)) ≡ cond (p q) (cond t (Some e.1) (finmap.find nat_cmp q es)) None) [
          | true ↦ λ same. sym (cond-true (p q) (Some e.1) None (ap p (same_key q e.0 same) ∙ on))
          | false ↦ λ _. find_kept q es
        ] refl
        | false ↦ λ off. elim (eq_by_cmp nat_cmp q e.0) as (λ t. eq_by_cmp nat_cmp q e.0 ≡ t → finmap.find nat_cmp q (kept es) ≡ cond (p q) (cond t (Some e.1) (finmap.find nat_cmp q es)) None) [
          | true ↦ λ same. find_kept q es ∙ cond-false (p q) (finmap.find nat_cmp q es) None (ap p (same_key q e.0 same) ∙ off) ∙ sym (cond-false (p q) (Some e.1) None (ap p (same_key q e.0 same) ∙ off))
          | false ↦ λ _. find_kept q es
        ] refl
      ] refl

  count_firsts : (es : List (ℕ × X)) → count_by (λ (e : ℕ × X). p e.0) es ≡ count_by p (map (λ e. e.0) es)
  count_firsts [] = refl
  count_firsts (e ∷ es) = count_cons (λ (e : ℕ × X). p e.0) e es ∙ ap (λ n. cond (p e.0) 1 0 + n) (count_firsts es) ∙ sym (count_cons p e.0 (map (λ e. e.0) es))

  -- a map that is cut down has as many keys as pass
  pub len_retained : (m : Map X) → len (retain_keys m p) ≡ count_by p (keys m)
  len_retained m =
      let sorted = sorted_kept (entries m) (entries_sorted m) in
      let same : retain_keys m p ≡ from_sorted (kept (entries m)) =
      same_map nat_cmp_total nat_cmp-IsAntisymmetric _ _ (λ q.
      get-retain m p q ∙ ap (λ o. cond (p q) o None) (get-entries m q) ∙ sym (find_kept q (entries m)) ∙ sym (get-from_sorted nat_cmp (kept (entries m)) q sorted)) in
      ap len same ∙ len-entries (from_sorted {R = nat_cmp} (kept (entries m))) ∙ ap length (entries-from_sorted nat_cmp (kept (entries m)) sorted) ∙ length-filter (λ (e : ℕ × X). p e.0) (entries m) ∙ count_firsts (entries m)

-- a map whose values are made anew has the same keys
pub keys-mapped : {X Y : Type 0} (f : ℕ → X → Y) (m : Map X) → keys (mapped f m) ≡ keys m
keys-mapped {X = X} {Y = Y} f m = ap (λ es. map (λ e. e.0) es) (entries-mapped f m) ∙ firsts (entries m)
  where
    firsts : (es : List (ℕ × X)) → map (λ (e : ℕ × Y). e.0) (map (λ e. (e.0, f e.0 e.1)) es) ≡ map (λ e. e.0) es
    firsts [] = refl
    firsts (e ∷ es) = ap (λ ks. e.0 ∷ ks) (firsts es)
