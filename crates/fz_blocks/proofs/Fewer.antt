-- A map loses as many keys as a set gains, where the set gains just those keys.
use Rattle.std.proofs.Common.{T, ◌≡◌, ℕ, suc, ◌+◌, Bool, true, false, cond, not, ◌&&◌, ◌||◌, nat_cmp, List, [], ◌∷◌, length, Option, Some, None, is_some, refl, sym, ap, ◌∙◌, arith, slice_get, is_lt}
use Rattle.std.proofs.lemmas.Bool.{cond-false, both_ways}
use Rattle.std.proofs.lemmas.List.{length-map}
use Rattle.std.specs.Cmp.{nat_cmp_total}
use Rattle.std.specs.Ordering.{eq_by_cmp}
use Rattle.std.specs.FinMap as finmap
use Rattle.std.specs.FinMap.Entries.{below_all}
use Rattle.std.specs.FinMap.{get, keys, entries, entries_sorted, get-entries, len-entries, is_sorted, retain_keys, contains_key}
use Rattle.std.specs.FinSet.{contains, insert, len, contains-insert, len-insert, same_set, nat_cmp-IsAntisymmetric}
use Rattle.fz_model.specs.State.{Map}
use Rattle.fz_model.specs.Condemned.{Addresses}
use Rattle.fz_model.proofs.Maps.{get-retain}
use Rattle.fz_model.proofs.MapEntries.{get_at, T-first, T-second, less_key, other_key}
use Rattle.fz_model.proofs.Counts.{len_retained, count_not}

module _ {X : Type 0} where
  abbrev with_keys : Addresses → List (ℕ × X) → Addresses
  with_keys s [] = s
  with_keys s (e ∷ es) = insert (with_keys s es) e.0

  contains-with_keys : (s : Addresses) (es : List (ℕ × X)) (q : ℕ) → contains (with_keys s es) q ≡ (is_some (finmap.find nat_cmp q es) || contains s q)
  contains-with_keys s [] q = refl
  contains-with_keys s (e ∷ es) q = contains-insert nat_cmp_total (with_keys s es) e.0 q ∙ ap (λ t. eq_by_cmp nat_cmp q e.0 || t) (contains-with_keys s es q) ∙ either (eq_by_cmp nat_cmp q e.0)
    where
      either : (b : Bool) → (b || (is_some (finmap.find nat_cmp q es) || contains s q)) ≡ (is_some (cond b (Some e.1) (finmap.find nat_cmp q es)) || contains s q)
      either true = refl
      either false = refl

  find_below : (k : ℕ) (es : List (ℕ × X)) → T (below_all nat_cmp k es) → finmap.find nat_cmp k es ≡ None
  find_below k [] below = refl
  find_below k (e ∷ es) below =
      let less = less_key k e.0 (T-first (is_lt (nat_cmp k e.0)) (below_all nat_cmp k es) below) in
      cond-false (eq_by_cmp nat_cmp k e.0) (Some e.1) (finmap.find nat_cmp k es) (other_key k e.0 (λ is. omega (arith, less, is)))
      ∙ find_below k es (T-second (is_lt (nat_cmp k e.0)) (below_all nat_cmp k es) below)

  len-with_keys : (s : Addresses) (es : List (ℕ × X)) → T (is_sorted nat_cmp es) → ((i : ℕ) (e : ℕ × X) → slice_get es i ≡ Some e → contains s e.0 ≡ false) → len (with_keys s es) ≡ len s + length es
  len-with_keys s [] sorted apart = omega arith
  len-with_keys s (e ∷ es) sorted apart =
      let below = T-first (below_all nat_cmp e.0 es) (is_sorted nat_cmp es) sorted in
      let absent = contains-with_keys s es e.0 ∙ ap (λ o. is_some o || contains s e.0) (find_below e.0 es below) ∙ apart 0 e refl in
      let rest = len-with_keys s es (T-second (below_all nat_cmp e.0 es) (is_sorted nat_cmp es) sorted) (λ i f here. apart (suc i) f here) in
      let more = len-insert nat_cmp_total (with_keys s es) e.0 ∙ cond-false (contains (with_keys s es) e.0) (len (with_keys s es)) (len (with_keys s es) + 1) absent in
      omega (arith, more, rest)

module _ {X : Type 0} (m : Map X) (p : ℕ → Bool) (s t : Addresses) (gained : (a : ℕ) → contains t a ≡ (contains_key m a && p a || contains s a)) (apart : (a : ℕ) → contains s a ≡ true → contains_key m a ≡ false) where
  abbrev taken : Map X
  taken = retain_keys m p

  has_taken : (a : ℕ) → is_some (get taken a) ≡ (contains_key m a && p a)
  has_taken a = ap is_some (get-retain m p a) ∙ either (p a) (get m a)
    where
      either : (b : Bool) (o : Option X) → is_some (cond b o None) ≡ (is_some o && b)
      either true None = refl
      either true (Some x) = refl
      either false None = refl
      either false (Some x) = refl

  with_taken : t ≡ with_keys s (entries taken)
  with_taken = same_set nat_cmp_total nat_cmp-IsAntisymmetric _ _ (λ a. gained a ∙ ap (λ b. b || contains s a) (sym (has_taken a) ∙ ap is_some (get-entries taken a)) ∙ sym (contains-with_keys s (entries taken) a))

  -- what is left of the map, where the set has gained `n`
  pub fewer_keys : (n : ℕ) → len t ≡ len s + n → finmap.len (retain_keys m (λ a. not (p a))) + n ≡ finmap.len m
  fewer_keys n more =
      let grown = ap len with_taken ∙ len-with_keys s (entries taken) (entries_sorted taken) outside in
      let left = len_retained (λ a. not (p a)) m in
      let gone = len_retained p m in
      let both = count_not p (keys m) in
      let all = len-entries m ∙ sym (length-map (entries m) (λ (e : ℕ × X). e.0)) in
      omega (arith, grown, more, left, gone, both, all, len-entries taken)
    where
      outside : (i : ℕ) (e : ℕ × X) → slice_get (entries taken) i ≡ Some e → contains s e.0 ≡ false
      outside i e here = cases (contains s e.0) refl
        where
          cases : (b : Bool) → contains s e.0 ≡ b → contains s e.0 ≡ false
          cases false is = is
          cases true is = absurd (both_ways _ (ap (λ b. b && p e.0) (apart e.0 is)) (sym (has_taken e.0) ∙ ap is_some (get_at taken i e here)))
