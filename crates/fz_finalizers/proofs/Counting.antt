-- How many keys maps have, as keys come and go.
use Rattle.std.proofs.Common.{◌≡◌, ◌≤◌, ℕ, ◌+◌, ◌-◌, Bool, true, false, true≢false, cond, is_some, Option, Some, None, refl, sym, ap, subst, ◌∙◌, arith}
use Rattle.std.proofs.lemmas.Option.{slice_get_within}
use Rattle.std.proofs.lemmas.List.{length-map}
use Rattle.std.proofs.lemmas.List.Sums.{count_by-le-length}
use Rattle.std.specs.Cmp.{nat_cmp_total}
use Rattle.std.specs.FinMap.{get, len, contains_key, insert, remove, keys, entries, retain_keys, len-entries, len-insert, len-remove}
use Rattle.fz_model.specs.State.{Map}
use Rattle.fz_model.proofs.Counts.{len_retained}
use Rattle.fz_model.proofs.MapEntries.{place_of_key}

module _ {X : Type 0} (m : Map X) (k : ℕ) where
  pub len_grown : (x : X) → len (insert m k x) ≤ len m + 1
  len_grown x = subst (λ n. n ≤ len m + 1) (sym (len-insert nat_cmp_total m k x)) (by (contains_key m k))
    where
      by : (b : Bool) → cond b (len m) (len m + 1) ≤ len m + 1
      by true = omega arith
      by false = omega arith

  pub len_known : (x : X) → is_some (get m k) ≡ true → len (insert m k x) ≡ len m
  len_known x known = len-insert nat_cmp_total m k x ∙ ap (λ b. cond b (len m) (len m + 1)) known

  pub len_less : len (remove m k) ≤ len m
  len_less = subst (λ n. n ≤ len m) (sym (len-remove nat_cmp_total m k)) (by (contains_key m k))
    where
      by : (b : Bool) → cond b (len m - 1) (len m) ≤ len m
      by true = omega arith
      by false = omega arith

  pub len_gone : is_some (get m k) ≡ true → len (remove m k) + 1 ≡ len m
  len_gone known = by (get m k) refl known
    where
      by : (o : Option X) → get m k ≡ o → is_some o ≡ true → len (remove m k) + 1 ≡ len m
      by None at is = absurd (true≢false (sym is))
      by (Some x) at is =
          let found = place_of_key m k x at in
          let some = slice_get_within (entries m) found.0 (k, x) found.1 in
          let less = len-remove nat_cmp_total m k ∙ ap (λ (o : Option X). cond (is_some o) (len m - 1) (len m)) at in
          omega (arith, some, less, len-entries m)

-- a map of which some keys stay has no more
pub len_within : {X : Type 0} (m n : Map X) (p : ℕ → Bool) → n ≡ retain_keys m p → len n ≤ len m
len_within {X} m n p is =
    let left = ap len is ∙ len_retained p m in
    let all = len-entries m ∙ sym (length-map (entries m) (λ (e : ℕ × X). e.0)) in
    omega (arith, left, all, count_by-le-length p (keys m))
