-- The finite map of a table's list of entries: how many it has, what it contains, and whether it stays within the table's limit.
-- A contract sees a table's iterator as the list of what is left. So a loop for (key, x) in table.iter() keeps the invariant
-- from_entries (l.yielded ++ l.key-iterator) ≡ l.table, with no answer, and at its end nothing is left. Then got, listed and
-- All-got go between such a list and what get answers.
use Rattle.std.proofs.Common.{◌≡◌, ◌≤◌, ℕ, ◌+◌, ◌-◌, Bool, true, false, cond, not, ◌&&◌, nat_le, is_some, List, [], ◌∷◌, length, Some, None, nat_eq, nat_cmp, refl, sym, ap, subst, ◌∙◌, add-one, arith}
use Rattle.std.proofs.lemmas.Bool.{eq-eqb, eqb-true}
use Rattle.std.proofs.lemmas.Bool.Decides.{nat_tests}
use Rattle.std.proofs.lemmas.List.Elements.{All-contains}
use Rattle.std.proofs.lemmas.Map.Keys.{IsDistinct-head, IsDistinct-tail}
use Rattle.std.proofs.lemmas.Map.Views.{Contains-from_lookup, lookup-from_Contains}
use Rattle.std.specs.List.{All, Contains, IsDistinct, AllByRecursion}
use Rattle.std.specs.Map.{keys_of, lookup}
use Rattle.std.specs.Cmp.{nat_cmp_total, nat_eq_equiv}
use Rattle.std.specs.FinMap.{get, len, empty, insert, remove, contains_key, from_entries, get-empty, len-empty, len-insert, len-remove}
use Rattle.fz_model.specs.declared.limits.TheConstants.{TABLE_LIMIT}
use Rattle.fz_model.specs.State.{Map}
use Rattle.fz_model.specs.Causes.{full}
use Rattle.fz_model.proofs.Tables.{get_made}

module _ {X : Type 0} where
  absent : (k : ℕ) (es : List (ℕ × X)) → AllByRecursion (λ y. nat_eq k y ≡ false) (keys_of es) → lookup (nat_eq k) es ≡ None
  absent k [] h = refl
  absent k (e ∷ es) h = ap (λ b. cond b (Some e.1) (lookup (nat_eq k) es)) h.0 ∙ absent k es h.1

  -- if each key occurs once, the map has as many entries as the list
  pub len_made : (es : List (ℕ × X)) → IsDistinct nat_eq (keys_of es) → len (from_entries {R = nat_cmp} es) ≡ length es
  len_made [] h = len-empty nat_cmp X
  len_made (e ∷ es) h =
      let n = len (from_entries {R = nat_cmp} es) in
      len-insert nat_cmp_total (from_entries es) e.0 e.1
      ∙ ap (λ o. cond (is_some o) n (n + 1)) (get_made es e.0 ∙ absent e.0 es (IsDistinct-head nat_eq e.0 (keys_of es) h))
      ∙ ap (λ k. k + 1) (len_made es (IsDistinct-tail nat_eq e.0 (keys_of es) h)) ∙ add-one (length es)

  -- what the map has is in the list
  pub listed : (es : List (ℕ × X)) (k : ℕ) (x : X) → get (from_entries {R = nat_cmp} es) k ≡ Some x → Contains es (k, x)
  listed es k x h = Contains-from_lookup eqb-true k x es (sym (get_made es k) ∙ h)

  -- and if each key occurs once, what is in the list is what the map has
  pub got : (es : List (ℕ × X)) (k : ℕ) (x : X) → IsDistinct nat_eq (keys_of es) → Contains es (k, x) → get (from_entries {R = nat_cmp} es) k ≡ Some x
  got es k x once h = get_made es k ∙ lookup-from_Contains nat_eq_equiv k x es once h

  -- what holds of each entry of the list holds of what the map has
  pub All-got : (P : ℕ × X → Type 0) (es : List (ℕ × X)) → All P es → (k : ℕ) (x : X) → get (from_entries {R = nat_cmp} es) k ≡ Some x → P (k, x)
  All-got P es all k x h = All-contains P es (k, x) all (listed es k x h)

  -- only no entries make the empty map
  pub empty_made : (es : List (ℕ × X)) → length es ≡ 0 → from_entries {R = nat_cmp} es ≡ empty
  empty_made [] h = refl
  empty_made (e ∷ es) h = absurd (omega arith)

  pub none_made : (es : List (ℕ × X)) → from_entries {R = nat_cmp} es ≡ empty → length es ≡ 0
  none_made [] h = refl
  none_made (e ∷ es) h =
      let found : get (from_entries {R = nat_cmp} (e ∷ es)) e.0 ≡ Some e.1 = get_made (e ∷ es) e.0 ∙ ap (λ b. cond b (Some e.1) (lookup (nat_eq e.0) es)) (eq-eqb e.0 e.0 refl) in
      let lost : get (from_entries {R = nat_cmp} (e ∷ es)) e.0 ≡ None = ap (λ m. get m e.0) h ∙ get-empty nat_cmp e.0 in
      cc

  -- a table that isn't full for a key stays within its limit when the key comes
  pub limit_inserted : (m : Map X) (k : ℕ) (x : X) → (full m k).0 ≡ false → len m ≤ TABLE_LIMIT → len (insert m k x) ≤ TABLE_LIMIT
  limit_inserted m k x free h = subst (λ n. n ≤ TABLE_LIMIT) (sym (len-insert nat_cmp_total m k x)) (by (contains_key m k) free)
    where
      by : (b : Bool) → (not b && nat_le TABLE_LIMIT (len m)) ≡ false → cond b (len m) (len m + 1) ≤ TABLE_LIMIT
      by true e = h
      by false e = grind (arith, nat_tests)

  -- and each table does when a key goes
  pub limit_removed : (m : Map X) (k : ℕ) → len m ≤ TABLE_LIMIT → len (remove m k) ≤ TABLE_LIMIT
  limit_removed m k h = subst (λ n. n ≤ TABLE_LIMIT) (sym (len-remove nat_cmp_total m k)) (by (contains_key m k))
    where
      by : (b : Bool) → cond b (len m - 1) (len m) ≤ TABLE_LIMIT
      by true = omega (arith, h)
      by false = h
