-- What goes with the registration of an object: its pair, and its entry among those of the table.
use Rattle.std.proofs.Common.{◌≡◌, ◌≤◌, ◌<◌, ℕ, ◌+◌, ◌-◌, Bool, true, false, true≢false, cond, not, ◌&&◌, nat_le, is_some, List, Option, Some, None, nat_eq, nat_cmp, refl, sym, ap, subst, ◌∙◌, arith}
use Rattle.std.proofs.lemmas.Bool.Decides.{nat_tests}
use Rattle.std.proofs.lemmas.Option.{slice_get_within}
use Rattle.fz_model.proofs.MapEntries.{place_of_key}
use Rattle.std.specs.Map.{lookup}
use Rattle.std.specs.Cmp.{nat_cmp_total}
use Rattle.std.specs.Option.{IfSome, IsSome}
use Rattle.std.specs.FinMap.{get, len, contains_key, insert, remove, entries, len-entries, len-insert, len-remove, from_entries}
use Rattle.fz_model.specs.declared.answers.Old.{Old}
use Rattle.fz_model.specs.declared.answers.Registration.{Registration}
use Rattle.fz_model.specs.State.{Map}
use Rattle.fz_model.specs.declared.limits.TheConstants.{TABLE_LIMIT}
use Rattle.fz_model.specs.Causes.{full}
use Rattle.fz_table.specs.declared.limits.TheConstants.{MOST_ENTRIES}
use Rattle.fz_table.specs.Places.{lacks_place}
use Rattle.fz_model.proofs.Tables.{get_made, made_removed}

-- what is answered of a registration that goes
abbrev pub pair_of : Registration → Old
pair_of r = record { proc = r.proc; cd = r.cd }

module _ {X : Type 0} (m : Map X) (k : ℕ) where
  -- a table that has a place for a key stays within its limit when the key comes
  pub limit_inserted : (x : X) → lacks_place m k ≡ false → len m ≤ MOST_ENTRIES → len (insert m k x) ≤ MOST_ENTRIES
  limit_inserted x free h = subst (λ n. n ≤ MOST_ENTRIES) (sym (len-insert nat_cmp_total m k x)) (by (contains_key m k) free)
    where
      by : (b : Bool) → (not b && nat_le MOST_ENTRIES (len m)) ≡ false → cond b (len m) (len m + 1) ≤ MOST_ENTRIES
      by true e = h
      by false e = grind (arith, nat_tests)

  -- and each table does when a key goes
  pub limit_removed : len m ≤ MOST_ENTRIES → len (remove m k) ≤ MOST_ENTRIES
  limit_removed h = subst (λ n. n ≤ MOST_ENTRIES) (sym (len-remove nat_cmp_total m k)) (by (contains_key m k))
    where
      by : (b : Bool) → cond b (len m - 1) (len m) ≤ MOST_ENTRIES
      by true = omega (arith, h)
      by false = h

  -- then it has a place for another
  pub place_removed : (other : ℕ) → IsSome (get m k) → len m ≤ MOST_ENTRIES → lacks_place (remove m k) other ≡ false
  place_removed other known few = by (get m k) refl (contains_key (remove m k) other)
    where
      by : (o : Option X) → get m k ≡ o → (b : Bool) → (not b && nat_le MOST_ENTRIES (len (remove m k))) ≡ false
      by o at true = refl
      by None at false = absurd (true≢false (sym (ap is_some (sym at) ∙ known)))
      by (Some x) at false =
          let found = place_of_key m k x at in
          let some = slice_get_within (entries m) found.0 (k, x) found.1 in
          let less = len-remove nat_cmp_total m k ∙ ap (λ o. cond (is_some o) (len m - 1) (len m)) at in
          let fewer : len (remove m k) < MOST_ENTRIES = omega (arith, some, less, len-entries m, few) in
          grind (arith, nat_tests)

  -- a table of the profile that isn't full for a key has a place for it
  pub place_within : (full m k).0 ≡ false → lacks_place m k ≡ false
  place_within free = by (contains_key m k) free
    where
      by : (b : Bool) → (not b && nat_le TABLE_LIMIT (len m)) ≡ false → (not b && nat_le MOST_ENTRIES (len m)) ≡ false
      by true e = e
      by false e = grind (arith, nat_tests)

-- an object whose entry is taken out of the list
module _ {X : Type 0} (es ns : List (ℕ × X)) (k : ℕ) (taken : (q : ℕ) → lookup (nat_eq q) ns ≡ cond (nat_eq k q) None (lookup (nat_eq q) es)) where
  pub limit_taken : len (from_entries {R = nat_cmp} es) ≤ MOST_ENTRIES → len (from_entries {R = nat_cmp} ns) ≤ MOST_ENTRIES
  limit_taken h = subst (λ m. len m ≤ MOST_ENTRIES) (sym (made_removed es ns k taken)) (limit_removed (from_entries es) k h)

  -- there is one fewer
  pub one_taken : (o : Option X) → o ≡ lookup (nat_eq k) es → IfSome o (λ _. len (from_entries {R = nat_cmp} ns) + 1 ≡ len (from_entries {R = nat_cmp} es))
  one_taken None is = tt
  one_taken (Some x) is =
      let m : Map X = from_entries es in
      let here : get m k ≡ Some x = get_made es k ∙ sym is in
      let at = place_of_key m k x here in
      let some = slice_get_within (entries m) at.0 (k, x) at.1 in
      let less = ap len (made_removed es ns k taken) ∙ len-remove nat_cmp_total m k ∙ ap (λ o. cond (is_some o) (len m - 1) (len m)) here in
      omega (arith, some, len-entries m, less)
