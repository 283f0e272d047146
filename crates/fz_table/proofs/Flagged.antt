-- The entries of a table: their registrations without flags, and the set of flags.
use Rattle.std.proofs.Common.{◌≡◌, ◌≤◌, ◌<◌, ℕ, Bool, true, false, true≢false, cond, not, ◌&&◌, ◌||◌, List, [], ◌∷◌, length, map, get_or, zero, suc, Option, Some, option_map, nat_eq, nat_cmp, refl, sym, ap, subst, ◌∙◌, arith, All, Equal}
use Rattle.std.specs.Map.{lookup, keys_of}
use Rattle.std.specs.Cmp.{nat_cmp_total, nat_eq_equiv, unsigned_tied, ranked}
use Rattle.std.specs.List.{list_any, IsDistinct}
use Rattle.std.specs.Option.{option_map_or}
use Rattle.std.specs.Ordering.{eq_by_cmp}
use Rattle.std.specs.FinSet.{contains, from_list, empty, contains-retain, contains-from_list_nat, contains-insert, contains-remove, contains-empty, len-insert, len-remove, empty_of_len, same_set, nat_cmp-IsAntisymmetric}
use Rattle.std.specs.FinSet as sets
use Rattle.std.specs.FinMap as maps
use Rattle.std.specs.FinMap.{get, from_entries}
use Rattle.std.proofs.lemmas.List.{length-map}
use Rattle.fz_model.proofs.KeyedEntries.{len_made}
use Rattle.fz_model.proofs.Tables.{get_made}
use Rattle.std.proofs.lemmas.Map.Views.{lookup-from_Contains}
use Rattle.fz_table.specs.declared.stored.Stored.{Stored}
use Rattle.fz_table.specs.Tabled.{Set, shown, plain, flag_at, flagged, with_flag, counted}

abbrev pub late_in : Option Stored → Bool
late_in o = option_map_or (λ (s : Stored). s.unreachable) o false

-- ---- registrations without flags

shown_cond : (b : Bool) (x y : Option Stored) → option_map shown (cond b x y) ≡ cond b (option_map shown x) (option_map shown y)
shown_cond true x y = refl
shown_cond false x y = refl

pub lookup_plain : (es : List (ℕ × Stored)) (q : ℕ) → lookup (nat_eq q) (map plain es) ≡ option_map shown (lookup (nat_eq q) es)
lookup_plain [] q = refl
lookup_plain (e ∷ es) q = ap (λ o. cond (nat_eq q e.0) (Some (shown e.1)) o) (lookup_plain es q) ∙ sym (shown_cond (nat_eq q e.0) (Some e.1) (lookup (nat_eq q) es))

pub keys_plain : (es : List (ℕ × Stored)) → keys_of (map plain es) ≡ keys_of es
keys_plain [] = refl
keys_plain (e ∷ es) = ap (λ ks. e.0 ∷ ks) (keys_plain es)

-- an entry comes, or goes
module _ (es ns : List (ℕ × Stored)) (k : ℕ) (w : Option Stored) (h : (q : ℕ) → lookup (nat_eq q) ns ≡ cond (nat_eq k q) w (lookup (nat_eq q) es)) where
  pub plain_changed : (q : ℕ) → lookup (nat_eq q) (map plain ns) ≡ cond (nat_eq k q) (option_map shown w) (lookup (nat_eq q) (map plain es))
  plain_changed q =
      lookup_plain ns q ∙ ap (option_map shown) (h q) ∙ shown_cond (nat_eq k q) w (lookup (nat_eq q) es)
      ∙ ap (λ o. cond (nat_eq k q) (option_map shown w) o) (sym (lookup_plain es q))

-- ---- the set of flags

turned : (q k : ℕ) → eq_by_cmp nat_cmp q k ≡ nat_eq k q
turned q k = unsigned_tied q k ∙ nat_eq_equiv.symm q k

in_keys : (es : List (ℕ × Stored)) (q : ℕ) → flag_at es q ≡ true → list_any (λ y. nat_eq y q) (keys_of es) ≡ true
in_keys [] q on = absurd (true≢false (sym on))
in_keys (e ∷ es) q on = at (nat_eq q e.0) refl (in_keys es q) on
  where
    either : (b : Bool) → (b || true) ≡ true
    either true = refl
    either false = refl

    at : (b : Bool) → nat_eq q e.0 ≡ b → (flag_at es q ≡ true → list_any (λ y. nat_eq y q) (keys_of es) ≡ true) → late_in (cond b (Some e.1) (lookup (nat_eq q) es)) ≡ true → (nat_eq e.0 q || list_any (λ y. nat_eq y q) (keys_of es)) ≡ true
    at true same rest on = ap (λ b. b || list_any (λ y. nat_eq y q) (keys_of es)) (nat_eq_equiv.symm e.0 q ∙ same)
    at false other rest on = ap (λ b. nat_eq e.0 q || b) (rest on) ∙ either (nat_eq e.0 q)

pub contains_flagged : (es : List (ℕ × Stored)) (q : ℕ) → contains (flagged es) q ≡ flag_at es q
contains_flagged es q =
    contains-retain (from_list {R = nat_cmp} (keys_of es)) (flag_at es) q (λ x t. ap (flag_at es) (sym (ranked q x Equal (sym t))))
    ∙ ap (λ b. b && flag_at es q) (contains-from_list_nat (keys_of es) q)
    ∙ both (flag_at es q) (list_any (λ y. nat_eq y q) (keys_of es)) (in_keys es q)
  where
    both : (b any : Bool) → (b ≡ true → any ≡ true) → (any && b) ≡ b
    both true any h = ap (λ c. c && true) (h refl)
    both false true h = refl
    both false false h = refl

pub no_flags : flagged [] ≡ empty
no_flags = same_set nat_cmp_total nat_cmp-IsAntisymmetric _ _ (λ q. contains_flagged [] q ∙ sym (contains-empty nat_cmp q))

pub with_flag_at : (late : Set) (k : ℕ) (flag : Bool) (q : ℕ) → contains (with_flag late k flag) q ≡ cond (nat_eq k q) flag (contains late q)
with_flag_at late k true q = contains-insert nat_cmp_total late k q ∙ ap (λ b. b || contains late q) (turned q k) ∙ here (nat_eq k q)
  where
    here : (b : Bool) → (b || contains late q) ≡ cond b true (contains late q)
    here true = refl
    here false = refl
with_flag_at late k false q = contains-remove nat_cmp_total late k q ∙ ap (λ b. not b && contains late q) (turned q k) ∙ gone (nat_eq k q)
  where
    gone : (b : Bool) → (not b && contains late q) ≡ cond b false (contains late q)
    gone true = refl
    gone false = refl

late_cond : (b : Bool) (x y : Option Stored) → late_in (cond b x y) ≡ cond b (late_in x) (late_in y)
late_cond true x y = refl
late_cond false x y = refl

pub flags_changed : (es ns : List (ℕ × Stored)) (k : ℕ) (w : Option Stored) → ((q : ℕ) → lookup (nat_eq q) ns ≡ cond (nat_eq k q) w (lookup (nat_eq q) es)) → flagged ns ≡ with_flag (flagged es) k (late_in w)
flags_changed es ns k w h =
    same_set nat_cmp_total nat_cmp-IsAntisymmetric _ _
    (λ q.
    contains_flagged ns q ∙ ap late_in (h q) ∙ late_cond (nat_eq k q) w (lookup (nat_eq q) es)
    ∙ ap (λ b. cond (nat_eq k q) (late_in w) b) (sym (contains_flagged es q))
    ∙ sym (with_flag_at (flagged es) k (late_in w) q))

-- how many there are then
pub flags_counted : (late : Set) (k : ℕ) (now : Bool) → sets.len (with_flag late k now) ≡ counted (sets.len late) (contains late k) now
flags_counted late k true = len-insert nat_cmp_total late k
flags_counted late k false = len-remove nat_cmp_total late k

-- each entry has its flag in the set, if each key occurs once
pub flags_of_each : (es : List (ℕ × Stored)) → IsDistinct nat_eq (keys_of es) → All (λ (e : ℕ × Stored). e.1.unreachable ≡ contains (flagged es) e.0) es
flags_of_each es once i d lt =
    let e = get_or es i d in
    let at : lookup (nat_eq e.0) es ≡ Some e.1 = lookup-from_Contains nat_eq_equiv e.0 e.1 es once (i, lt, place es i d e lt refl) in
    sym (contains_flagged es e.0 ∙ ap late_in at)
  where
    place : (xs : List (ℕ × Stored)) (i : ℕ) (d e : ℕ × Stored) → i < length xs → get_or xs i d ≡ e → get_or xs i e ≡ e
    place [] i d e lt is = absurd (omega (arith, lt))
    place (x ∷ xs) zero d e lt is = is
    place (x ∷ xs) (suc i) d e lt is = place xs i d e (omega (arith, lt)) is

-- ---- what a table answers

pub get_shown : (es : List (ℕ × Stored)) (q : ℕ) → get (from_entries {R = nat_cmp} (map plain es)) q ≡ option_map shown (lookup (nat_eq q) es)
get_shown es q = get_made (map plain es) q ∙ lookup_plain es q

pub len_shown : (es : List (ℕ × Stored)) → IsDistinct nat_eq (keys_of es) → maps.len (from_entries {R = nat_cmp} (map plain es)) ≡ length es
len_shown es once = len_made (map plain es) (subst (IsDistinct nat_eq) (sym (keys_plain es)) once) ∙ length-map es plain

-- a set without flags has none
pub none_flagged : (late : Set) → sets.len late ≡ 0 → (q : ℕ) → contains late q ≡ false
none_flagged late none q = ap (λ (s : Set). contains s q) (empty_of_len late none) ∙ contains-empty nat_cmp q

pub at_most_one : (b : Bool) → cond b 1 0 ≤ 1
at_most_one true = omega arith
at_most_one false = omega arith
