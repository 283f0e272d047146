-- Which links are dead, by the entries of a table.
use Rattle.std.proofs.Common.{◌≡◌, ℕ, ◌||◌, ◌&&◌, ◌++◌, Bool, true, false, cond, List, [], ◌∷◌, Some, nat_eq, refl, sym, ap, ◌∙◌, subst}
use Rattle.std.proofs.Math.Bool.{or-false}
use Rattle.std.proofs.lemmas.Bool.{eqb-true}
use Rattle.std.proofs.lemmas.Map.Keys.{IsDistinct-head, IsDistinct-tail}
use Rattle.std.specs.Option.{option_map_or}
use Rattle.std.specs.List.{list_any, IsDistinct, AllByRecursion}
use Rattle.std.specs.Map.{keys_of, lookup}
use Rattle.std.specs.FinMap.{from_entries}
use Rattle.fz_model.specs.State.{Map, Object}
use Rattle.fz_model.specs.Pass.{is_outside, is_dead}
use Rattle.fz_model.proofs.Tables.{get_made}

-- a link among these is dead
abbrev pub is_dead_in : Map Object → (ℕ → Bool) → List (ℕ × ℕ) → ℕ → Bool
is_dead_in objects set es a = list_any (λ e. nat_eq a e.0 && is_outside objects set e.1) es

pub any_push : {X : Type 0} (p : X → Bool) (xs : List X) (x : X) → list_any p (xs ++ x ∷ []) ≡ (list_any p xs || p x)
any_push p [] x = or-false (p x)
any_push p (y ∷ xs) x = ap (λ b. p y || b) (any_push p xs x) ∙ joined (p y) (list_any p xs) (p x)
  where
    joined : (a b c : Bool) → (a || (b || c)) ≡ ((a || b) || c)
    joined true b c = refl
    joined false b c = refl

-- if each key occurs once, a key's value passes if an entry with the key passes
any_absent : (p : ℕ → Bool) (a : ℕ) (es : List (ℕ × ℕ)) → AllByRecursion (λ y. nat_eq a y ≡ false) (keys_of es) → list_any (λ e. nat_eq a e.0 && p e.1) es ≡ false
any_absent p a [] h = refl
any_absent p a (e ∷ es) h = ap (λ b. (b && p e.1) || list_any (λ e. nat_eq a e.0 && p e.1) es) h.0 ∙ any_absent p a es h.1

any_looked_up : (p : ℕ → Bool) (a : ℕ) (es : List (ℕ × ℕ)) → IsDistinct nat_eq (keys_of es) → option_map_or p (lookup (nat_eq a) es) false ≡ list_any (λ e. nat_eq a e.0 && p e.1) es
any_looked_up p a [] once = refl
any_looked_up p a (e ∷ es) once = at (nat_eq a e.0) refl (any_looked_up p a es (IsDistinct-tail nat_eq e.0 (keys_of es) once))
  where
    none : nat_eq a e.0 ≡ true → list_any (λ e. nat_eq a e.0 && p e.1) es ≡ false
    none is = any_absent p a es (subst (λ k. AllByRecursion (λ y. nat_eq k y ≡ false) (keys_of es)) (sym (eqb-true a e.0 is)) (IsDistinct-head nat_eq e.0 (keys_of es) once))

    at : (b : Bool) → nat_eq a e.0 ≡ b → option_map_or p (lookup (nat_eq a) es) false ≡ list_any (λ e. nat_eq a e.0 && p e.1) es → option_map_or p (cond b (Some e.1) (lookup (nat_eq a) es)) false ≡ ((b && p e.1) || list_any (λ e. nat_eq a e.0 && p e.1) es)
    at true is rest = sym (ap (λ r. p e.1 || r) (none is) ∙ or-false (p e.1))
    at false is rest = rest

pub dead_links : (objects : Map Object) (set : ℕ → Bool) (es : List (ℕ × ℕ)) (a : ℕ) → IsDistinct nat_eq (keys_of es) → is_dead_in objects set es a ≡ is_dead objects (from_entries es) set a
dead_links objects set es a once = sym (ap (λ o. option_map_or (is_outside objects set) o false) (get_made es a) ∙ any_looked_up (is_outside objects set) a es once)
