-- What a guardian has: of the unfinished entries those that are held.
use Rattle.std.proofs.Common.{◌≡◌, ℕ, ◌++◌, Bool, true, false, cond, List, [], ◌∷◌, length, Some, slice_get, refl, sym, ap, ◌∙◌, subst, arith, Contains, filter, zero, suc}
use Rattle.std.proofs.Common.{◌==◌, not, None, if◌then◌else◌, IsTrue}
use Rattle.std.proofs.lemmas.Bool.{both_ways, and_parts, eq-eqb, not-true}
use Rattle.std.proofs.lemmas.Option.{none-some, same_Some}
use Rattle.std.proofs.lemmas.List.Elements.{filter-append}
use Rattle.std.proofs.lemmas.List.Folds.{list_any_at}
use Rattle.std.specs.FinMap.{contains_key}
use Rattle.fz_model.specs.declared.answers.Entry.{Entry}
use Rattle.fz_model.specs.State.{Map, Object}
use Rattle.fz_model.specs.Events.{same_entry}
use Rattle.fz_model.proofs.Events.{one_entry, same_itself}
use Rattle.fz_model.proofs.Lists.{any_at, contains_at, filter_at}
use Rattle.fz_finalizers.specs.Causes.{finish_causes, first_cause}
use Rattle.fz_finalizers.specs.declared.refused.Refused.{Refused}
use Rattle.fz_finalizers.specs.declared.refused.Refused.TheVariants.{NotHeld}
use Rattle.fz_finalizers.specs.States.{State, is_held, unfinished, waiting}
use Rattle.own_heap.specs.Guarding.{guarded, is_guarded}
use Rattle.own_heap.specs.Sound.{HeldStand}

module _ (p : Entry → Bool) where
  -- the next one doesn't pass, or is the first that does
  pub none_on : (xs : List Entry) (x : Entry) → filter p xs ≡ [] → p x ≡ false → filter p (xs ++ x ∷ []) ≡ []
  none_on xs x none off = filter-append p xs (x ∷ []) ∙ ap (λ l. l ++ filter p (x ∷ [])) none ∙ ap (λ b. cond b (x ∷ []) []) off

  pub first_on : (xs : List Entry) (x : Entry) (ys : List Entry) → filter p xs ≡ [] → p x ≡ true → filter p ((xs ++ x ∷ []) ++ ys) ≡ x ∷ filter p ys
  first_on xs x ys none on =
      filter-append p (xs ++ x ∷ []) ys
      ∙ ap (λ l. l ++ filter p ys) (filter-append p xs (x ∷ []) ∙ ap (λ l. l ++ filter p (x ∷ [])) none ∙ ap (λ b. cond b (x ∷ []) []) on)

  not_none : (x : Entry) (xs : List Entry) → x ∷ xs ≡ [] → ⊥
  not_none x xs is = let n : suc (length xs) ≡ 0 = ap length is in omega (arith, n)

  same_first : (x e : Entry) (xs rest : List Entry) → x ∷ xs ≡ e ∷ rest → x ≡ e
  same_first x e xs rest is = same_Some x e (ap (λ es. slice_get es 0) is)

  -- what passes of the held entries, where nothing does of all, where the first isn't held, and where it is
  pub none_left : (xs ys : List Entry) → filter p (xs ++ ys) ≡ [] → filter p xs ≡ []
  none_left [] ys none = refl
  none_left (x ∷ xs) ys none = by (p x) refl none (none_left xs ys)
    where
      by : (b : Bool) → p x ≡ b → cond b (x ∷ filter p (xs ++ ys)) (filter p (xs ++ ys)) ≡ [] → (filter p (xs ++ ys) ≡ [] → filter p xs ≡ []) → filter p (x ∷ xs) ≡ []
      by true on none rest = absurd (not_none x (filter p (xs ++ ys)) none)
      by false off none rest = ap (λ b. cond b (x ∷ filter p xs) (filter p xs)) off ∙ rest none

  pub none_held : (xs ys : List Entry) (e : Entry) (rest : List Entry) → filter p (xs ++ ys) ≡ e ∷ rest → (Contains xs e → ⊥) → filter p xs ≡ []
  none_held [] ys e rest is out = refl
  none_held (x ∷ xs) ys e rest is out = by (p x) refl is (λ h. none_held xs ys e rest h (λ (k, low, at). out (suc k, omega (arith, low), at)))
    where
      by : (b : Bool) → p x ≡ b → cond b (x ∷ filter p (xs ++ ys)) (filter p (xs ++ ys)) ≡ e ∷ rest → (filter p (xs ++ ys) ≡ e ∷ rest → filter p xs ≡ []) → filter p (x ∷ xs) ≡ []
      by true on is more = absurd (out (0, omega arith, same_first x e (filter p (xs ++ ys)) rest is))
      by false off is more = ap (λ b. cond b (x ∷ filter p xs) (filter p xs)) off ∙ more is

  pub first_held : (xs ys : List Entry) (e : Entry) (rest : List Entry) → filter p (xs ++ ys) ≡ e ∷ rest → p e ≡ true → Contains xs e → (more : List Entry) × (filter p xs ≡ e ∷ more)
  first_held [] ys e rest is on within = absurd (omega (arith, within.1))
  first_held (x ∷ xs) ys e rest is on within = by (p x) refl is (λ off h. first_held xs ys e rest h on (later off within))
    where
      later : p x ≡ false → Contains (x ∷ xs) e → Contains xs e
      later off (zero, low, at) = absurd (both_ways (p x) off (ap p at ∙ on))
      later off (suc k, low, at) = (k, omega (arith, low), at)

      by : (b : Bool) → p x ≡ b → cond b (x ∷ filter p (xs ++ ys)) (filter p (xs ++ ys)) ≡ e ∷ rest → (p x ≡ false → filter p (xs ++ ys) ≡ e ∷ rest → (more : List Entry) × (filter p xs ≡ e ∷ more)) → (more : List Entry) × (filter p (x ∷ xs) ≡ e ∷ more)
      by true here is next = (filter p xs, ap (λ b. cond b (x ∷ filter p xs) (filter p xs)) here ∙ ap (λ y. y ∷ filter p xs) (same_first x e (filter p (xs ++ ys)) rest is))
      by false off is next = let found = next off is in (found.0, ap (λ b. cond b (x ∷ filter p xs) (filter p xs)) off ∙ found.1)

-- an entry is finished where it is held, and not where it isn't
pub held_by : (held : List Entry) (e : Entry) → first_cause (finish_causes held e) ≡ None → Contains held e
held_by held e none = by (is_held held e) refl none
  where
    by : (b : Bool) → is_held held e ≡ b → (if not b then Some NotHeld else None) ≡ None → Contains held e
    by true on none = let some = any_at (same_entry e) held on in subst (Contains held) (sym (one_entry e some.1 some.3)) (contains_at held some.0 some.1 some.2)
    by false off none = absurd (none-some NotHeld (sym none))

pub not_held_by : (held : List Entry) (e : Entry) (r : Refused) → first_cause (finish_causes held e) ≡ Some r → Contains held e → ⊥
not_held_by held e r some within = by (is_held held e) refl some
  where
    by : (b : Bool) → is_held held e ≡ b → (if not b then Some NotHeld else None) ≡ Some r → ⊥
    by true on some = none-some r some
    by false off some = both_ways (is_held held e) off (list_any_at (same_entry e) held within.0 e within.1 (ap (same_entry e) within.2 ∙ same_itself e))

module _ (s : State) (procedure : ℕ) where
  abbrev passes : Entry → Bool
  passes = is_guarded procedure

  -- nothing is guarded where no unfinished entry is, or the first that is waits
  pub guarded_none : filter passes (unfinished s) ≡ [] → guarded s procedure ≡ []
  guarded_none none = none_left passes s.held (waiting s) none

  module _ (e : Entry) (rest : List Entry) (first : filter passes (unfinished s) ≡ e ∷ rest) where
    at : (i : ℕ) × (slice_get (unfinished s) i ≡ Some e) × (passes e ≡ true)
    at = filter_at passes (unfinished s) 0 e (ap (λ es. slice_get es 0) first)

    pub guarded_waits : (r : Refused) → first_cause (finish_causes s.held e) ≡ Some r → guarded s procedure ≡ []
    guarded_waits r refused = none_held passes s.held (waiting s) e rest first (not_held_by s.held e r refused)

    pub guarded_first : first_cause (finish_causes s.held e) ≡ None → (more : List Entry) × (guarded s procedure ≡ e ∷ more)
    guarded_first fine = first_held passes s.held (waiting s) e rest first at.2 (held_by s.held e fine)

    -- its object exists
    pub guarded_stands : (objects : Map Object) → HeldStand objects s → IsTrue (contains_key objects e.obj)
    guarded_stands objects stand =
        let some = (and_parts (e.proc == procedure) (not (e.obj == 0)) at.2).1 in
        stand e (contains_at (unfinished s) at.0 e at.1) (λ zero. both_ways (e.obj == 0) (not-true (e.obj == 0) some) (eq-eqb e.obj 0 zero))
