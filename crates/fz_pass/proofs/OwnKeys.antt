-- An ephemeron never retains its own key.
use Rattle.std.proofs.Common.{◌≡◌, ◌≢◌, ◌⊎◌, ℕ, Bool, false, not, nat_eq, Option, Some, None, sym, ap, ◌∙◌, subst, inl, inr, ⊎_elim, IsTrue, eq-eqb}
use Rattle.std.proofs.lemmas.Bool.{cases_eq, cond-true, ne_eqb, not-true, true≢false}
use Rattle.std.specs.FinMap.{get}
use Rattle.std.specs.Option.{option_map_or}
use Rattle.fz_model.specs.State.{Map, Object}
use Rattle.fz_model.proofs.Maps.{get-retain, retained_back}
use Rattle.fz_pass.specs.Holds.{Ephemerons, Holds, Member, ByChild, ByHolder, ByKey, IsOfKey}
use Rattle.fz_pass.specs.WholeLaws.{KeysFindNothing, KeysHoldNothing, not_of, without_key}
use Rattle.fz_pass.proofs.Holding.{holds_all, within_whole}

-- the ephemerons of other keys
abbrev Other : (ℕ → ℕ → Type 0) → ℕ → ℕ → ℕ → Type 0
Other IsOf key w k = IsOf w k × (k ≢ key)

module _ (place : ℕ → Option ℕ) (value : Map Object → ℕ → Option ℕ) (objects : Map Object) (IsOf : ℕ → ℕ → Type 0) (key : ℕ) (set : ℕ → Type 0) where
  abbrev H : ℕ → Type 0
  H = Holds place value objects (Other IsOf key) set

  -- what is held is held without the key's ephemerons, or else the key is
  either : (a : ℕ) → Holds place value objects IsOf set a → H a ⊎ H key
  either a (Member h) = inl (Member h)
  either a (ByChild {a = b} h child) = ⊎_elim (λ l. inl (ByChild l child)) inr (either b h)
  either a (ByHolder {word = w} {key = k} {holder = o} is of_key holder there points) =
      ⊎_elim (λ held. ⊎_elim (λ same. inr (subst H same held)) (λ other. ⊎_elim (λ held_there. inl (ByHolder (is, other) held holder held_there points)) inr (either o there)) (cases_eq k key)) inr (either k of_key)
  either a (ByKey {word = w} {key = k} is of_key nowhere points) =
      ⊎_elim (λ held. ⊎_elim (λ same. inr (subst H same held)) (λ other. inl (ByKey (is, other) held nowhere points)) (cases_eq k key)) inr (either k of_key)

  pub without_own : Holds place value objects IsOf set key → H key
  without_own h = ⊎_elim (λ held. held) (λ held. held) (either key h)

-- ---- the ephemerons of the other keys

not_of_other : (key : ℕ) (m : Map ℕ) (w k : ℕ) → get (not_of key m) w ≡ Some k → (get m w ≡ Some k) × (k ≢ key)
not_of_other key m w k is =
    let back = retained_back m (λ word. not (option_map_or (nat_eq key) (get m word) false)) w k is in
    (back.1, λ same. true≢false (sym (eq-eqb key k (sym same)) ∙ not-true (nat_eq key k) (ap (λ o. not (option_map_or (nat_eq key) o false)) (sym back.1) ∙ back.0)))

other_not_of : (key : ℕ) (m : Map ℕ) (w k : ℕ) → get m w ≡ Some k → k ≢ key → get (not_of key m) w ≡ Some k
other_not_of key m w k here other =
    get-retain m (λ word. not (option_map_or (nat_eq key) (get m word) false)) w
    ∙ cond-true (not (option_map_or (nat_eq key) (get m w) false)) (get m w) None (ap (λ o. not (option_map_or (nat_eq key) o false)) here ∙ ap not (ne_eqb key k (λ same. other (sym same)))) ∙ here

module _ (ephemerons : Ephemerons) (key : ℕ) where
  to_other : (w k : ℕ) → IsOfKey (without_key ephemerons key) w k → Other (IsOfKey ephemerons) key w k
  to_other w k (inl is) = let was = not_of_other key ephemerons.short w k is in (inl was.0, was.1)
  to_other w k (inr is) = let was = not_of_other key ephemerons.long w k is in (inr was.0, was.1)

  from_other : (w k : ℕ) → Other (IsOfKey ephemerons) key w k → IsOfKey (without_key ephemerons key) w k
  from_other w k (inl is, other) = inl (other_not_of key ephemerons.short w k is other)
  from_other w k (inr is, other) = inr (other_not_of key ephemerons.long w k is other)

module _ (place : ℕ → Option ℕ) (value : Map Object → ℕ → Option ℕ) (objects : Map Object) (ephemerons : Ephemerons) where
  without_it : (set : ℕ → Bool) (key : ℕ) → Holds place value objects (IsOfKey ephemerons) (λ a. IsTrue (set a)) key → Holds place value objects (IsOfKey (without_key ephemerons key)) (λ a. IsTrue (set a)) key
  without_it set key held =
      holds_all place value objects (Other (IsOfKey ephemerons) key) (IsOfKey (without_key ephemerons key)) (λ a. IsTrue (set a)) (λ a. IsTrue (set a)) (from_other ephemerons key) (λ a on. Member on) key
      (without_own place value objects (IsOfKey ephemerons) key (λ a. IsTrue (set a)) held)

  with_it : (set : ℕ → Bool) (key : ℕ) → Holds place value objects (IsOfKey (without_key ephemerons key)) (λ a. IsTrue (set a)) key → Holds place value objects (IsOfKey ephemerons) (λ a. IsTrue (set a)) key
  with_it set key = holds_all place value objects (IsOfKey (without_key ephemerons key)) (IsOfKey ephemerons) (λ a. IsTrue (set a)) (λ a. IsTrue (set a)) (λ w k is. (to_other ephemerons key w k is).0) (λ a on. Member on) key

  pub keys_hold_nothing : KeysHoldNothing place value objects ephemerons
  keys_hold_nothing set key = (without_it set key, with_it set key)

  pub keys_find_nothing : KeysFindNothing place value objects ephemerons
  keys_find_nothing marked found found_without key with_them without_them = (
    λ on. within_whole place value objects (IsOfKey (without_key ephemerons key)) found_without (λ a. IsTrue (marked a)) without_them.whole without_them.more key (without_it marked key (with_them.most tt key on)),
    λ on. within_whole place value objects (IsOfKey ephemerons) found (λ a. IsTrue (marked a)) with_them.whole with_them.more key (with_it marked key (without_them.most tt key on)),
  )
