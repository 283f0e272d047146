-- What is on a trail.
use Rattle.std.proofs.Common.{◌≡◌, ℕ, ◌++◌, Bool, true, false, cond, is_some, nat_eq, eq-eqb, [], ◌∷◌, Some, slice_get, refl, sym, ap, ◌∙◌, zero, suc, IsTrue}
use Rattle.std.specs.Map.{lookup, lookup_key}
use Rattle.std.proofs.lemmas.Map.Made.{lookup_key_passes}
use Rattle.indexmap.specs.IndexMap.{insert_entry}
use Rattle.std.proofs.lemmas.Bool.{eqb-true, both_ways}
use Rattle.std.proofs.lemmas.Option.{none-some, same_Some}
use Rattle.fz_why.specs.declared.origin.Origin.{Origin}
use Rattle.fz_why.specs.Trail.{Trail, has, added, IsAt}

-- an object at an index is on the trail
pub has_at : (es : Trail) (k a : ℕ) → IsAt es k a → IsTrue (has es a)
has_at [] k a at = absurd (none-some (a, at.0) at.1)
has_at (e ∷ es) k a at = one (nat_eq a e.0) refl (λ j. has_at es j a) k at
  where
    one : (b : Bool) → nat_eq a e.0 ≡ b → ((j : ℕ) → IsAt es j a → IsTrue (has es a)) → (k : ℕ) → IsAt (e ∷ es) k a → is_some (cond b (Some e.1) (lookup (nat_eq a) es)) ≡ true
    one true is rest k at = refl
    one false is rest zero at = absurd (both_ways (nat_eq a e.0) is (ap (λ (x : ℕ × Origin). nat_eq a x.0) (same_Some e (a, at.0) at.1) ∙ eq-eqb a a refl))
    one false is rest (suc k) at = rest k at

-- an object on the trail is at some index
pub at_some : (es : Trail) (a : ℕ) → IsTrue (has es a) → (k : ℕ) × IsAt es k a
at_some [] a h = absurd (both_ways false refl h)
at_some (e ∷ es) a h = one (nat_eq a e.0) refl (at_some es a) h
  where
    one : (b : Bool) → nat_eq a e.0 ≡ b → (IsTrue (has es a) → (k : ℕ) × IsAt es k a) → is_some (cond b (Some e.1) (lookup (nat_eq a) es)) ≡ true → (k : ℕ) × IsAt (e ∷ es) k a
    one true is rest on = (0, (e.1, ap (λ n. Some (n, e.1)) (sym (eqb-true a e.0 is))))
    one false is rest on = let r = rest on in (suc r.0, r.1)

-- an object that is new comes at the end
pub appended : (es : Trail) (a : ℕ) (o : Origin) → has es a ≡ false → insert_entry nat_eq es a o ≡ es ++ (a, o) ∷ []
appended [] a o absent = refl
appended (e ∷ es) a o absent = one (nat_eq a e.0) refl (appended es a o) absent
  where
    one : (b : Bool) → nat_eq a e.0 ≡ b → (has es a ≡ false → insert_entry nat_eq es a o ≡ es ++ (a, o) ∷ []) → is_some (cond b (Some e.1) (lookup (nat_eq a) es)) ≡ false → cond b ((e.0, o) ∷ es) (e ∷ insert_entry nat_eq es a o) ≡ e ∷ (es ++ (a, o) ∷ [])
    one true is rest absent = absurd (both_ways true absent refl)
    one false is rest absent = ap (λ xs. e ∷ xs) (rest absent)

pub added_new : (es : Trail) (a : ℕ) (o : Origin) → has es a ≡ false → es ++ (a, o) ∷ [] ≡ added es a o
added_new es a o absent = sym (ap (λ b. cond b es (es ++ (a, o) ∷ [])) absent)

pub added_known : (es : Trail) (a : ℕ) (o : Origin) → has es a ≡ true → es ≡ added es a o
added_known es a o known = sym (ap (λ b. cond b es (es ++ (a, o) ∷ [])) known)

-- the key that was found is the object
pub found_at : (es : Trail) (a k b : ℕ) (o : Origin) → lookup_key (nat_eq a) es ≡ Some b → slice_get es k ≡ Some (b, o) → IsAt es k a
found_at es a k b o found at = (o, at ∙ ap (λ n. Some (n, o)) (sym (eqb-true a b (lookup_key_passes (nat_eq a) es b found))))
