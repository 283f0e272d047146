-- A table that is built anew: the links of a list come to it, but for one, from the last to the first.
use Rattle.std.proofs.Common.{◌≡◌, ◌≢◌, ◌↔◌, ◌≤◌, ◌<◌, ℕ, ◌+◌, Bool, true, true≢false, cond, is_some, List, [], ◌∷◌, ◌++◌, length, Option, Some, None, Result, Ok, Err, IsOk, OnOk, nat_eq, nat_cmp, refl, sym, ap, ◌∙◌, ⊎_elim, append_assoc, arith}
use Rattle.std.proofs.lemmas.Bool.{cases_eq}
use Rattle.std.proofs.lemmas.List.{length-append}
use Rattle.std.specs.Map.{lookup}
use Rattle.std.specs.Option.{IsSome}
use Rattle.std.specs.Cmp.{nat_cmp_total}
use Rattle.std.specs.FinMap.{get, insert, remove, from_entries, same_map, nat_cmp-IsAntisymmetric}
use Rattle.fz_model.specs.State.{Map}
use Rattle.fz_model.proofs.Tables.{made_inserted}
use Rattle.fz_model.proofs.Maps.{get-insert_same, get-insert_other, get-remove_same, get-remove_other}
use Rattle.fz_links.proofs.Moved.{moved_turns}

abbrev one_if : Bool → ℕ
one_if b = cond b 1 0

-- 1 where the one is among these
abbrev pub one_in : ℕ → List (ℕ × ℕ) → ℕ
one_in one es = one_if (is_some (get (from_entries {R = nat_cmp} es) one))

-- the last of all are back, but for the one, and more places are free than others are left, by so many, and by another where the one was passed
pub record IsPartlyBack (one more : ℕ) (all left back : List (ℕ × ℕ)) (spare : ℕ) : Type 0 where
  pub last : List (ℕ × ℕ)
  pub apart : all ≡ left ++ last
  pub made : from_entries {R = nat_cmp} back ≡ remove (from_entries last) one
  pub room : length left + one_in one last + more ≤ spare

-- nothing goes where there is none
absent_removed : (m : Map ℕ) (k : ℕ) → get m k ≡ None → m ≡ remove m k
absent_removed m k none = same_map nat_cmp_total nat_cmp-IsAntisymmetric _ _ (λ q. sym (⊎_elim (at_key q) (λ (ne : q ≢ k). get-remove_other m k q ne) (cases_eq q k)))
  where
    at_key : (q : ℕ) → q ≡ k → get (remove m k) q ≡ get m q
    at_key q is = ap (get (remove m k)) is ∙ get-remove_same m k ∙ sym (ap (get m) is ∙ none)

again_removed : (m : Map ℕ) (k x : ℕ) → remove m k ≡ remove (insert m k x) k
again_removed m k x = same_map nat_cmp_total nat_cmp-IsAntisymmetric _ _ (λ q. ⊎_elim (at_key q) (elsewhere q) (cases_eq q k))
  where
    at_key : (q : ℕ) → q ≡ k → get (remove m k) q ≡ get (remove (insert m k x) k) q
    at_key q is = ap (get (remove m k)) is ∙ get-remove_same m k ∙ sym (ap (get (remove (insert m k x) k)) is ∙ get-remove_same (insert m k x) k)

    elsewhere : (q : ℕ) → q ≢ k → get (remove m k) q ≡ get (remove (insert m k x) k) q
    elsewhere q ne = get-remove_other m k q ne ∙ sym (get-remove_other (insert m k x) k q ne ∙ get-insert_other m k x q ne)

shorter : (front : List (ℕ × ℕ)) (e : ℕ × ℕ) → length (front ++ e ∷ []) ≡ length front + 1
shorter front e = length-append front (e ∷ [])

-- an insertion for which there is a place succeeds
pub inserted : {A E : Type 0} {P : Type 0} (r : Result A E) → IsOk r → OnOk r P → P
inserted (Ok x) ok p = p
inserted (Err e) ok p = absurd (true≢false (sym ok))

-- where none is popped, none is left
pub none_left : (left : List (ℕ × ℕ)) (len : ℕ) (popped : Option (ℕ × ℕ)) → popped ≡ None → len ≡ length left → (IsSome popped ↔ (0 < len)) → left ≡ []
none_left [] len popped none is some = refl
none_left (e ∷ left) len popped none is some = absurd (true≢false (sym (some.1 (omega (arith, is))) ∙ ap is_some none))

-- at first the table has links that aren't listed, and not the one
pub all_to_come : (one more : ℕ) (list table : List (ℕ × ℕ)) (spare : ℕ) → get (from_entries {R = nat_cmp} table) one ≡ None → length list + more ≤ spare → IsPartlyBack one more (list ++ table) list table spare
all_to_come one more list table spare none room = record {
  last = table;
  apart = refl;
  made = absent_removed (from_entries table) one none;
  room = let free = ap (λ (o : Option ℕ). one_if (is_some o)) none in omega (arith, free, room);
}

module _ (one more : ℕ) (all : List (ℕ × ℕ)) where
  -- the one is passed
  pub one_passed : (front back : List (ℕ × ℕ)) (target spare : ℕ) → IsPartlyBack one more all (front ++ (one, target) ∷ []) back spare → IsPartlyBack one more all front back spare
  one_passed front back target spare was = record {
    last = (one, target) ∷ was.last;
    apart = was.apart ∙ append_assoc front ((one, target) ∷ []) was.last;
    made = was.made ∙ again_removed (from_entries was.last) one target;
    room =
        let here = ap (λ (o : Option ℕ). one_if (is_some o)) (get-insert_same (from_entries was.last) one target) in
        let longer = shorter front (one, target) in
        let room = was.room in omega (arith, here, longer, room);
  }

  -- another comes back
  pub another_back : (front back new_back : List (ℕ × ℕ)) (link target spare new_spare : ℕ) → link ≢ one → IsPartlyBack one more all (front ++ (link, target) ∷ []) back spare
      → ((q : ℕ) → lookup (nat_eq q) new_back ≡ cond (nat_eq link q) (Some target) (lookup (nat_eq q) back)) → spare ≤ new_spare + 1 → IsPartlyBack one more all front new_back new_spare
  another_back front back new_back link target spare new_spare ne was updated less = record {
    last = (link, target) ∷ was.last;
    apart = was.apart ∙ append_assoc front ((link, target) ∷ []) was.last;
    made = made_inserted back new_back link target updated ∙ ap (λ m. insert m link target) was.made ∙ sym (moved_turns (from_entries was.last) one link target ne);
    room =
        let same = ap (λ (o : Option ℕ). one_if (is_some o)) (get-insert_other (from_entries was.last) link target one (λ is. ne (sym is))) in
        let longer = shorter front (link, target) in
        let room = was.room in omega (arith, same, longer, room, less);
  }

  -- there is a place for one that is left
  pub place_left : (front back : List (ℕ × ℕ)) (e : ℕ × ℕ) (spare : ℕ) → IsPartlyBack one more all (front ++ e ∷ []) back spare → 0 < spare
  place_left front back e spare was = let longer = shorter front e in let room = was.room in omega (arith, longer, room)

  pub all_back : (back : List (ℕ × ℕ)) (spare : ℕ) → IsPartlyBack one more all [] back spare → from_entries {R = nat_cmp} back ≡ remove (from_entries all) one
  all_back back spare was = was.made ∙ ap (λ es. remove (from_entries {R = nat_cmp} es) one) (sym was.apart)

  -- and in the end one for another
  pub place_free : (back : List (ℕ × ℕ)) (spare : ℕ) → IsPartlyBack one more all [] back spare → IsSome (get (from_entries {R = nat_cmp} all) one) → more + 1 ≤ spare
  place_free back spare was known = let here = one_there all known ∙ ap (one_in one) was.apart in let room = was.room in omega (arith, here, room)
    where
      one_some : (o : Option ℕ) → IsSome o → one_if true ≡ one_if (is_some o)
      one_some None h = absurd (true≢false (sym h))
      one_some (Some x) h = refl

      one_there : (es : List (ℕ × ℕ)) → IsSome (get (from_entries {R = nat_cmp} es) one) → one_if true ≡ one_in one es
      one_there es h = one_some (get (from_entries {R = nat_cmp} es) one) h
