-- Seats that went to threads in slots, and came back.
use Rattle.std.proofs.Common.{◌≡◌, ◌≢◌, ℕ, zero, suc, ◌+◌, ◌<◌, List, [], ◌∷◌, ◌++◌, length, map, get_or, slice_get, set, Option, Some, None, IsSomeAnd, ◌≤◌, ⊎_elim, refl, sym, ap, ◌∙◌, subst, arith, append_assoc}
use Rattle.std.proofs.lemmas.Bool.{cases_eq, cases_lt}
use Rattle.std.proofs.lemmas.List.{length-map, map-append}
use Rattle.std.proofs.lemmas.Option.{none-some, same_Some}
use Rattle.fz_line.specs.States.{SeatState}
use Rattle.fz_service.specs.Workers.{Extends, ExtendEach, SlotExtends, slots_of, in_slots}

one_more : (s t : SeatState) (old new : List SeatState) → Extends s t → ((i : ℕ) (d : SeatState) → i < length old → Extends (get_or old i d) (get_or new i d))
    → (i : ℕ) (d : SeatState) → i < length (s ∷ old) → Extends (get_or (s ∷ old) i d) (get_or (t ∷ new) i d)
one_more s t old new here rest zero d few = here
one_more s t old new here rest (suc i) d few = rest i d (omega (arith, few))

-- where each slot was served, so was each seat
pub all_served : (old : List SeatState) (slots : List (Option SeatState)) → length slots ≡ length old
    → ((i : ℕ) (d : Option SeatState) → i < length old → SlotExtends (get_or (slots_of old) i d) (get_or slots i d)) → ExtendEach old (in_slots slots)
all_served [] [] same each = (refl, λ i d few. absurd (omega (arith, few)))
all_served [] (slot ∷ slots) same each = absurd (omega (arith, same))
all_served (s ∷ old) [] same each = absurd (omega (arith, same))
all_served (s ∷ old) (None ∷ slots) same each = absurd (each 0 None (omega arith))
all_served (s ∷ old) (Some t ∷ slots) same each =
    let rest = all_served old slots (omega (arith, same)) (λ i d few. each (suc i) d (omega (arith, few))) in
    let count = rest.0 in (
      omega (arith, count),
      one_more s t old (in_slots slots) (each 0 None (omega arith)) rest.1,
    )

module _ {X : Type 0} (slot : X → Option SeatState) where
  in_slot : (xs : List X) (i : ℕ) (d : Option SeatState) → i < length xs → (e : X) × (get_or (map slot xs) i d ≡ slot (get_or xs i e))
  in_slot [] i d few = absurd (omega (arith, few))
  in_slot (x ∷ xs) zero d few = (x, refl)
  in_slot (x ∷ xs) (suc i) d few = in_slot xs i d (omega (arith, few))

  of_others : (xs : List X) (i : ℕ) (d : Option SeatState) (e : X) → i < length xs → get_or (map slot xs) i d ≡ slot (get_or xs i e)
  of_others [] i d e few = absurd (omega (arith, few))
  of_others (x ∷ xs) zero d e few = refl
  of_others (x ∷ xs) (suc i) d e few = of_others xs i d e (omega (arith, few))

  pub came_back : (old new : List SeatState) (went came : List X) → map slot went ≡ slots_of old → length came ≡ length went
      → ((i : ℕ) (d : X) → i < length went → SlotExtends (slot (get_or went i d)) (slot (get_or came i d))) → new ≡ in_slots (map slot came) → ExtendEach old new
  came_back old new went came out same each back =
      let all : length (map slot went) ≡ length went = length-map went slot in
      let count : length (map slot went) ≡ length old = ap (λ (slots : List (Option SeatState)). length slots) out ∙ length-map old (λ (s : SeatState). Some s) in
      subst (ExtendEach old) (sym back)
      (all_served old (map slot came) (length-map came slot ∙ same ∙ sym all ∙ count)
      (λ i d few. subst (λ (slots : List (Option SeatState)). SlotExtends (get_or slots i d) (get_or (map slot came) i d)) out (slotted i d (omega (arith, few, count, all)))))
    where
      slotted : (i : ℕ) (d : Option SeatState) → i < length went → SlotExtends (get_or (map slot went) i d) (get_or (map slot came) i d)
      slotted i d few =
          let e = in_slot went i d few in
          subst (λ (s : Option SeatState). SlotExtends s (get_or (map slot came) i d)) (sym e.1)
          (subst (λ (s : Option SeatState). SlotExtends (slot (get_or went i e.0)) s) (sym (of_others came i d e.0 (subst (λ n. i < n) (sym same) few))) (each i e.0 few))

-- ---- workers, each with the seat and the list of its place

-- a list that came back has as many procedures
pub list_back : {X L : Type 0} (procs : X → L) (size : L → ℕ) (went came : List X) → length came ≡ length went
    → ((i : ℕ) (d : X) → i < length went → size (procs (get_or came i d)) ≡ size (procs (get_or went i d)))
    → (i : ℕ) (list : L) → slice_get (map procs went) i ≡ Some list → (back : L) × (slice_get (map procs came) i ≡ Some back) × (size back ≡ size list)
list_back procs size [] came same each i list is = absurd (none-some list is)
list_back procs size (x ∷ went) [] same each i list is = absurd (omega (arith, same))
list_back procs size (x ∷ went) (y ∷ came) same each zero list is = (procs y, refl, each 0 x (omega arith) ∙ ap size (same_Some (procs x) list is))
list_back procs size (x ∷ went) (y ∷ came) same each (suc i) list is =
    list_back procs size went came (omega (arith, same)) (λ j d few. each (suc j) d (omega (arith, few))) i list is

-- whatever is at an index is below the length
pub within : {X : Type 0} (xs : List X) (i : ℕ) (x : X) → slice_get xs i ≡ Some x → i < length xs
within [] i x is = absurd (none-some x is)
within (y ∷ xs) zero x is = omega arith
within (y ∷ xs) (suc i) x is = let less = within xs i x is in omega (arith, less)

-- one list more came back
pub one_back : {L : Type 0} (all before after : List L) (number : ℕ) (list : L) → length after ≡ length before → slice_get all number ≡ Some list
    → (number < length before → slice_get after number ≡ Some list)
    → ((i : ℕ) → i ≢ number → slice_get after i ≡ slice_get before i)
    → ((i : ℕ) (l : L) → slice_get all i ≡ Some l → i < number → i < length before → slice_get before i ≡ Some l)
    → (i : ℕ) (l : L) → slice_get all i ≡ Some l → i < number + 1 → i < length after → slice_get after i ≡ Some l
one_back all before after number list count first put others known i l is less few =
    ⊎_elim
    (λ (same : i ≡ number). ap (slice_get after) same ∙ put (omega (arith, few, count, same)) ∙ sym first ∙ ap (slice_get all) (sym same) ∙ is)
    (λ (other : i ≢ number). others i other ∙ known i l is (omega (arith, less, other)) (omega (arith, few, count)))
    (cases_eq i number)

-- one seat was taken out of its slot
pub slot_out : {X : Type 0} (slot : X → Option SeatState) (xs rest : List X) (x : X) (s : SeatState) (seats : List SeatState) (all : List SeatState) → xs ≡ x ∷ rest → slot x ≡ Some s
    → seats ++ in_slots (map slot xs) ≡ all → (seats ++ s ∷ []) ++ in_slots (map slot rest) ≡ all
slot_out slot xs rest x s seats all is here before =
    append_assoc seats (s ∷ []) (in_slots (map slot rest))
    ∙ ap (λ (o : Option SeatState). seats ++ in_slots (o ∷ map slot rest)) (sym here)
    ∙ ap (λ ys. seats ++ in_slots (map slot ys)) (sym is)
    ∙ before

-- what is left after the first one is one index further on
pub one_less : {X L : Type 0} (procs : X → L) (xs rest : List X) (x : X) (all : List L) (number : ℕ) → xs ≡ x ∷ rest → ((i : ℕ) → slice_get (map procs xs) i ≡ slice_get all (number + i))
    → (slice_get all number ≡ Some (procs x)) × ((i : ℕ) → slice_get (map procs rest) i ≡ slice_get all ((number + 1) + i))
one_less procs xs rest x all number is left = (
  ap (slice_get all) (omega arith) ∙ sym (left 0) ∙ ap (λ ys. slice_get (map procs ys) 0) is,
  λ i. ap (λ ys. slice_get (map procs ys) (suc i)) (sym is) ∙ left (suc i) ∙ ap (slice_get all) (omega arith),
)

-- each list is where it was, with as many procedures
pub lists_back : {X L : Type 0} (procs : X → L) (size : L → ℕ) (before between after : List L) (went came : List X) → length between ≡ length before → length came ≡ length went
    → ((i : ℕ) (list : L) → slice_get before i ≡ Some list → i < length went → slice_get (map procs went) i ≡ Some list)
    → ((i : ℕ) → length went ≤ i → slice_get between i ≡ slice_get before i)
    → ((i : ℕ) (d : X) → i < length went → size (procs (get_or came i d)) ≡ size (procs (get_or went i d)))
    → ((i : ℕ) (list : L) → slice_get (map procs came) i ≡ Some list → i < length between → slice_get after i ≡ Some list)
    → ((i : ℕ) → length came ≤ i → slice_get after i ≡ slice_get between i)
    → (i : ℕ) (list : L) → slice_get before i ≡ Some list → IsSomeAnd (slice_get after i) (λ back. size back ≡ size list)
lists_back procs size before between after went came count same handed left each put kept i list is =
    ⊎_elim
    (λ (few : i < length went).
    let back = list_back procs size went came same each i list (handed i list is few) in
    let low = within before i list is in
    subst (λ o. IsSomeAnd o (λ b. size b ≡ size list)) (sym (put i back.0 back.1 (omega (arith, low, count)))) back.2)
    (λ (past : length went ≤ i). subst (λ o. IsSomeAnd o (λ b. size b ≡ size list)) (sym (kept i (omega (arith, past, same)) ∙ left i past ∙ is)) refl)
    (cases_lt i (length went))

-- one worker more
pub one_slot : {X : Type 0} (slot : X → Option SeatState) (xs : List X) (x : X) (s : SeatState) (seats rest all : List SeatState) → slot x ≡ Some s → seats ≡ s ∷ rest
    → map slot xs ++ slots_of seats ≡ slots_of all → map slot (xs ++ x ∷ []) ++ slots_of rest ≡ slots_of all
one_slot slot xs x s seats rest all here is before =
    ap (λ (ys : List (Option SeatState)). ys ++ slots_of rest) (map-append slot xs (x ∷ []))
    ∙ append_assoc (map slot xs) (slot x ∷ []) (slots_of rest)
    ∙ ap (λ (o : Option SeatState). map slot xs ++ o ∷ slots_of rest) here
    ∙ ap (λ (ys : List SeatState). map slot xs ++ slots_of ys) (sym is)
    ∙ before

pub one_list : {X L : Type 0} (procs : X → L) (xs : List X) (x : X) (lists : List L)
    → ((i : ℕ) (list : L) → slice_get lists i ≡ Some list → i < length xs → slice_get (map procs xs) i ≡ Some list)
    → ((list : L) → slice_get lists (length xs) ≡ Some list → procs x ≡ list)
    → (i : ℕ) (list : L) → slice_get lists i ≡ Some list → i < length (xs ++ x ∷ []) → slice_get (map procs (xs ++ x ∷ [])) i ≡ Some list
one_list procs [] x lists before here zero list is few = ap Some (here list is)
one_list procs [] x lists before here (suc i) list is few = absurd (omega (arith, few))
one_list procs (y ∷ xs) x lists before here zero list is few = before zero list is (omega arith)
one_list procs (y ∷ xs) x [] before here (suc i) list is few = absurd (none-some list is)
one_list procs (y ∷ xs) x (l ∷ lists) before here (suc i) list is few =
    one_list procs xs x lists (λ j other is few. before (suc j) other is (omega (arith, few))) here i list is (omega (arith, few))

pub set_here : {X : Type 0} (xs : List X) (i : ℕ) (x : X) → i < length xs → slice_get (set xs i x) i ≡ Some x
set_here [] i x few = absurd (omega (arith, few))
set_here (y ∷ xs) zero x few = refl
set_here (y ∷ xs) (suc i) x few = set_here xs i x (omega (arith, few))

pub set_other : {X : Type 0} (xs : List X) (i j : ℕ) (x : X) → j ≢ i → slice_get (set xs i x) j ≡ slice_get xs j
set_other [] i j x other = refl
set_other (y ∷ xs) zero zero x other = absurd (other refl)
set_other (y ∷ xs) zero (suc j) x other = refl
set_other (y ∷ xs) (suc i) zero x other = refl
set_other (y ∷ xs) (suc i) (suc j) x other = set_other xs i j x (λ same. other (ap suc same))
