-- What a publish and a drain keep from entry to entry, and the lists of all seats in the end.
use Rattle.std.proofs.Common.{◌≡◌, ℕ, zero, suc, ◌+◌, ◌-◌, ◌<◌, List, [], ◌∷◌, ◌++◌, length, take, drop, get_or, true, refl, sym, ap, ◌∙◌, subst, arith, append_assoc, length-append, take-append-drop, replicate}
use Rattle.std.specs.List.{AllByRecursion, flat_map}
use Rattle.std.specs.List.Sorted.{IsPermutation}
use Rattle.fz_model.specs.declared.answers.Entry.{Entry}
use Rattle.fz_line.specs.declared.protocol.View.{View}
use Rattle.fz_line.specs.Views.{total, view_of, seat_view, with_lists_of}
use Rattle.fz_model.specs.declared.limits.TheConstants.{MAX_WORKERS}
use Rattle.fz_line.specs.Rule.{left_count, GainsPopped}
use Rattle.fz_line.specs.States.{SeatState, taken_by}
use Rattle.fz_line.proofs.Totals.{total-append}
use Rattle.fz_line.proofs.Permutations.{same_weights}

-- so many empty lists
abbrev none_of : ℕ → List (List Entry)
none_of n = replicate n []

-- the lists of the seats that didn't open, before one more opens
pub none_of-less : (i : ℕ) → i < MAX_WORKERS → none_of (MAX_WORKERS - i) ≡ [] ∷ none_of (MAX_WORKERS - (i + 1))
none_of-less i lt = let e : MAX_WORKERS - i ≡ suc (MAX_WORKERS - (i + 1)) = omega arith in ap none_of e

-- where x is the first from k on
pub first_from : (xs : List Entry) (k : ℕ) (x : Entry) → take 1 (drop k xs) ≡ x ∷ [] → (drop k xs ≡ x ∷ drop (k + 1) xs) × (k < length xs)
first_from [] zero x e = absurd (let n : 0 ≡ 1 = ap (λ (l : List Entry). length l) e in omega arith)
first_from [] (suc k) x e = absurd (let n : 0 ≡ 1 = ap (λ (l : List Entry). length l) e in omega arith)
first_from (y ∷ ys) zero x e = (ap (λ (z : Entry). z ∷ ys) (ap (λ (l : List Entry). get_or l 0 x) e), omega arith)
first_from (y ∷ ys) (suc k) x e = let h = first_from ys k x e in let n : suc k + 1 ≡ suc (k + 1) = omega arith in (subst (λ m. drop k ys ≡ x ∷ drop m (y ∷ ys)) (sym n) h.0, (let l = h.1 in omega arith))

-- one entry more is popped
pub pops_more : (sent out : List Entry) (m k : ℕ) (x : Entry) → drop m sent ≡ out ++ drop k sent → take 1 (drop k sent) ≡ x ∷ [] → drop m sent ≡ (out ++ x ∷ []) ++ drop (k + 1) sent
pops_more sent out m k x so_far next = so_far ∙ ap (λ (l : List Entry). out ++ l) (first_from sent k x next).0 ∙ sym (append_assoc out (x ∷ []) (drop (k + 1) sent))

-- what the seats took, as one list
module _ (took : SeatState → List Entry) where
  pub total_flat : (h : Entry → ℕ) (seats : List SeatState) → total h (flat_map took seats) ≡ total (λ s. total h (took s)) seats
  total_flat h [] = refl
  total_flat h (s ∷ seats) = total-append h (took s) (flat_map took seats) ∙ ap (λ n. total h (took s) + n) (total_flat h seats)

  pub length_flat : (seats : List SeatState) → length (flat_map took seats) ≡ total (λ s. length (took s)) seats
  length_flat [] = refl
  length_flat (s ∷ seats) = length-append (took s) (flat_map took seats) ∙ ap (λ n. length (took s) + n) (length_flat seats)

-- empty lists have no entries
pub no_weight : (h : Entry → ℕ) (n : ℕ) → total (total h) (none_of n) ≡ 0
no_weight h zero = refl
no_weight h (suc n) = let e = no_weight h n in omega arith

pub no_length : (n : ℕ) → total (λ (l : List Entry). length l) (none_of n) ≡ 0
no_length zero = refl
no_length (suc n) = let e = no_length n in omega arith

-- the lists and the rest together are what was sent
pub first_part : (taken sent : List Entry) → ((h : Entry → ℕ) → total h taken + total h (drop (length taken) sent) ≡ total h sent) → IsPermutation taken (take (length taken) sent)
first_part taken sent whole =
    let n : ℕ = length taken in
    same_weights taken (take n sent) (λ h. let a = whole h in let b : total h (take n sent) + total h (drop n sent) ≡ total h sent = sym (total-append h (take n sent) (drop n sent)) ∙ ap (total h) (take-append-drop n sent) in omega arith)

-- what the owner popped is the rest of what was sent, after the lists of all seats
pub popped_rest : (v : View) (k : ℕ) (seats : List SeatState) (sent out : List Entry) → v.sent ≡ sent → v.lists ≡ none_of k
    → out ≡ drop (total (λ (l : List Entry). length l) v.lists + total (λ (s : SeatState). length s.took) seats) v.sent → out ≡ drop (length (taken_by seats)) sent
popped_rest v k seats sent out same empty rest =
    let a : total (λ (l : List Entry). length l) v.lists ≡ 0 = ap (λ (ls : List (List Entry)). total (λ (l : List Entry). length l) ls) empty ∙ no_length k in
    let b = length_flat (λ (s : SeatState). s.took) seats in
    let n : total (λ (l : List Entry). length l) v.lists + total (λ (s : SeatState). length s.took) seats ≡ length (taken_by seats) = omega arith in
    rest ∙ (λ i. drop (n i) (same i))

-- and the lists together are its beginning
pub taken_first : (v : View) (k : ℕ) (seats : List SeatState) (sent out : List Entry) → v.sent ≡ sent → v.lists ≡ none_of k
    → ((h : Entry → ℕ) → total (total h) v.lists + total (λ (s : SeatState). total h s.took) seats + total h out ≡ total h v.sent) → out ≡ drop (length (taken_by seats)) sent
    → IsPermutation (taken_by seats) (take (length (taken_by seats)) sent)
taken_first v k seats sent out same empty whole rest =
    first_part (taken_by seats) sent (λ h.
    let a : total (total h) v.lists ≡ 0 = ap (λ (ls : List (List Entry)). total (total h) ls) empty ∙ no_weight h k in
    let b : total h (taken_by seats) ≡ total (λ (s : SeatState). total h s.took) seats = total_flat (λ (s : SeatState). s.took) h seats in
    let d : total h out ≡ total h (drop (length (taken_by seats)) sent) = ap (total h) rest in
    let e : total h v.sent ≡ total h sent = ap (total h) same in
    let w = whole h in omega arith)

-- what the owner knows after a pop, as the loop keeps it
pub view_popped : (v w : View) (sent out out' : List Entry) (lists : List (List Entry)) (x : Entry) → v ≡ view_of true sent out lists → GainsPopped v (x ∷ []) w → out' ≡ out ++ x ∷ [] → w ≡ view_of true sent out' lists
view_popped v w sent out out' lists x is p e = p.0 ∙ ap (λ (u : View). view_of u.owner u.sent (u.popped ++ x ∷ []) u.lists) is ∙ ap (λ (l : List Entry). view_of true sent l lists) (sym e)

-- and what it has popped is what was sent, from where the seats' lists end
pub rest_popped : (v w : View) (sent out out' : List Entry) (lists : List (List Entry)) (x : Entry) → v ≡ view_of true sent out lists → GainsPopped v (x ∷ []) w → out' ≡ out ++ x ∷ [] → let m = total (λ (l : List Entry). length l) lists in
    drop m sent ≡ out ++ drop (m + length out) sent → (drop m sent ≡ out' ++ drop (m + length out') sent) × (m + length out < length sent)
rest_popped v w sent out out' lists x is p e so_far =
    let m : ℕ = total (λ (l : List Entry). length l) lists in
    let next : take 1 (drop (m + length out) sent) ≡ x ∷ [] = ap (λ (u : View). take 1 (drop (left_count u) u.sent)) (sym is) ∙ p.1 in
    let len : m + length out' ≡ m + length out + 1 = (let a = ap (λ (l : List Entry). length l) e in let b = length-append out (x ∷ []) in let g : length (x ∷ []) ≡ 1 = refl in omega arith) in
    (pops_more sent out m (m + length out) x so_far next ∙ ap (λ (l : List Entry). l ++ drop (m + length out + 1) sent) (sym e) ∙ ap (λ (n : ℕ). out' ++ drop n sent) (sym len), (first_from sent (m + length out) x next).1)

-- what the owner knows once it took a seat's list in
pub gathered : (v0 v1 v2 u : View) (took : List Entry) → v0 ≡ view_of true v0.sent [] v0.lists → v1 ≡ v0 → u ≡ seat_view took → v2 ≡ with_lists_of v1 u → v2 ≡ view_of true v0.sent [] (took ∷ v0.lists)
gathered v0 v1 v2 u took is0 is1 is_u is2 = is2 ∙ (λ i. with_lists_of ((is1 ∙ is0) i) (is_u i))

-- the same, as the next call asks
pub as_asked : (v : View) (sent : List Entry) (lists : List (List Entry)) → v ≡ view_of true sent [] lists → v ≡ view_of true v.sent [] v.lists
as_asked v sent lists is = is ∙ (λ i. view_of true (sym is i).sent [] (sym is i).lists)

-- what it knows after the other seats, before it gives the list back
pub had_back : (v2 v3 : View) (sent out : List Entry) (took : List Entry) (lists : List (List Entry)) → v2 ≡ view_of true sent [] (took ∷ lists) → v3 ≡ view_of true v2.sent out v2.lists → v3 ≡ view_of true sent out (took ∷ lists)
had_back v2 v3 sent out took lists is2 is3 = is3 ∙ (λ i. view_of true (is2 i).sent out (is2 i).lists)

-- a fact of each seat is one of each but the first
pub each_rest : {X : Type 0} (P : X → Type 0) (xs rest : List X) → rest ≡ drop 1 xs → AllByRecursion P xs → AllByRecursion P rest
each_rest P [] rest e h = subst (AllByRecursion P) (sym e) tt
each_rest P (x ∷ xs) rest e h = subst (AllByRecursion P) (sym e) h.1

-- the first of the seats, and the rest
pub total_split : {X : Type 0} (f : X → ℕ) (x : X) (xs front rest : List X) → xs ≡ front ++ rest → length front ≡ 1 → total f xs ≡ f (get_or front 0 x) + total f rest
total_split f x xs [] rest is one = absurd (omega arith)
total_split f x xs (y ∷ []) rest is one = ap (total f) is
total_split f x xs (y ∷ z ∷ ys) rest is one = absurd (omega arith)
