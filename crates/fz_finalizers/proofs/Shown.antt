-- What isn't finished, at its places, and the next place of a walk.
use Rattle.std.proofs.Common.{◌≡◌, ◌≤◌, ◌<◌, ℕ, zero, suc, ◌+◌, ◌-◌, Bool, true, false, cond, List, [], ◌∷◌, drop, length, map, slice_get, Option, Some, None, option_map, ⊎_elim, refl, sym, ap, subst, ◌∙◌, arith}
use Rattle.std.proofs.lemmas.List.{drop-drop, drop_all, length-drop, length-map, drop-map}
use Rattle.std.proofs.lemmas.Option.{none-some, same_Some, slice_get_within}
use Rattle.std.proofs.lemmas.Bool.{cases_lt}
use Rattle.std.specs.FinSet.{contains}
use Rattle.fz_bits.specs.Flags.{Set, IsNext}
use Rattle.fz_model.specs.declared.answers.Entry.{Entry}
use Rattle.fz_finalizers.specs.Queue.{placed_in, shown_in}
use Rattle.fz_finalizers.specs.Walks.{IsRest, Steps, somes, words_left, words_of}
use Rattle.fz_finalizers.specs.declared.roots.Root.{Root}
use Rattle.fz_finalizers.specs.declared.roots.Root.TheVariants.{HeldObject, HeldData, RegisteredData}

pub somes_shown : (s : Set) (first : ℕ) (es : List Entry) → somes (shown_in s first es) ≡ placed_in s first es
somes_shown s first [] = refl
somes_shown s first (e ∷ es) = by (contains s first) (somes_shown s (first + 1) es)
  where
    by : (b : Bool) → somes (shown_in s (first + 1) es) ≡ placed_in s (first + 1) es → somes (cond b (Some e) None ∷ shown_in s (first + 1) es) ≡ cond b (e ∷ placed_in s (first + 1) es) (placed_in s (first + 1) es)
    by true rest = ap (λ ds. e ∷ ds) rest
    by false rest = rest

pub length-shown : (s : Set) (first : ℕ) (es : List Entry) → length (shown_in s first es) ≡ length es
length-shown s first [] = refl
length-shown s first (e ∷ es) = let rest = length-shown s (first + 1) es in omega (arith, rest)

-- from a place on, where the next that is in the set is at `n`
shown_from : (s : Set) (first k n : ℕ) (es : List Entry) (x : Entry) → k ≤ n → slice_get es n ≡ Some x → contains s (first + n) ≡ true → ((m : ℕ) → k ≤ m → m < n → contains s (first + m) ≡ false) → somes (drop k (shown_in s first es)) ≡ x ∷ somes (drop (suc n) (shown_in s first es))
shown_from s first k n [] x le at on off = absurd (none-some x at)
shown_from s first zero zero (e ∷ es) x le at on off =
    ap (λ b. somes (cond b (Some e) None ∷ shown_in s (first + 1) es)) (ap (contains s) (omega arith) ∙ on) ∙ ap (λ y. y ∷ somes (shown_in s (first + 1) es)) (same_Some e x at)
shown_from s first zero (suc n) (e ∷ es) x le at on off =
    ap (λ b. somes (cond b (Some e) None ∷ shown_in s (first + 1) es)) (ap (contains s) (omega arith) ∙ off 0 (omega arith) (omega arith))
    ∙ shown_from s (first + 1) 0 n es x (omega arith) at (ap (contains s) (omega arith) ∙ on) (λ m ge lt. ap (contains s) (omega arith) ∙ off (suc m) (omega arith) (omega (arith, lt)))
shown_from s first (suc k) zero (e ∷ es) x le at on off = absurd (omega (arith, le))
shown_from s first (suc k) (suc n) (e ∷ es) x le at on off =
    shown_from s (first + 1) k n es x (omega (arith, le)) at (ap (contains s) (omega arith) ∙ on) (λ m ge lt. ap (contains s) (omega arith) ∙ off (suc m) (omega (arith, ge)) (omega (arith, lt)))

none_from : (s : Set) (first k : ℕ) (es : List Entry) → ((m : ℕ) → k ≤ m → contains s (first + m) ≡ false) → somes (drop k (shown_in s first es)) ≡ []
none_from s first zero [] off = refl
none_from s first (suc k) [] off = refl
none_from s first zero (e ∷ es) off =
    ap (λ b. somes (cond b (Some e) None ∷ shown_in s (first + 1) es)) (ap (contains s) (omega arith) ∙ off 0 (omega arith))
    ∙ none_from s (first + 1) 0 es (λ m ge. ap (contains s) (omega arith) ∙ off (suc m) (omega arith))
none_from s first (suc k) (e ∷ es) off = none_from s (first + 1) k es (λ m ge. ap (contains s) (omega arith) ∙ off (suc m) (omega (arith, ge)))

-- a walk that goes on to a later place has the rest of the places
pub rest_from : {X : Type 0} (all : List X) (k n : ℕ) → k ≤ n → n ≤ length all → IsRest (drop k all) (drop n all)
rest_from all k n le within =
    let one = length-drop k all in
    let two = length-drop n all in
    ap (λ m. drop m all) {x = n} {y = k + (length (drop k all) - length (drop n all))} (omega (arith, one, two, le, within)) ∙ sym (drop-drop (length (drop k all) - length (drop n all)) k all)

pub steps_next : (s : Set) (es : List Entry) (place next : ℕ) (x : Entry) → IsNext s place next → slice_get es next ≡ Some x → Steps (Some x) (drop place (shown_in s 0 es)) (drop (next + 1) (shown_in s 0 es))
steps_next s es place next x is at =
    let within = slice_get_within es next x at in
    let long = length-shown s 0 es in
    let after = is.after in (
      shown_from s 0 place next es x is.after at (ap (contains s) (omega arith) ∙ is.member) (λ m ge lt. ap (contains s) (omega arith) ∙ is.before m ge lt) ∙ ap (λ m. x ∷ somes (drop m (shown_in s 0 es))) {x = suc next} {y = next + 1} (omega arith),
      rest_from (shown_in s 0 es) place (next + 1) (omega (arith, after)) (omega (arith, within, long)),
    )

pub steps_none : (s : Set) (es : List Entry) (place : ℕ) → ((n : ℕ) → place ≤ n → contains s n ≡ false) → somes (drop place (shown_in s 0 es)) ≡ []
steps_none s es place off = none_from s 0 place es (λ m ge. ap (contains s) (omega arith) ∙ off m ge)

pub none_steps : {X : Type 0} (o : Option X) (old new : List (Option X)) → o ≡ None → Steps o old new → somes old ≡ []
none_steps None old new is s = s.0
none_steps (Some x) old new is s = absurd (none-some x (sym is))

-- ---- words at places

pub somes-map : {X Y : Type 0} (f : X → Y) (xs : List (Option X)) → somes (map (option_map f) xs) ≡ map f (somes xs)
somes-map f [] = refl
somes-map f (None ∷ xs) = somes-map f xs
somes-map f (Some x ∷ xs) = ap (λ ys. f x ∷ ys) (somes-map f xs)

pub somes-all : {X Y : Type 0} (f : X → Y) (xs : List X) → somes (map (λ x. Some (f x)) xs) ≡ map f xs
somes-all f [] = refl
somes-all f (x ∷ xs) = ap (λ ys. f x ∷ ys) (somes-all f xs)

-- a rest of places is one of words
pub rest-map : {X Y : Type 0} (f : X → Y) (old new : List X) → IsRest old new → IsRest (map f old) (map f new)
rest-map f old new is =
    ap (map f) is ∙ sym (drop-map f (length old - length new) old)
    ∙ ap (λ n. drop n (map f old)) (sym (λ i. length-map old f i - length-map new f i))

-- from a further place on, which may be behind all
pub drop_further : {X : Type 0} (all : List X) (at more to : ℕ) → to ≡ length all - (length all - at - more) → drop to all ≡ drop more (drop at all)
drop_further all at more to is =
    let size = length-drop at all in
    ⊎_elim
    (λ (lt : at + more < length all). ap (λ n. drop n all) {x = to} {y = at + more} (omega (arith, is, lt)) ∙ sym (drop-drop more at all))
    (λ (ge : length all ≤ at + more). drop_all to all (omega (arith, is, ge)) ∙ sym (drop_all more (drop at all) (omega (arith, size, ge))))
    (cases_lt (at + more) (length all))

pub rest-same : {X : Type 0} (all : List X) → IsRest all all
rest-same all = ap (λ n. drop n all) {x = 0} {y = length all - length all} (omega arith)

pub rest-more : {X : Type 0} (old mid new : List X) → IsRest old mid → IsRest mid new → IsRest old new
rest-more old mid new one two =
    let a = ap length one ∙ length-drop (length old - length mid) old in
    let b = ap length two ∙ length-drop (length mid - length new) mid in
    two ∙ ap (drop (length mid - length new)) one ∙ drop-drop (length mid - length new) (length old - length mid) old
    ∙ ap (λ n. drop n old) {x = length old - length mid + (length mid - length new)} {y = length old - length new} (omega (arith, a, b))

-- where a walk is, counted in places from the front
pub rest_place : {X : Type 0} (all : List X) (from : ℕ) (after : List X) → IsRest (drop from all) after → drop (length all - length after) all ≡ after
rest_place all from after is =
    let one = length-drop from all in
    let size = ap length is ∙ length-drop (length (drop from all) - length after) (drop from all) in
    ⊎_elim
    (λ (lt : from < length all).
    sym (is ∙ drop-drop (length (drop from all) - length after) from all ∙ ap (λ n. drop n all) {x = from + (length (drop from all) - length after)} {y = length all - length after} (omega (arith, one, size, lt))))
    (λ (ge : length all ≤ from).
    drop_all (length all - length after) all (omega (arith, one, size, ge)) ∙ sym (is ∙ drop_all (length (drop from all) - length after) (drop from all) (omega (arith, one, ge))))
    (cases_lt from (length all))

-- ---- a step of a walk over entries or registrations is one over words

pub steps_map : {X Y : Type 0} (f : X → Y) (x : X) (old new : List (Option X)) → Steps (Some x) old new → Steps (Some (f x)) (map (option_map f) old) (map (option_map f) new)
steps_map f x old new s = (somes-map f old ∙ ap (map f) s.0 ∙ ap (λ ys. f x ∷ ys) (sym (somes-map f new)), rest-map (option_map f) old new s.1)

pub none_map : {X Y : Type 0} (f : X → Y) (old : List (Option X)) → somes old ≡ [] → somes (map (option_map f) old) ≡ []
none_map f old none = somes-map f old ∙ ap (map f) none

pub steps_all : {X Y : Type 0} (f : X → Y) (x : X) (old new : List X) → old ≡ x ∷ new → Steps (Some (f x)) (map (λ y. Some (f y)) old) (map (λ y. Some (f y)) new)
steps_all f x old new is = (
  somes-all f old ∙ ap (map f) is ∙ ap (λ ys. f x ∷ ys) (sym (somes-all f new)),
  rest-map (λ y. Some (f y)) old new (subst (λ xs. IsRest xs new) (sym is) (ap (λ n. drop n (x ∷ new)) {x = 1} {y = length (x ∷ new) - length new} (omega arith))),
)

pub none_all : {X Y : Type 0} (f : X → Y) (old : List X) → old ≡ [] → somes (map (λ y. Some (f y)) old) ≡ []
none_all f old none = somes-all f old ∙ ap (map f) none

somes_same : (xs : List ℕ) → somes (map Some xs) ≡ xs
somes_same [] = refl
somes_same (x ∷ xs) = ap (λ ys. x ∷ ys) (somes_same xs)

pub somes_words : (root : Root) (entries : List (Option Entry)) (registered : List ℕ) → somes (words_left root entries registered) ≡ words_of root (somes entries) registered
somes_words HeldObject entries registered = somes-map (λ (e : Entry). e.obj) entries
somes_words HeldData entries registered = somes-map (λ (e : Entry). e.cd) entries
somes_words RegisteredData entries registered = somes_same registered

-- a step of a walk over words
pub step_data : (word : ℕ) (old new : List ℕ) → old ≡ word ∷ new → Steps (Some word) (map Some old) (map Some new)
step_data word old new is = (
  somes_same old ∙ is ∙ ap (λ ys. word ∷ ys) (sym (somes_same new)),
  rest-map Some old new (subst (λ xs. IsRest xs new) (sym is) (ap (λ n. drop n (word ∷ new)) {x = 1} {y = length (word ∷ new) - length new} (omega arith))),
)

pub none_data : (old : List ℕ) → old ≡ [] → somes (map Some old) ≡ []
none_data old none = somes_same old ∙ none
