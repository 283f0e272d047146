-- A table of ephemerons keeps room for its lists.
use Rattle.std.proofs.Common.{◌≡◌, ◌≤◌, ◌+◌, ◌-◌, ◌↔◌, ◌⊎◌, ◌||◌, ℕ, List, [], Bool, true, false, cond, not, Some, refl, ap, ◌∙◌, sym, subst, inl, inr, ⊎_elim, arith, Contains}
use Rattle.std.proofs.lemmas.List.{length-map}
use Rattle.std.proofs.lemmas.List.Sums.{count_by-le-length}
use Rattle.std.proofs.lemmas.Option.{slice_get_within}
use Rattle.std.specs.Cmp.{nat_cmp_total}
use Rattle.std.specs.FinMap.{get, insert, remove, len, contains_key, keys, entries, retain_keys, len-entries, len-insert, len-remove}
use Rattle.fz_model.specs.State.{Map}
use Rattle.fz_model.proofs.Counts.{len_retained}
use Rattle.fz_model.proofs.MapEntries.{place_of_key}
use Rattle.fz_model.proofs.Sound.{is_some_of}
use Rattle.fz_pass.specs.Holds.{Ephemerons, IsOfKey}
use Rattle.fz_pass.specs.Keyed.{HasLists}
use Rattle.fz_pass.specs.Settling.{IsListedOf}

-- a map of which some keys stay has no more
pub len_within : {X : Type 0} (m n : Map X) (p : ℕ → Bool) → n ≡ retain_keys m p → len n ≤ len m
len_within {X} m n p is =
    let left = ap len is ∙ len_retained p m in
    let all = len-entries m ∙ sym (length-map (entries m) (λ (e : ℕ × X). e.0)) in
    omega (arith, left, all, count_by-le-length p (keys m))

-- ---- how many there are, where one comes in place of another

or_parts : (a b : Bool) → (a || b) ≡ true → (a ≡ true) ⊎ (b ≡ true)
or_parts true b on = inl refl
or_parts false b on = inr on

has_one : (m : Map ℕ) (k : ℕ) → contains_key m k ≡ true → 1 ≤ len m
has_one m k here =
    let x = is_some_of (get m k) (ap not here) in
    let found = place_of_key m k x.0 x.1 in
    let some = slice_get_within (entries m) found.0 (k, x.0) found.1 in
    omega (arith, some, len-entries m)

pub removed_few : (m : Map ℕ) (k : ℕ) → len (remove m k) ≤ len m
removed_few m k = at (contains_key m k) (len-remove nat_cmp_total m k)
  where
    at : (b : Bool) → len (remove m k) ≡ cond b (len m - 1) (len m) → len (remove m k) ≤ len m
    at true is = omega (arith, is)
    at false is = omega (arith, is)

grown : (m : Map ℕ) (k x : ℕ) → len (insert m k x) ≤ len m + 1
grown m k x = at (contains_key m k) (len-insert nat_cmp_total m k x)
  where
    at : (b : Bool) → len (insert m k x) ≡ cond b (len m) (len m + 1) → len (insert m k x) ≤ len m + 1
    at true is = omega (arith, is)
    at false is = omega (arith, is)

pub one_more : (links others : Map ℕ) (k x : ℕ) → len (insert links k x) + len (remove others k) ≤ len links + len others + 1
one_more links others k x = let more = grown links k x in let few = removed_few others k in omega (arith, more, few)

pub in_place : (links others : Map ℕ) (k x : ℕ) → (contains_key links k ≡ true) ⊎ (contains_key others k ≡ true) → len (insert links k x) + len (remove others k) ≤ len links + len others
in_place links others k x (inl here) =
    let same : len (insert links k x) ≡ len links = len-insert nat_cmp_total links k x ∙ ap (λ b. cond b (len links) (len links + 1)) here in
    let few = removed_few others k in omega (arith, same, few)
in_place links others k x (inr here) =
    let more = grown links k x in
    let fewer : len (remove others k) ≡ len others - 1 = len-remove nat_cmp_total others k ∙ ap (λ b. cond b (len others - 1) (len others)) here in
    let some = has_one others k here in omega (arith, more, fewer, some)

-- of either kind
pub short_in_place : (short long : Map ℕ) (k x : ℕ) → (contains_key short k || contains_key long k) ≡ true → len (insert short k x) + len (remove long k) ≤ len short + len long
short_in_place short long k x known = in_place short long k x (or_parts (contains_key short k) (contains_key long k) known)

pub long_in_place : (short long : Map ℕ) (k x : ℕ) → (contains_key short k || contains_key long k) ≡ true → len (remove short k) + len (insert long k x) ≤ len short + len long
long_in_place short long k x known =
    let few = in_place long short k x (⊎_elim inr inl (or_parts (contains_key short k) (contains_key long k) known)) in omega (arith, few)

-- where some ephemerons go, the lists have room still
pub still_has : (old : Ephemerons) (short long : Map ℕ) (waiting rest : List (ℕ × ℕ)) (waiting_room rest_room : ℕ) → len short ≤ len old.short → len long ≤ len old.long
    → HasLists old waiting rest waiting_room rest_room → HasLists (record { short = short; long = long }) waiting rest waiting_room rest_room
still_has old short long waiting rest waiting_room rest_room fewer few h = record {
  none_waits = h.none_waits;
  none_rests = h.none_rests;
  waiting_has = let has = h.waiting_has in omega (arith, has, fewer, few);
  rest_has = let has = h.rest_has in omega (arith, has, fewer, few);
}

none_in : {A : Type 0} (x : ℕ × ℕ) → Contains [] x → A
none_in x is_in = absurd (omega (arith, is_in.1))

-- what is listed, one kind after the other, is all ephemerons
pub all_listed : (short long : Map ℕ) (none first all : List (ℕ × ℕ)) → none ≡ []
    → ((w k : ℕ) → Contains first (w, k) ↔ (Contains none (w, k) ⊎ (get short w ≡ Some k))) → ((w k : ℕ) → Contains all (w, k) ↔ (Contains first (w, k) ⊎ (get long w ≡ Some k)))
    → (w k : ℕ) → IsListedOf all w k ↔ IsOfKey (record { short = short; long = long }) w k
all_listed short long none first all empty shorts longs w k = (
  λ is_in. ⊎_elim (λ before. ⊎_elim (λ in_none. none_in (w, k) (subst (λ xs. Contains xs (w, k)) empty in_none)) inl ((shorts w k).0 before)) inr ((longs w k).0 is_in),
  λ is. (longs w k).1 (⊎_elim (λ here. inl ((shorts w k).1 (inr here))) inr is),
)
