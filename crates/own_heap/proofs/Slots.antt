-- Which object is at an address, and which object has a word.
use Rattle.std.proofs.Common.{◌≡◌, ◌≢◌, ℕ, zero, suc, ◌+◌, ◌-◌, ◌*◌, ◌/◌, ◌%◌, ◌<◌, ◌≤◌, ◌==◌, ◌&&◌, ◌⊎◌, inl, inr, Bool, true, false, cond, List, [], ◌∷◌, get_or, length, Option, Some, None, option_map, nat_le, nat_cmp, refl, sym, ap, ◌∙◌, subst, arith, IsTrue}
use Rattle.std.proofs.lemmas.Bool.{eq-eqb, eqb-true, le-leb, leb-true, and_parts, and_from, both_ways, cases_lt}
use Rattle.std.proofs.lemmas.List.{get_or_past}
use Rattle.std.proofs.lemmas.Option.{same_Some, none-some}
use Rattle.std.specs.Cmp.{nat_cmp_total}
use Rattle.std.proofs.Common.{Bor, is_some}
use Rattle.std.specs.Bool.{then_some}
use Rattle.std.specs.Option.{option_copied}
use Rattle.std.specs.Ordering.{eq_by_cmp}
use Rattle.std.specs.FinMap as finmap
use Rattle.std.specs.FinMap.{get, get-from_entries, contains_key}
use Rattle.fz_model.specs.State.{Object}
use Rattle.fz_model.specs.Memory.{points}
use Rattle.fz_model.specs.declared.extent.Extent.{Extent}
use Rattle.fz_model.specs.Extents.{extents, extent_of, AreApart}
use Rattle.fz_model.proofs.MapEntries.{own_key, other_key}
use Rattle.fz_model.proofs.Maps.{mapped_back, mapped_here}
use Rattle.fz_model.proofs.Objects.{from_covers, to_covers, points_at, points_nowhere}
use Rattle.own_heap.specs.declared.record.Record.{Record}
use Rattle.own_heap.specs.Records.{address_of, place_of, start_of, object_of, object_entries, objects_of}
use Rattle.own_heap.specs.Marking.{IsAmong}

-- ---- places

pub place_of-address : (i : ℕ) → place_of (address_of i) ≡ Some i
unfolding place_of
place_of-address i =
    let on = and_from (((i + 1) * 8) % 8 == 0) (nat_le 8 ((i + 1) * 8)) (eq-eqb _ _ (omega arith)) (le-leb _ _ (omega arith)) in
    let back : ((i + 1) * 8) / 8 - 1 ≡ i = omega arith in
    ap (λ b. cond b (Some (((i + 1) * 8) / 8 - 1)) None) on ∙ ap Some back

pub address_at : (a i : ℕ) → place_of a ≡ Some i → a ≡ address_of i
unfolding place_of
address_at a i e = at (a % 8 == 0 && nat_le 8 a) refl e
  where
    at : (b : Bool) → (a % 8 == 0 && nat_le 8 a) ≡ b → cond b (Some (a / 8 - 1)) None ≡ Some i → a ≡ address_of i
    at false is e = absurd (none-some i e)
    at true is e =
        let parts = and_parts (a % 8 == 0) (nat_le 8 a) is in
        let even = eqb-true (a % 8) 0 parts.0 in
        let above = leb-true 8 a parts.1 in
        let back = same_Some (a / 8 - 1) i e in
        omega (arith, even, above, back)

-- ---- objects

entry_elsewhere : (q p : ℕ) (slots : List (Option Record)) → ((i : ℕ) → q ≢ address_of (p + i)) → finmap.find nat_cmp q (object_entries p slots) ≡ None
entry_elsewhere q p [] far = refl
entry_elsewhere q p (None ∷ slots) far = entry_elsewhere q (p + 1) slots (λ i is. far (i + 1) (omega (arith, is)))
entry_elsewhere q p (Some r ∷ slots) far =
    let apart : q ≢ address_of p = λ is. far 0 (omega (arith, is)) in
    ap (λ b. cond b (Some (object_of r)) (finmap.find nat_cmp q (object_entries (p + 1) slots))) (other_key q (address_of p) apart)
    ∙ entry_elsewhere q (p + 1) slots (λ i is. far (i + 1) (omega (arith, is)))

entry_at : (q p i : ℕ) (slots : List (Option Record)) → q ≡ address_of (p + i) → finmap.find nat_cmp q (object_entries p slots) ≡ option_map object_of (get_or slots i None)
entry_at q p i [] is = refl
entry_at q p zero (None ∷ slots) is = entry_elsewhere q (p + 1) slots (λ i same. omega (arith, is, same))
entry_at q p (suc i) (None ∷ slots) is = entry_at q (p + 1) i slots (omega (arith, is))
entry_at q p zero (Some r ∷ slots) is =
    ap (λ b. cond b (Some (object_of r)) (finmap.find nat_cmp q (object_entries (p + 1) slots))) (subst (λ k. eq_by_cmp nat_cmp q k ≡ true) (omega (arith, is)) (own_key q))
entry_at q p (suc i) (Some r ∷ slots) is =
    let apart : q ≢ address_of p = λ same. omega (arith, is, same) in
    ap (λ b. cond b (Some (object_of r)) (finmap.find nat_cmp q (object_entries (p + 1) slots))) (other_key q (address_of p) apart)
    ∙ entry_at q (p + 1) i slots (omega (arith, is))

-- the object of a place, if there is a record
abbrev pub object_in : List (Option Record) → Option ℕ → Option Object
object_in slots None = None
object_in slots (Some i) = option_map object_of (get_or slots i None)

pub get-objects : (slots : List (Option Record)) (a : ℕ) → get (objects_of slots) a ≡ object_in slots (place_of a)
unfolding objects_of
get-objects slots a = get-from_entries nat_cmp_total (object_entries 0 slots) a ∙ at (place_of a) refl
  where
    at : (p : Option ℕ) → place_of a ≡ p → finmap.find nat_cmp a (object_entries 0 slots) ≡ object_in slots p
    at None is = entry_elsewhere a 0 slots (λ i same. none-some i (sym is ∙ ap place_of (same ∙ ap address_of (plain i)) ∙ place_of-address i))
      where
        plain : (i : ℕ) → 0 + i ≡ i
        plain i = omega arith
    at (Some i) is = entry_at a 0 i slots (let here = address_at a i is in omega (arith, here))

pub record Stands (slots : List (Option Record)) (a : ℕ) (o : Object) : Type 0 where
  pub place : ℕ
  pub read : Record
  pub at : place_of a ≡ Some place
  pub slot : get_or slots place None ≡ Some read
  pub object : object_of read ≡ o

pub stands : (slots : List (Option Record)) (a : ℕ) (o : Object) → get (objects_of slots) a ≡ Some o → Stands slots a o
stands slots a o here = at (place_of a) refl (sym (get-objects slots a) ∙ here)
  where
    at : (p : Option ℕ) → place_of a ≡ p → object_in slots p ≡ Some o → Stands slots a o
    at None is e = absurd (none-some o e)
    at (Some i) is e = found (get_or slots i None) refl e
      where
        found : (s : Option Record) → get_or slots i None ≡ s → option_map object_of s ≡ Some o → Stands slots a o
        found None slot e = absurd (none-some o e)
        found (Some r) slot e = record { place = i; read = r; at = is; slot = slot; object = same_Some (object_of r) o e }

-- a record has no birth
pub born_never : (slots : List (Option Record)) (a : ℕ) (o : Object) → get (objects_of slots) a ≡ Some o → o.birth ≡ 0
born_never slots a o here = ap (λ (x : Object). x.birth) (sym (stands slots a o here).object)

-- ---- what a word points to

record HasExtent (a : ℕ) (x : Extent) : Type 0 where
  place : ℕ
  at : a ≡ address_of place
  size : x.size ≡ 4

extent_at : (slots : List (Option Record)) (a : ℕ) (x : Extent) → get (extents (objects_of slots)) a ≡ Some x → HasExtent a x
extent_at slots a x here =
    let object = mapped_back (λ start. extent_of) (objects_of slots) a x here in
    let there = stands slots a object.0 object.1 in
    record { place = there.place; at = address_at a there.place there.at; size = sym (ap (λ (o : Object). length o.words) there.object ∙ ap (λ (y : Extent). y.size) object.2) }

pub apart : (slots : List (Option Record)) → AreApart (extents (objects_of slots))
apart slots a b word x y left right has_left has_right =
    let l = extent_at slots a x left in
    let r = extent_at slots b y right in
    let in_left = from_covers a word x has_left in
    let in_right = from_covers b word y has_right in
    omega (arith, l.at, l.size, r.at, r.size, in_left.0, in_left.1, in_right.0, in_right.1)

pub points_is : (slots : List (Option Record)) (word : ℕ) → points (objects_of slots) word ≡ option_map (λ _. start_of word) (get (objects_of slots) (start_of word))
points_is slots word = at (get (objects_of slots) (start_of word)) refl
  where
    at : (o : Option Object) → get (objects_of slots) (start_of word) ≡ o → points (objects_of slots) word ≡ option_map (λ _. start_of word) o
    at (Some o) here =
        let extent = mapped_here (λ start. extent_of) (objects_of slots) (start_of word) o here in
        let size = (extent_at slots (start_of word) (extent_of o) extent).size in
        points_at (extents (objects_of slots)) (apart slots) (start_of word) word (extent_of o) extent (to_covers (start_of word) word (extent_of o) (omega arith) (omega (arith, size)))
    at None here =
        points_nowhere (extents (objects_of slots)) word (λ a x there has.
        let e = extent_at slots a x there in
        let within = from_covers a word x has in
        let same : a ≡ start_of word = omega (arith, e.at, e.size, within.0, within.1) in
        let object = mapped_back (λ start. extent_of) (objects_of slots) a x there in
        none-some object.0 (sym here ∙ subst (λ k. get (objects_of slots) k ≡ Some object.0) same object.1))

pub nowhere : (slots : List (Option Record)) (a : ℕ) → place_of a ≡ None → get (objects_of slots) a ≡ None
nowhere slots a is = get-objects slots a ∙ ap (object_in slots) is

pub slot_at : (slots : List (Option Record)) (a i : ℕ) (s : Option Record) → place_of a ≡ Some i → get_or slots i None ≡ s → get (objects_of slots) a ≡ option_map object_of s
slot_at slots a i s at slot = get-objects slots a ∙ ap (object_in slots) at ∙ ap (option_map object_of) slot

pub copied_object : (o : Option (Bor Record)) → option_map object_of (option_copied o) ≡ option_map (λ r. object_of r.now) o
copied_object None = refl
copied_object (Some r) = refl

pub held : (slots : List (Option Record)) (word : ℕ) (o : Option (Bor Record)) → get (objects_of slots) (start_of word) ≡ option_map (λ r. object_of r.now) o → then_some (is_some o) (start_of word) ≡ points (objects_of slots) word
held slots word o is = at o ∙ ap (option_map (λ _. start_of word)) (sym is) ∙ sym (points_is slots word)
  where
    at : (o : Option (Bor Record)) → then_some (is_some o) (start_of word) ≡ option_map (λ _. start_of word) (option_map (λ r. object_of r.now) o)
    at None = refl
    at (Some r) = refl

-- ---- among the places

among_at : (slots : List (Option Record)) (a : ℕ) (o : Object) → Stands slots a o → IsAmong (length slots) a
among_at slots a o s = (s.place, s.at, low (cases_lt s.place (length slots)))
  where
    low : (s.place < length slots) ⊎ (length slots ≤ s.place) → s.place < length slots
    low (inl less) = less
    low (inr past) = absurd (none-some s.read (sym (get_or_past slots s.place None past) ∙ s.slot))

pub among : (slots : List (Option Record)) (a : ℕ) → IsTrue (contains_key (objects_of slots) a) → IsAmong (length slots) a
among slots a here = at (get (objects_of slots) a) refl here
  where
    at : (o : Option Object) → get (objects_of slots) a ≡ o → IsTrue (is_some o) → IsAmong (length slots) a
    at None is h = absurd (both_ways false refl h)
    at (Some o) is h = among_at slots a o (stands slots a o is)

pub pointed_among : (slots : List (Option Record)) (word a : ℕ) → points (objects_of slots) word ≡ Some a → IsAmong (length slots) a
pointed_among slots word a is = at (get (objects_of slots) (start_of word)) refl (sym (points_is slots word) ∙ is)
  where
    at : (o : Option Object) → get (objects_of slots) (start_of word) ≡ o → option_map (λ _. start_of word) o ≡ Some a → IsAmong (length slots) a
    at None here e = absurd (none-some a e)
    at (Some o) here e = subst (IsAmong (length slots)) (same_Some (start_of word) a e) (among_at slots (start_of word) o (stands slots (start_of word) o here))

-- what a word points to is there
pub pointed_stands : (slots : List (Option Record)) (word a : ℕ) → points (objects_of slots) word ≡ Some a → IsTrue (contains_key (objects_of slots) a)
pointed_stands slots word a is = at (get (objects_of slots) (start_of word)) refl (sym (points_is slots word) ∙ is)
  where
    at : (o : Option Object) → get (objects_of slots) (start_of word) ≡ o → option_map (λ _. start_of word) o ≡ Some a → IsTrue (contains_key (objects_of slots) a)
    at None here e = absurd (none-some a e)
    at (Some o) here e = ap is_some (sym (ap (get (objects_of slots)) (same_Some (start_of word) a e)) ∙ here)

pub slice_low : (slots : List (Option Record)) (i : ℕ) (r : Record) → get_or slots i None ≡ Some r → i < length slots
slice_low slots i r is = low (cases_lt i (length slots))
  where
    low : (i < length slots) ⊎ (length slots ≤ i) → i < length slots
    low (inl less) = less
    low (inr past) = absurd (none-some r (sym (get_or_past slots i None past) ∙ is))
