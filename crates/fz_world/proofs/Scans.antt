-- How many objects a step scans, and how many were scanned.
use Rattle.std.proofs.Common.{◌≡◌, ◌≢◌, ◌+◌, ◌<◌, ◌≤◌, ◌==◌, ℕ, Bool, true, false, not, ◌&&◌, sym, ap, ◌∙◌, refl, arith, length, IsTrue, Some, slice_get, Option, None, true≢false, subst}
use Rattle.std.proofs.lemmas.Bool.{and_parts, both_ways}
use Rattle.std.proofs.lemmas.List.{length-map}
use Rattle.std.proofs.lemmas.List.Sums.{count_by-le-length}
use Rattle.std.proofs.lemmas.Option.{none-some}
use Rattle.std.specs.Option.{option_map_or}
use Rattle.std.specs.FinMap.{get, insert, len, keys, entries, len-entries}
use Rattle.std.specs.FinSet as sets
use Rattle.std.specs.FinSet.{contains}
use Rattle.fz_model.specs.declared.kinds.ObjKind.TheVariants.{Scanned}
use Rattle.fz_model.specs.State.{Map, Object}
use Rattle.fz_model.specs.Memory.{fill, filled, written}
use Rattle.fz_model.specs.Allocation.{same_kind}
use Rattle.fz_model.proofs.MapEntries.{at_key, key_in}
use Rattle.fz_model.proofs.Maps.{filled_here, get-insert_other}
use Rattle.fz_bits.specs.Flags.{Set, IsWithin}
use Rattle.fz_marker.specs.Marking.{IsLeft, is_newly_in, is_readable, readable_count}
use Rattle.fz_marker.proofs.Counts.{count_is, count_less, count_two}
use Rattle.fz_marker.proofs.Members.{count_among, count_members, keys_once}

pub len_keys : (objects : Map Object) → length (keys objects) ≡ len objects
len_keys objects = length-map (entries objects) (λ (e : ℕ × Object). e.0) ∙ sym (len-entries objects)

pub readable_few : (objects : Map Object) (test : ℕ → Bool) → readable_count objects test ≤ len objects
readable_few objects test = let few = count_by-le-length (λ a. test a && is_readable objects a) (keys objects) in let all = len_keys objects in omega (arith, few, all)

-- where an object is left unscanned, fewer were scanned than there are
pub one_left : (objects : Map Object) (marked old new : Set) → IsLeft objects marked new → readable_count objects (is_newly_in old new) < len objects
one_left objects marked old new left =
    let test = λ (a : ℕ). is_newly_in old new a && is_readable objects a in
    let object = readable_here (get objects left.0) refl left.2 in
    let place = key_in objects left.0 object.0 object.1 in
    let off : test left.0 ≡ false = ap (λ b. (b && not (contains old left.0)) && is_readable objects left.0) left.3 in
    let fewer = count_less test (λ a. true) (λ a t. refl) (keys objects) place.0 left.0 place.1 off refl in
    let all = count_by-le-length (λ (a : ℕ). true) (keys objects) in
    let keys_ = len_keys objects in
    omega (arith, fewer, all, keys_)
  where
    readable_here : (found : Option Object) → get objects left.0 ≡ found → IsTrue (is_readable objects left.0) → (o : Object) × (get objects left.0 ≡ Some o)
    readable_here None none t = absurd (true≢false (sym t ∙ ap (λ m. option_map_or (λ (o : Object). same_kind o.kind Scanned) m false) none))
    readable_here (Some o) some t = (o, some)

-- ---- how many were scanned

-- no more than were marked so
pub readable_within : (objects : Map Object) (set : Set) → readable_count objects (contains set) ≤ sets.len set
readable_within objects set =
    count_members (λ a. contains set a && is_readable objects a) (λ a w. a ≡ w) (λ a b w e f. e ∙ sym f) set (keys objects) (keys_once objects)
    (λ i a here passes. (a, (and_parts (contains set a) (is_readable objects a) passes).0, refl))

-- those before and those since are those now
pub readable_more : (objects : Map Object) (old new : Set) → IsWithin old new → readable_count objects (contains old) + readable_count objects (is_newly_in old new) ≤ readable_count objects (contains new)
readable_more objects old new still =
    count_two (λ a. contains old a && is_readable objects a) (λ a. is_newly_in old new a && is_readable objects a) (λ a. contains new a && is_readable objects a)
    (λ a. each (contains old a) (contains new a) (is_readable objects a) (still a)) (keys objects)
  where
    each : (s t r : Bool) → (IsTrue s → IsTrue t) → count_is (s && r) + count_is ((t && not s) && r) ≤ count_is (t && r)
    each true true r h = omega arith
    each true false r h = absurd (both_ways false refl (h refl))
    each false true r h = omega arith
    each false false r h = omega arith

-- those of a set and others are no more than all
pub readable_apart : (objects : Map Object) (scanned marked : Set) → readable_count objects (contains scanned) + readable_count objects (is_newly_in scanned marked) ≤ len objects
readable_apart objects scanned marked =
    let two = count_two (λ a. contains scanned a && is_readable objects a) (λ a. is_newly_in scanned marked a && is_readable objects a) (λ (a : ℕ). true) (λ a. each (contains scanned a) (contains marked a) (is_readable objects a)) (keys objects) in
    let all = count_by-le-length (λ (a : ℕ). true) (keys objects) in
    let keys_ = len_keys objects in
    omega (arith, two, all, keys_)
  where
    each : (s t r : Bool) → count_is (s && r) + count_is ((t && not s) && r) ≤ 1
    each true true true = omega arith
    each true true false = omega arith
    each true false true = omega arith
    each true false false = omega arith
    each false true true = omega arith
    each false true false = omega arith
    each false false r = omega arith

-- ---- while the heap changes

-- objects that stay, each with its kind, are no fewer
readable_still : (objects after : Map Object) (test : ℕ → Bool) → ((a : ℕ) (o : Object) → get objects a ≡ Some o → (n : Object) × (get after a ≡ Some n) × (n.kind ≡ o.kind)) → readable_count objects test ≤ readable_count after test
readable_still objects after test stay = count_among (λ a. test a && is_readable objects a) (λ a. test a && is_readable after a) (keys objects) (keys after) (keys_once objects) each
  where
    each : (i a : ℕ) → slice_get (keys objects) i ≡ Some a → IsTrue (test a && is_readable objects a) → ((j : ℕ) × (slice_get (keys after) j ≡ Some a)) × IsTrue (test a && is_readable after a)
    each i a here passes =
        let o = at_key objects i a here in
        let n = stay a o.0 o.1 in
        let same : is_readable objects a ≡ is_readable after a =
        ap (λ m. option_map_or (λ (o : Object). same_kind o.kind Scanned) m false) o.1
        ∙ ap (λ k. same_kind k Scanned) (sym n.2)
        ∙ sym (ap (λ m. option_map_or (λ (o : Object). same_kind o.kind Scanned) m false) n.1) in
        (key_in after a n.0 n.1, subst (λ b. IsTrue (test a && b)) same passes)

pub readable_written : (objects : Map Object) (place value : ℕ) (test : ℕ → Bool) → readable_count objects test ≤ readable_count (written place value objects) test
unfolding written
readable_written objects place value test =
    readable_still objects (filled (λ x. x == place) value objects) test (λ a o here. (record o { words = fill (λ x. x == place) value a o.words }, filled_here (λ x. x == place) value objects a o here, refl))

pub readable_made : (objects : Map Object) (new : ℕ) (object : Object) (test : ℕ → Bool) → get objects new ≡ None → readable_count objects test ≤ readable_count (insert objects new object) test
readable_made objects new object test fresh =
    readable_still objects (insert objects new object) test (λ a o here.
    let other : a ≢ new = λ same. none-some o (sym fresh ∙ ap (get objects) (sym same) ∙ here) in
    (o, get-insert_other objects new object a other ∙ here, refl))
