-- Hosts that list all words of an object, hosts without ephemerons, and words that are zero.
use Rattle.std.proofs.Common.{◌≡◌, ℕ, ◌+◌, ◌-◌, ◌<◌, ◌≤◌, Bool, true, false, cond, if◌then◌else◌, List, [], ◌∷◌, length, map, Option, Some, None, option_map, option_and_then, slice_get, slice_index, refl, sym, ap, ◌∙◌, subst, arith, zero, suc, Contains}
use Rattle.std.specs.Prelude.{unwrap_or}
use Rattle.std.specs.List.{range_with_len}
use Rattle.std.specs.Option.{option_map_or}
use Rattle.std.proofs.lemmas.List.FromFn.{get_or-map-range_with_len, length-map-range_with_len}
use Rattle.std.proofs.lemmas.Option.{none-some, same_Some, slice_get_within, slice_get-get_or, get_or_from_slice_get}
use Rattle.std.specs.FinMap.{get}
use Rattle.fz_model.specs.declared.kinds.ObjKind.TheVariants.{Scanned}
use Rattle.fz_model.specs.Extents.{extents}
use Rattle.fz_model.specs.Memory.{points, fill, filled, word_at}
use Rattle.fz_model.specs.State.{Map, Object}
use Rattle.fz_model.proofs.Lists.{place_of, contains_at}
use Rattle.fz_model.proofs.Maps.{filling, get-mapped}
use Rattle.fz_model.proofs.Objects.{from_covers, points_target}
use Rattle.fz_model.proofs.SeenKept.{points-filled}
use Rattle.fz_why.specs.declared.paths.Pointer.{Pointer}
use Rattle.fz_why.specs.Paths.{ArePointers, AreValues, IsPointer, all_pointers}

-- the word of an object at an index
abbrev pointer_in : ℕ → Object → ℕ → Pointer
pointer_in a o k = record { word = a + k; value = slice_index o.words k }

module _ (objects : Map Object) (a : ℕ) where
  pub all_are : (o : Object) → get objects a ≡ Some o → all_pointers objects a ≡ map (pointer_in a o) (range_with_len 0 (length o.words))
  all_are o here = ap (λ (g : Option Object). option_map_or (λ (o : Object). map (λ k. record { word = a + k; value = slice_index o.words k }) (range_with_len 0 (length o.words))) g []) here

  pub all_none : get objects a ≡ None → all_pointers objects a ≡ []
  all_none none = ap (λ (g : Option Object). option_map_or (λ (o : Object). map (λ k. record { word = a + k; value = slice_index o.words k }) (range_with_len 0 (length o.words))) g []) none

  pub all_at : (o : Object) (k : ℕ) → get objects a ≡ Some o → k < length o.words → slice_get (all_pointers objects a) k ≡ Some (pointer_in a o k)
  all_at o k here low =
      let n : k < length (map (pointer_in a o) (range_with_len 0 (length o.words))) = subst (λ m. k < m) (sym (length-map-range_with_len (pointer_in a o) 0 (length o.words))) low in
      ap (λ xs. slice_get xs k) (all_are o here) ∙ slice_get-get_or (map (pointer_in a o) (range_with_len 0 (length o.words))) k (pointer_in a o k) n
      ∙ ap Some (get_or-map-range_with_len (pointer_in a o) 0 (length o.words) k k (pointer_in a o k) low (omega arith))

  pub all_within : (o : Object) (k : ℕ) (p : Pointer) → get objects a ≡ Some o → slice_get (all_pointers objects a) k ≡ Some p → k < length o.words
  all_within o k p here at =
      subst (λ m. k < m) (length-map-range_with_len (pointer_in a o) 0 (length o.words)) (slice_get_within (map (pointer_in a o) (range_with_len 0 (length o.words))) k p (sym (ap (λ xs. slice_get xs k) (all_are o here)) ∙ at))

  module _ (scanned : (o : Object) → get objects a ≡ Some o → o.kind ≡ Scanned) where
    each : (p : Pointer) (g : Option Object) → get objects a ≡ g → Contains (all_pointers objects a) p → IsPointer objects a p
    each p None none within = let at = place_of (all_pointers objects a) p within in absurd (none-some p (ap (λ xs. slice_get xs at.0) (sym (all_none none)) ∙ at.1))
    each p (Some o) here within =
        let at = place_of (all_pointers objects a) p within in
        let low = all_within o at.0 p here at.1 in
        let same : pointer_in a o at.0 ≡ p = same_Some (pointer_in a o at.0) p (sym (all_at o at.0 here low) ∙ at.1) in
        record {
          object = o;
          here = here;
          scanned = scanned o here;
          place = at.0;
          at = sym (ap (λ (q : Pointer). q.word) same);
          is = slice_get-get_or o.words at.0 0 low ∙ ap (λ (q : Pointer). Some q.value) same;
        }

    pub are_all : ArePointers objects a (all_pointers objects a)
    are_all = record {
      each = λ p within. each p (get objects a) refl within;
      whole = λ p b i pointed.
          let low = slice_get_within i.object.words i.place p.value i.is in
          let value : slice_index i.object.words i.place ≡ p.value = get_or_from_slice_get i.object.words i.place p.value 0 i.is in
          let same : pointer_in a i.object i.place ≡ p = λ j. record { word = sym i.at j; value = value j } in
          contains_at (all_pointers objects a) i.place p (all_at i.object i.place i.here low ∙ ap Some same);
    }

-- ---- ephemerons

-- a host without ephemerons has no values
abbrev pub no_value : Map Object → ℕ → Option ℕ
no_value objects number = None

pub no_values_are : (place : ℕ → Option ℕ) → AreValues place no_value
no_values_are place objects test number none placed = one (option_map_or test (place number) false)
  where
    one : (b : Bool) → ◌≡◌ {A = Option ℕ} None (if b then None else None)
    one true = refl
    one false = refl

fill_index : (test : ℕ → Bool) (a : ℕ) (ws : List ℕ) (i : ℕ) → slice_index (fill test 0 a ws) i ≡ cond (test (a + i)) 0 (slice_index ws i)
fill_index test a [] i = one (test (a + i))
  where
    one : (b : Bool) → ◌≡◌ {A = ℕ} 0 (cond b 0 0)
    one true = refl
    one false = refl
fill_index test a (w ∷ ws) zero = let same : a ≡ a + 0 = omega arith in ap (λ n. cond (test n) 0 w) same
fill_index test a (w ∷ ws) (suc i) = let same : a + 1 + i ≡ a + suc i = omega arith in fill_index test (a + 1) ws i ∙ ap (λ n. cond (test n) 0 (slice_index ws i)) same

-- a word that was set to zero, and one that wasn't
pub word_filled : (test : ℕ → Bool) (objects : Map Object) (word : ℕ) → word_at (filled test 0 objects) word ≡ cond (test word) 0 (word_at objects word)
word_filled test objects word = ap (at (filled test 0 objects)) (points-filled test 0 objects word) ∙ by (points objects word) refl
  where
    at : Map Object → Option ℕ → ℕ
    at m p = unwrap_or (option_and_then (λ start. option_map (λ (o : Object). slice_index o.words (word - start)) (get m start)) p) 0

    low : (start : ℕ) → points objects word ≡ Some start → start ≤ word
    low start is = let t = points_target (extents objects) word start is in (from_covers start word t.0 t.2).0

    nothing : (b : Bool) → ◌≡◌ {A = ℕ} 0 (cond b 0 0)
    nothing true = refl
    nothing false = refl

    in_object : (start : ℕ) → start ≤ word → (o : Option Object)
        → unwrap_or (option_map (λ (x : Object). slice_index x.words (word - start)) (option_map (filling test 0 start) o)) 0
        ≡ cond (test word) 0 (unwrap_or (option_map (λ (x : Object). slice_index x.words (word - start)) o) 0)
    in_object start before None = nothing (test word)
    in_object start before (Some o) =
        let same : start + (word - start) ≡ word = omega (arith, before) in
        fill_index test start o.words (word - start) ∙ ap (λ n. cond (test n) 0 (slice_index o.words (word - start))) same

    by : (p : Option ℕ) → points objects word ≡ p → at (filled test 0 objects) p ≡ cond (test word) 0 (at objects p)
    by None none = nothing (test word)
    by (Some start) is =
        ap (λ g. unwrap_or (option_map (λ (x : Object). slice_index x.words (word - start)) g) 0) (get-mapped (filling test 0) objects start)
        ∙ in_object start (low start is) (get objects start)
