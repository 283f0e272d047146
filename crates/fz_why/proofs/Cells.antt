-- The words of a copy, and the objects whose words they are.
use Rattle.std.proofs.Common.{◌≡◌, ◌≢◌, ℕ, ◌+◌, ◌-◌, ◌^◌, ◌<◌, ◌≤◌, ◌⊎◌, ◌++◌, ◌||◌, Bool, true, false, if◌then◌else◌, is_some, nat_cmp, nat_eq, List, [], ◌∷◌, length, slice_get, slice_index, get_or, Option, Some, None, option_map, option_and_then, refl, sym, ap, ◌∙◌, subst, inl, inr, ⊎_elim, arith, zero, suc}
use Rattle.std.proofs.lemmas.Bool.{cases_eq, eqb-true, eq-eqb, both_ways, or_parts}
use Rattle.std.proofs.lemmas.Option.{none-some, same_Some, slice_get_within, slice_get-get_or, get_or_from_slice_get}
use Rattle.std.specs.Prelude.{unwrap_or}
use Rattle.std.specs.FinMap.{get, empty, get-empty, contains_key}
use Rattle.std.specs.Map.{lookup}
use Rattle.std.specs.Option.{option_map_or}
use Rattle.fz_model.specs.declared.kinds.ObjKind.TheVariants.{Scanned}
use Rattle.fz_model.specs.declared.extent.Extent.{Extent}
use Rattle.fz_model.specs.State.{Map, Object}
use Rattle.fz_model.specs.Extents.{covers, extents, extent_of, AreApart}
use Rattle.fz_model.specs.Memory.{points, word_at}
use Rattle.fz_model.proofs.Lists.{slice_get-left, slice_get-right, slice_get-cases}
use Rattle.fz_model.proofs.Maps.{get-insert_same, get-insert_other, get-extents, not_some}
use Rattle.fz_model.proofs.Objects.{from_covers, to_covers, points_at, points_nowhere}
use Rattle.fz_why.specs.declared.paths.Pointer.{Pointer}
use Rattle.fz_why.specs.declared.snapshot.listing.Cell.{Cell}
use Rattle.fz_why.specs.declared.snapshot.listing.Listed.{Listed}
use Rattle.fz_why.specs.declared.snapshot.listing.TheConstants.{HIDDEN}
use Rattle.fz_why.specs.Paths.{all_pointers}
use Rattle.fz_why.specs.Hosts.{all_at, all_none, all_within}
use Rattle.fz_why.specs.Snapshot.{AreCells, Cells, Links, IsNext, IsPut, IsWordOf, cell_of, hidden_at, holder_of, is_taken, listed, objects_of, place_of, value_of, with_cell, word_of, words_in}

-- ---- one more word

listed_more : (es : Cells) (objects : Map Object) (e : ℕ × Cell) → listed objects (es ++ e ∷ []) ≡ with_cell (listed objects es) e.1
listed_more [] objects e = refl
listed_more (x ∷ es) objects e = listed_more es (with_cell objects x.1) e

pub objects_more : (es : Cells) (word : ℕ) (c : Cell) → objects_of (es ++ (word, c) ∷ []) ≡ with_cell (objects_of es) c
unfolding objects_of
objects_more es word c = listed_more es empty (word, c)

-- the words of an object, where it is known
words_here : (objects : Map Object) (a : ℕ) (o : Object) → get objects a ≡ Some o → words_in objects a ≡ o.words
words_here objects a o here = ap (λ (g : Option Object). option_map_or (λ (x : Object). x.words) g []) here

some_here : {X : Type 0} (o : Option X) → (o ≡ None) ⊎ ((x : X) × (o ≡ Some x))
some_here None = inl refl
some_here (Some x) = inr (x, refl)

word_here : (objects : Map Object) (a k value : ℕ) → slice_get (words_in objects a) k ≡ Some value → (o : Object) × (get objects a ≡ Some o) × (slice_get o.words k ≡ Some value)
word_here objects a k value is =
    ⊎_elim
    (λ (none : get objects a ≡ None). absurd (none-some value (sym (ap (λ (g : Option Object). slice_get (option_map_or (λ (x : Object). x.words) g []) k) none) ∙ is)))
    (λ some. (some.0, some.1, sym (ap (λ ws. slice_get ws k) (words_here objects a some.0 some.1)) ∙ is)) (some_here (get objects a))

module _ (es ns : Cells) (links : Links) (word : ℕ) (c : Cell) (inv : AreCells (objects_of es) es) (next : IsNext es links word c) (put : IsPut es ns word c) where
  abbrev objects : Map Object
  objects = objects_of es

  abbrev more : Map Object
  more = with_cell objects c

  abbrev made : Object
  made = record { kind = Scanned; birth = 0; words = words_in objects c.object ++ c.value ∷ [] }

  -- the new word, and one that was there
  pub found_new : lookup (nat_eq word) ns ≡ Some c
  found_new = put.found word ∙ ap (λ b. if b then Some c else lookup (nat_eq word) es) (eq-eqb word word refl)

  pub found_old : (q : ℕ) (d : Cell) → lookup (nat_eq q) es ≡ Some d → lookup (nat_eq q) ns ≡ Some d
  found_old q d there = put.found q ∙ one (nat_eq word q) refl
    where
      one : (b : Bool) → nat_eq word q ≡ b → (if b then Some c else lookup (nat_eq q) es) ≡ Some d
      one true same = absurd (none-some d (sym next.free ∙ ap (λ n. lookup (nat_eq n) es) (eqb-true word q same) ∙ there))
      one false other = there

  pub found_cases : (q : ℕ) (d : Cell) → lookup (nat_eq q) ns ≡ Some d → ((q ≡ word) × (d ≡ c)) ⊎ (lookup (nat_eq q) es ≡ Some d)
  found_cases q d there = one (nat_eq word q) refl (sym (put.found q) ∙ there)
    where
      one : (b : Bool) → nat_eq word q ≡ b → (if b then Some c else lookup (nat_eq q) es) ≡ Some d → ((q ≡ word) × (d ≡ c)) ⊎ (lookup (nat_eq q) es ≡ Some d)
      one true same is = inl (sym (eqb-true word q same), sym (same_Some c d is))
      one false other is = inr is

  each : (q : ℕ) (d : Cell) → ((q ≡ word) × (d ≡ c)) ⊎ (lookup (nat_eq q) es ≡ Some d) → IsWordOf more q d
  each q d (inl new) =
      let last : slice_get made.words (length (words_in objects c.object) + 0) ≡ Some c.value = slice_get-right (words_in objects c.object) (c.value ∷ []) 0 in
      subst (λ (x : Cell). IsWordOf more q x) (sym new.1)
      (record { object = made; here = get-insert_same objects c.object made; index = length (words_in objects c.object) + 0; at = omega (arith, new.0, next.at); is = last })
  each q d (inr old) = one (cases_eq d.object c.object)
    where
      was : IsWordOf objects q d
      was = inv.each q d old

      one : (d.object ≡ c.object) ⊎ (d.object ≢ c.object) → IsWordOf more q d
      one (inl same) =
          let ws : words_in objects c.object ≡ was.object.words = words_here objects c.object was.object (ap (get objects) (sym same) ∙ was.here) in
          record {
            object = made;
            here = ap (get more) same ∙ get-insert_same objects c.object made;
            index = was.index;
            at = was.at;
            is = slice_get-left (words_in objects c.object) (c.value ∷ []) was.index d.value (ap (λ xs. slice_get xs was.index) ws ∙ was.is);
          }
      one (inr other) = record { object = was.object; here = get-insert_other objects c.object made d.object other ∙ was.here; index = was.index; at = was.at; is = was.is }

  abbrev IsHad : ℕ → ℕ → ℕ → Type 0
  IsHad a k value = (d : Cell) × (lookup (nat_eq (a + k)) ns ≡ Some d) × (d.object ≡ a) × (d.value ≡ value)

  had : (a k value : ℕ) (o : Object) → get objects a ≡ Some o → slice_get o.words k ≡ Some value → IsHad a k value
  had a k value o here is = let d = inv.whole a k value o here is in (d.0, found_old (a + k) d.0 d.1, d.2, d.3)

  last_value : (i : ℕ) (value : ℕ) → slice_get (c.value ∷ []) i ≡ Some value → (i ≡ 0) × (c.value ≡ value)
  last_value zero value is = (refl, same_Some c.value value is)
  last_value (suc i) value is = absurd (none-some value is)

  whole : (a k value : ℕ) (o : Object) → get more a ≡ Some o → slice_get o.words k ≡ Some value → IsHad a k value
  whole a k value o here is = one (cases_eq a c.object)
    where
      one : (a ≡ c.object) ⊎ (a ≢ c.object) → IsHad a k value
      one (inr other) = had a k value o (sym (get-insert_other objects c.object made a other) ∙ here) is
      one (inl same) =
          let o_is : o ≡ made = same_Some o made (sym here ∙ ap (get more) same ∙ get-insert_same objects c.object made) in
          ⊎_elim
          (λ old.
          let w = word_here objects c.object k value old in
          had a k value w.0 (ap (get objects) same ∙ w.1) w.2)
          (λ new.
          let last = last_value new.0 value new.2 in
          let at : a + k ≡ word = omega (arith, same, new.1, last.0, next.at) in
          (c, ap (λ n. lookup (nat_eq n) ns) at ∙ found_new, sym same, last.1))
          (slice_get-cases (words_in objects c.object) (c.value ∷ []) k value (ap (λ (x : Object). slice_get x.words k) (sym o_is) ∙ is))

  pub cells_more : AreCells (objects_of ns) ns
  cells_more =
      let same : objects_of ns ≡ more = ap objects_of put.at_end ∙ objects_more es word c in
      subst (λ m. AreCells m ns) (sym same)
      (record {
        each = λ q d there. each q d (found_cases q d there);
        whole = whole;
        some = some;
        within = λ q d there. ⊎_elim (λ new. (subst (λ (x : Cell). 0 < x.object) (sym new.1) next.object, subst (λ n. n + 1 < 2 ^ 64) (sym new.0) next.fits)) (λ old. inv.within q d old) (found_cases q d there);
      })
    where
      some : (a : ℕ) (o : Object) → get more a ≡ Some o → 0 < length o.words
      some a o here =
          ⊎_elim
          (λ (same : a ≡ c.object).
          let o_is : o ≡ made = same_Some o made (sym here ∙ ap (get more) same ∙ get-insert_same objects c.object made) in
          let low = slice_get_within made.words (length (words_in objects c.object) + 0) c.value (slice_get-right (words_in objects c.object) (c.value ∷ []) 0) in
          subst (λ (x : Object). 0 < length x.words) (sym o_is) (omega (arith, low)))
          (λ other. inv.some a o (sym (get-insert_other objects c.object made a other) ∙ here)) (cases_eq a c.object)

-- ---- none yet

pub cells_none : (es : Cells) → es ≡ [] → AreCells (objects_of es) es
unfolding objects_of
cells_none es is = subst (λ (xs : Cells). AreCells (objects_of xs) xs) (sym is) none
  where
    nothing : (a : ℕ) (o : Object) → get (objects_of []) a ≡ Some o → ⊥
    nothing a o here = none-some o (sym (get-empty nat_cmp a) ∙ here)

    none : AreCells (objects_of []) []
    none = record {
      each = λ w c there. absurd (none-some c there);
      whole = λ a k value o here is. absurd (nothing a o here);
      some = λ a o here. absurd (nothing a o here);
      within = λ w c there. absurd (none-some c there);
    }

-- ---- what words point to

module _ (es : Cells) (inv : AreCells (objects_of es) es) where
  abbrev heap : Map Object
  heap = objects_of es

  -- an address within an object is that of a word that was listed of it
  pub cell_at : (a w : ℕ) (o : Object) → get heap a ≡ Some o → a ≤ w → w < a + length o.words → (c : Cell) × (lookup (nat_eq w) es ≡ Some c) × (c.object ≡ a)
  cell_at a w o here low high =
      let k : ℕ = w - a in
      let within : k < length o.words = omega (arith, low, high) in
      let d = inv.whole a k (get_or o.words k 0) o here (slice_get-get_or o.words k 0 within) in
      let at : a + k ≡ w = omega (arith, low) in
      (d.0, ap (λ n. lookup (nat_eq n) es) (sym at) ∙ d.1, d.2)

  -- the object that has the extent
  of_extent : (a : ℕ) (x : Extent) → get (extents heap) a ≡ Some x → (o : Object) × (get heap a ≡ Some o) × (x.size ≡ length o.words)
  of_extent a x here = one (get heap a) refl (sym (get-extents heap a) ∙ here)
    where
      one : (g : Option Object) → get heap a ≡ g → option_map extent_of g ≡ Some x → (o : Object) × (get heap a ≡ Some o) × (x.size ≡ length o.words)
      one None at is = absurd (none-some x is)
      one (Some o) at is = (o, at, ap (λ (y : Extent). y.size) (sym (same_Some (extent_of o) x is)))

  covered : (a w : ℕ) (x : Extent) → get (extents heap) a ≡ Some x → covers (a, x) w ≡ true → (c : Cell) × (lookup (nat_eq w) es ≡ Some c) × (c.object ≡ a)
  covered a w x here has =
      let o = of_extent a x here in
      let lies = from_covers a w x has in
      cell_at a w o.0 o.1 lies.0 (subst (λ n. w < a + n) o.2 lies.1)

  apart : AreApart (extents heap)
  apart a b w x y at there has has_too =
      let c = covered a w x at has in
      let d = covered b w y there has_too in
      sym c.2 ∙ ap (λ (z : Cell). z.object) (same_Some c.0 d.0 (sym c.1 ∙ d.1)) ∙ d.2

  pub points_is : (w : ℕ) → holder_of es w ≡ points heap w
  points_is w = one (lookup (nat_eq w) es) refl
    where
      one : (g : Option Cell) → lookup (nat_eq w) es ≡ g → option_map (λ (c : Cell). c.object) g ≡ points heap w
      one None none = sym (points_nowhere (extents heap) w (λ a x here has. let c = covered a w x here has in none-some c.0 (sym none ∙ c.1)))
      one (Some c) there =
          let of = inv.each w c there in
          let x : Extent = extent_of of.object in
          let high = slice_get_within of.object.words of.index c.value of.is in
          sym (points_at (extents heap) apart c.object w x (get-extents heap c.object ∙ ap (option_map extent_of) of.here) (to_covers c.object w x (omega (arith, of.at)) (omega (arith, of.at, high))))

  pub zero_none : points heap 0 ≡ None
  zero_none = sym (points_is 0) ∙ one (lookup (nat_eq 0) es) refl
    where
      one : (g : Option Cell) → lookup (nat_eq 0) es ≡ g → option_map (λ (c : Cell). c.object) g ≡ None
      one None none = refl
      one (Some c) there = let of = inv.each 0 c there in let w = inv.within 0 c there in absurd (omega (arith, of.at, w.0))

  -- ---- what words contain

  pub word_value : (w : ℕ) (c : Cell) → lookup (nat_eq w) es ≡ Some c → word_at heap w ≡ c.value
  word_value w c there =
      let of = inv.each w c there in
      let pointed : points heap w ≡ Some c.object = sym (points_is w) ∙ ap (option_map (λ (d : Cell). d.object)) there in
      let offset : w - c.object ≡ of.index = omega (arith, of.at) in
      ap (λ p. unwrap_or (option_and_then (λ start. option_map (λ (o : Object). slice_index o.words (w - start)) (get heap start)) p) 0) pointed
      ∙ ap (λ g. unwrap_or (option_map (λ (o : Object). slice_index o.words (w - c.object)) g) 0) of.here
      ∙ ap (slice_index of.object.words) offset ∙ get_or_from_slice_get of.object.words of.index c.value 0 of.is

  -- the value of an ephemeron, by the word that was listed
  pub value_here : (links : Links) (number w : ℕ) (c : Cell) (b : Bool) → place_of es links number ≡ Some w → lookup (nat_eq w) es ≡ Some c → nat_eq c.value HIDDEN ≡ b
      → value_of es links heap number ≡ (if b then points heap c.hidden else None)
  value_here links number w c b placed there is =
      ap (option_and_then (λ word. if nat_eq (word_at heap word) HIDDEN then hidden_at es heap word else None)) placed
      ∙ ap (λ n. if nat_eq n HIDDEN then hidden_at es heap w else None) (word_value w c there)
      ∙ ap (λ x. if x then hidden_at es heap w else None) is
      ∙ ap (λ (o : Option ℕ). if b then o else None) (ap (option_and_then (λ (d : Cell). points heap d.hidden)) there)

  -- ---- whether an object was listed

  pub contains_none : (a : ℕ) → lookup (nat_eq a) es ≡ None → false ≡ contains_key heap a
  contains_none a none = ⊎_elim (λ (n : get heap a ≡ None). sym (ap is_some n)) (λ o. let c = cell_at a a o.0 o.1 (omega arith) (let s = inv.some a o.0 o.1 in omega (arith, s)) in absurd (none-some c.0 (sym none ∙ c.1))) (some_here (get heap a))

  pub contains_some : (a : ℕ) (c : Cell) → lookup (nat_eq a) es ≡ Some c → nat_eq c.object a ≡ contains_key heap a
  contains_some a c there = one (nat_eq c.object a) refl
    where
      one : (b : Bool) → nat_eq c.object a ≡ b → b ≡ contains_key heap a
      one true same = let of = inv.each a c there in sym (ap is_some (ap (get heap) (sym (eqb-true c.object a same)) ∙ of.here))
      one false other =
          ⊎_elim (λ (n : get heap a ≡ None). sym (ap is_some n))
          (λ o.
          let d = cell_at a a o.0 o.1 (omega arith) (let s = inv.some a o.0 o.1 in omega (arith, s)) in
          let is : c.object ≡ a = ap (λ (z : Cell). z.object) (same_Some c d.0 (sym there ∙ d.1)) ∙ d.2 in
          absurd (both_ways (nat_eq c.object a) other (eq-eqb c.object a is))) (some_here (get heap a))

  -- ---- the words of an object by index

  pub pointer_here : (a k : ℕ) (c : Cell) → lookup (nat_eq (a + k)) es ≡ Some c → c.object ≡ a → Some (record { word = a + k; value = c.value }) ≡ slice_get (all_pointers heap a) k
  pointer_here a k c there is =
      let of = inv.each (a + k) c there in
      let here : get heap a ≡ Some of.object = ap (get heap) (sym is) ∙ of.here in
      let same : of.index ≡ k = omega (arith, of.at, is) in
      let at : slice_get of.object.words k ≡ Some c.value = ap (slice_get of.object.words) (sym same) ∙ of.is in
      sym (all_at heap a of.object k here (slice_get_within of.object.words k c.value at) ∙ ap (λ v. Some (record { word = a + k; value = v })) (value of.object.words k c.value at))
    where
      value : (ws : List ℕ) (k v : ℕ) → slice_get ws k ≡ Some v → get_or ws k 0 ≡ v
      value ws k v is = same_Some (get_or ws k 0) v (sym (slice_get-get_or ws k 0 (slice_get_within ws k v is)) ∙ is)

  pub pointer_none : (a k : ℕ) → ((c : Cell) → lookup (nat_eq (a + k)) es ≡ Some c → c.object ≡ a → ⊥) → None ≡ slice_get (all_pointers heap a) k
  pointer_none a k never = one (slice_get (all_pointers heap a) k) refl
    where
      one : (g : Option Pointer) → slice_get (all_pointers heap a) k ≡ g → None ≡ slice_get (all_pointers heap a) k
      one None none = sym none
      one (Some p) at =
          ⊎_elim (λ (n : get heap a ≡ None). absurd (none-some p (ap (λ ps. slice_get ps k) (sym (all_none heap a n)) ∙ at)))
          (λ o.
          let low = all_within heap a o.0 k p o.1 at in
          let c = cell_at a (a + k) o.0 o.1 (omega arith) (omega (arith, low)) in
          absurd (never c.0 c.1 c.2)) (some_here (get heap a))

  -- ---- where the next word of an object is

  pub begins_free : (a : ℕ) → lookup (nat_eq a) es ≡ None → a ≡ a + length (words_in heap a)
  begins_free a none =
      ⊎_elim (λ (n : get heap a ≡ None). let len : length (words_in heap a) ≡ 0 = ap (λ (g : Option Object). length (option_map_or (λ (x : Object). x.words) g [])) n in omega (arith, len))
      (λ o. let c = cell_at a a o.0 o.1 (omega arith) (let s = inv.some a o.0 o.1 in omega (arith, s)) in absurd (none-some c.0 (sym none ∙ c.1))) (some_here (get heap a))

  pub ends_free : (w : ℕ) (c : Cell) → 0 < w → lookup (nat_eq w) es ≡ None → lookup (nat_eq (w - 1)) es ≡ Some c → w ≡ c.object + length (words_in heap c.object)
  ends_free w c positive none there =
      let of = inv.each (w - 1) c there in
      let low = slice_get_within of.object.words of.index c.value of.is in
      let ws : length (words_in heap c.object) ≡ length of.object.words = ap length (words_here heap c.object of.object of.here) in
      ⊎_elim (λ (is : w ≡ c.object + length of.object.words). omega (arith, is, ws))
      (λ other.
      let d = cell_at c.object w of.object of.here (omega (arith, of.at, positive)) (omega (arith, of.at, low, positive, other)) in
      absurd (none-some d.0 (sym none ∙ d.1))) (cases_eq w (c.object + length of.object.words))

  free : (links : Links) (w : ℕ) (link : Option ℕ) → w < 2 ^ 64 → is_taken es links w link ≡ false → (lookup (nat_eq w) es ≡ None) × ((number : ℕ) → link ≡ Some number → lookup (nat_eq number) links ≡ None) × (0 < w) × (w + 1 < 2 ^ 64)
  free links w link fits untaken =
      let p = or_parts (nat_eq w 0 || nat_eq w (2 ^ 64 - 1) || is_some (lookup (nat_eq w) es)) (option_map_or (λ number. is_some (word_of links number)) link false) untaken in
      let q = or_parts (nat_eq w 0 || nat_eq w (2 ^ 64 - 1)) (is_some (lookup (nat_eq w) es)) p.0 in
      let r = or_parts (nat_eq w 0) (nat_eq w (2 ^ 64 - 1)) q.0 in
      let ne : w ≢ 0 = (λ is. both_ways (nat_eq w 0) r.0 (eq-eqb w 0 is)) in
      let ne_last : w ≢ 2 ^ 64 - 1 = (λ is. both_ways (nat_eq w (2 ^ 64 - 1)) r.1 (eq-eqb w (2 ^ 64 - 1) is)) in (
        not_some (lookup (nat_eq w) es) q.1,
        λ number is. not_some (lookup (nat_eq number) links) (sym (ap (λ (o : Option ℕ). option_map_or (λ n. is_some (word_of links n)) o false) is) ∙ p.1),
        omega (arith, ne),
        omega (arith, ne_last, fits),
      )

  pub next_object : (links : Links) (a : ℕ) (l : Listed) → a < 2 ^ 64 → is_taken es links a l.link ≡ false → IsNext es links a (cell_of a l)
  next_object links a l fits untaken =
      let f = free links a l.link fits untaken in
      record { free = f.0; unlinked = f.1; at = begins_free a f.0; object = f.2; fits = f.3 }

  pub next_word : (links : Links) (w a : ℕ) (l : Listed) → w < 2 ^ 64 → is_taken es links w l.link ≡ false → holder_of es (w - 1) ≡ Some a → IsNext es links w (cell_of a l)
  next_word links w a l fits untaken there = one (lookup (nat_eq (w - 1)) es) refl there
    where
      one : (g : Option Cell) → lookup (nat_eq (w - 1)) es ≡ g → option_map (λ (c : Cell). c.object) g ≡ Some a → IsNext es links w (cell_of a l)
      one None none is = absurd (none-some a is)
      one (Some c) there is =
          let f = free links w l.link fits untaken in
          let same : c.object ≡ a = same_Some c.object a is in
          record {
            free = f.0;
            unlinked = f.1;
            at = subst (λ x. w ≡ x + length (words_in heap x)) same (ends_free w c f.2 f.0 there);
            object = subst (λ x. 0 < x) same (inv.within (w - 1) c there).0;
            fits = f.3;
          }
