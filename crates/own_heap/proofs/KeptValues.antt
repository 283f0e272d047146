-- An ephemeron pair that has its key after a collection has its value, too.
use Rattle.std.proofs.Common.{◌≡◌, ◌∙◌, ◌&&◌, ℕ, ◌-◌, Bool, true, false, cond, List, [], ◌∷◌, Option, Some, None, option_map, is_some, slice_index, refl, sym, ap, inl, ⊎_elim, arith, IsTrue}
use Rattle.std.proofs.lemmas.Bool.{both_ways, and_parts, cond-true}
use Rattle.std.proofs.lemmas.Option.{none-some}
use Rattle.std.specs.Prelude.{option_and_then, unwrap_or}
use Rattle.std.specs.Option.{option_map_or}
use Rattle.std.specs.FinMap.{get, contains_key}
use Rattle.fz_model.specs.Memory.{points, fill, filled, word_at}
use Rattle.fz_model.specs.Pass.{cleared, is_dead}
use Rattle.fz_model.specs.State.{Map, Object}
use Rattle.fz_model.proofs.Maps.{filling, get-mapped, get-retain, retained_back}
use Rattle.fz_pass.specs.Decides.{Parts}
use Rattle.fz_pass.specs.Holds.{Ephemerons, Member, ByHolder, ByKey, IsOfKey}
use Rattle.fz_pass.specs.Places.{is_held, placed}
use Rattle.fz_pass.specs.Safe.{LeadsTo}
use Rattle.fz_pass.specs.Whole.{IsRetained, ephemerons_judged, objects_judged}
use Rattle.fz_pass.proofs.Holding.{holder_of}
use Rattle.fz_pass.proofs.Placing.{placed_back}
use Rattle.fz_pass.proofs.Safe.{alive}
use Rattle.fz_finalizers.specs.Passed.{parts_in}
use Rattle.fz_finalizers.specs.States.{State}
use Rattle.own_heap.specs.declared.record.Record.{Record}
use Rattle.own_heap.specs.declared.record.RecordId.{RecordId}
use Rattle.own_heap.specs.Outside.{place_of_link, place_itself, links_apart}
use Rattle.own_heap.specs.Records.{address_of, objects_of, start_of, value_of}
use Rattle.own_heap.specs.Collected.{Collects}
use Rattle.own_heap.specs.Keyed.{IsOnlyKeyed, PairsKeepValues}
use Rattle.own_heap.specs.Sound.{IsSound}
use Rattle.own_heap.proofs.Slots.{points_is, pointed_stands}
use Rattle.own_heap.proofs.Holding.{object_points}
use Rattle.own_heap.proofs.Keeping.{found_kept, kept_stands, left_kept}
use Rattle.own_heap.proofs.KeyedPairs.{points_filled, short_is}
use Rattle.own_heap.proofs.Valued.{low_in, value_none}

-- ---- the first word of an object

module _ (w : ℕ) where
  none_between : w - w ≡ 0
  none_between = omega arith

  first_word : (m : Map Object) (o : Object) → get m w ≡ Some o → points m w ≡ Some w → word_at m w ≡ slice_index o.words 0
  first_word m o here there =
      ap (λ p. unwrap_or (option_and_then (λ start. option_map (λ (x : Object). slice_index x.words (w - start)) (get m start)) p) 0) there
      ∙ ap (λ g. unwrap_or (option_map (λ (x : Object). slice_index x.words (w - w)) g) 0) here ∙ ap (slice_index o.words) none_between

  fill_first : (test : ℕ → Bool) (ws : List ℕ) → test w ≡ false → slice_index (fill test 0 w ws) 0 ≡ slice_index ws 0
  fill_first test [] off = refl
  fill_first test (x ∷ xs) off = ap (λ b. cond b 0 x) off

  -- an object begins at the word, and its first word is this
  record Has (x : ℕ) (m : Map Object) : Type 0 where
    object : Object
    here : get m w ≡ Some object
    there : points m w ≡ Some w
    word : slice_index object.words 0 ≡ x

  filled_has : (x : ℕ) (test : ℕ → Bool) (m : Map Object) → test w ≡ false → Has x m → Has x (filled test 0 m)
  filled_has x test m off h = record {
    object = filling test 0 w h.object;
    here = get-mapped (filling test 0) m w ∙ ap (option_map (filling test 0 w)) h.here;
    there = points_filled test m w ∙ h.there;
    word = fill_first test h.object.words off ∙ h.word;
  }

  -- links in the word
  leads_at : (links : Map ℕ) (set : ℕ → Bool) → ((target : ℕ) → get links w ≡ Some target → IsTrue (set target)) → LeadsTo (placed place_of_link links) w set
  leads_at links set each target is = let b = placed_back place_of_link links_apart links w target is in each target (ap (get links) (sym (place_itself b.0 w b.1)) ∙ b.2)

  leads_nowhere : (links : Map ℕ) (set : ℕ → Bool) → get links w ≡ None → LeadsTo (placed place_of_link links) w set
  leads_nowhere links set none = leads_at links set (λ target is. absurd (none-some target (sym none ∙ is)))

module _ (slots left : List (Option Record)) (roots : List RecordId) (old new : State) (sound : IsSound (objects_of slots) old) (c : Collects (objects_of slots) roots old (objects_of left) new)
    (w k v : ℕ) (begins : start_of w ≡ w) (only : IsOnlyKeyed old w) (hides : value_of (objects_of slots) w ≡ Some v) (stays : IsTrue (contains_key (objects_of left) w)) (has : get new.ephemerons.short w ≡ Some k) where
  abbrev objects : Map Object
  objects = objects_of slots

  abbrev kept : ℕ → Bool
  kept = c.decided.kept

  abbrev keyed : Ephemerons
  keyed = c.begun.ephemerons

  abbrev parts : Parts
  parts = parts_in objects c.begun

  abbrev first : Map Object
  first = cleared (placed place_of_link c.begun.short) c.found objects

  abbrev judged : Map Object
  judged = objects_judged place_of_link value_of parts keyed c.found

  abbrev third : Map Object
  third = cleared (placed place_of_link c.begun.long) kept judged

  abbrev last : Map Object
  last = cleared (placed place_of_link keyed.long) kept third

  -- the state of the pass has the links and the ephemerons of before
  begun_short : get c.begun.short w ≡ None
  begun_short = ap (λ (s : State). get s.short w) c.short.2 ∙ only.0

  begun_long : get c.begun.long w ≡ None
  begun_long = ap (λ (s : State). get s.long w) c.short.2 ∙ only.1

  begun_keyed : get keyed.long w ≡ None
  begun_keyed = ap (λ (s : State). get s.ephemerons.long w) c.short.2 ∙ only.2

  abbrev test : ℕ → Bool
  test x = option_map_or c.found (get old.ephemerons.short x) false && is_held place_of_link objects kept x

  both : (test w ≡ true) × (get old.ephemerons.short w ≡ Some k)
  both = retained_back old.ephemerons.short test w k (sym (ap (λ m. get m w) (short_is slots roots old (objects_of left) new c)) ∙ has)

  begun_key : get keyed.short w ≡ Some k
  begun_key = ap (λ (s : State). get s.ephemerons.short w) c.short.2 ∙ both.1

  found_key : IsTrue (c.found k)
  found_key = sym (ap (λ o. option_map_or c.found o false) both.1) ∙ (and_parts (option_map_or c.found (get old.ephemerons.short w) false) (is_held place_of_link objects kept w) both.0).0

  held_pair : IsTrue (is_held place_of_link objects kept w)
  held_pair = (and_parts (option_map_or c.found (get old.ephemerons.short w) false) (is_held place_of_link objects kept w) both.0).1

  pub key_stays : IsTrue (contains_key (objects_of left) k)
  key_stays = kept_stands _ _ _ _ _ _ _ _ _ _ _ _ _ c.decided k (found_kept _ _ _ _ _ _ _ _ _ _ _ _ _ c.decided k found_key) (sound.short_keys w k both.1)

  -- ---- the word stays the same

  abbrev x : ℕ
  x = word_at objects w

  start : Has w x objects
  start = by (points objects w) refl
    where
      in_record : points objects w ≡ Some w → (o : Option Object) → get objects w ≡ o → (get objects w ≡ None → ⊥) → Has w x objects
      in_record there None none some = absurd (some none)
      in_record there (Some o) here some = record { object = o; here = here; there = there; word = sym (first_word w objects o here there) }

      by : (p : Option ℕ) → points objects w ≡ p → Has w x objects
      by None none = absurd (none-some v (sym (value_none slots w none) ∙ hides))
      by (Some y) some =
          let low = low_in slots w y some in
          let same : y ≡ w = low.0 ∙ begins in
          in_record (some ∙ ap Some same) (get objects w) refl (λ none. low.1 (ap (get objects) same ∙ none))

  first_has : Has w x first
  first_has = filled_has w x (is_dead objects (placed place_of_link c.begun.short) c.found) objects (alive objects (placed place_of_link c.begun.short) c.found w (leads_nowhere w c.begun.short c.found begun_short)) start

  judged_has : Has w x judged
  judged_has = filled_has w x (is_dead first (placed place_of_link keyed.short) c.found) first
      (alive first (placed place_of_link keyed.short) c.found w (leads_at w keyed.short c.found (λ target is. ap (λ o. option_map_or c.found o false) (sym is ∙ begun_key) ∙ found_key))) first_has

  third_has : Has w x third
  third_has = filled_has w x (is_dead judged (placed place_of_link c.begun.long) kept) judged (alive judged (placed place_of_link c.begun.long) kept w (leads_nowhere w c.begun.long kept begun_long)) judged_has

  last_has : Has w x last
  last_has = filled_has w x (is_dead third (placed place_of_link keyed.long) kept) third (alive third (placed place_of_link keyed.long) kept w (leads_nowhere w keyed.long kept begun_keyed)) third_has

  -- ---- the value is retained

  points_judged : (a : ℕ) → points judged a ≡ points objects a
  points_judged a = points_filled (is_dead first (placed place_of_link keyed.short) c.found) first a ∙ points_filled (is_dead objects (placed place_of_link c.begun.short) c.found) objects a

  value_judged : value_of judged w ≡ Some v
  value_judged = ap (λ y. points judged (y - 4)) (first_word w judged judged_has.object judged_has.here judged_has.there ∙ judged_has.word) ∙ points_judged (x - 4) ∙ hides

  of_key : IsOfKey (ephemerons_judged place_of_link value_of parts keyed c.found) w k
  of_key =
      inl
      (get-retain keyed.short (λ l. option_map_or c.found (get keyed.short l) false) w
      ∙ cond-true (option_map_or c.found (get keyed.short w) false) (get keyed.short w) None (ap (λ o. option_map_or c.found o false) begun_key ∙ found_key) ∙ begun_key)

  retained : IsRetained place_of_link value_of parts keyed c.found v
  retained =
      ⊎_elim (λ nowhere. ByKey of_key (Member (inl found_key)) nowhere value_judged)
      (λ (h, holder, on). ByHolder of_key (Member (inl found_key)) (holder.0, holder.1, points_judged holder.0 ∙ holder.2) (c.decided.most tt h on) value_judged)
      (holder_of place_of_link value_of objects kept w held_pair)

  value_stays : IsTrue (contains_key (objects_of left) v)
  value_stays = kept_stands _ _ _ _ _ _ _ _ _ _ _ _ _ c.decided v (c.decided.keeps v retained) (pointed_stands slots (x - 4) v hides)

  here_left : get (objects_of left) w ≡ Some last_has.object
  here_left =
      ap (λ (p : Parts). get p.objects w) c.decided.is ∙ get-retain last kept w
      ∙ cond-true (kept w) (get last w) None (left_kept _ _ _ _ _ _ _ _ _ _ _ _ _ c.decided w stays).0 ∙ last_has.here

  pub keeps_value : value_of (objects_of left) w ≡ Some v
  keeps_value =
      let word = first_word w (objects_of left) last_has.object here_left (object_points left w stays) ∙ last_has.word in
      ap (λ y. points (objects_of left) (y - 4)) word ∙ points_is left (x - 4) ∙ ap (λ s. option_map (λ _. s) (get (objects_of left) s)) (sym (low_in slots (x - 4) v hides).0)
      ∙ by (get (objects_of left) v) value_stays
    where
      by : (o : Option Object) → IsTrue (is_some o) → option_map (λ _. v) o ≡ Some v
      by None h = absurd (both_ways false refl h)
      by (Some o) h = refl

pub pairs_keep_values : (slots left : List (Option Record)) (roots : List RecordId) (old new : State) → PairsKeepValues slots roots old left new
pairs_keep_values slots left roots old new sound c pair key value only hides stays has =
    let begins : start_of (address_of pair.place) ≡ address_of pair.place = omega arith in (
      key_stays slots left roots old new sound c (address_of pair.place) (address_of key.place) (address_of value.place) begins only hides stays has,
      keeps_value slots left roots old new sound c (address_of pair.place) (address_of key.place) (address_of value.place) begins only hides stays has,
    )
