-- What ephemeron pairs have after a collection, and that ephemerons never retain their keys.
use Rattle.std.proofs.Common.{◌≡◌, ◌∙◌, ◌↔◌, ◌⊎◌, ◌&&◌, ◌||◌, ℕ, zero, suc, ◌+◌, ◌-◌, Bool, true, false, cond, List, [], ◌∷◌, Option, Some, None, option_map, is_some, slice_index, refl, sym, ap, inl, inr, ⊎_elim, IsTrue}
use Rattle.std.proofs.lemmas.Bool.{both_ways}
use Rattle.std.proofs.lemmas.Option.{none-some}
use Rattle.std.specs.Prelude.{option_and_then, unwrap_or}
use Rattle.std.specs.Option.{option_map_or}
use Rattle.std.specs.FinMap.{get, contains_key}
use Rattle.fz_model.specs.Extents.{points_in}
use Rattle.fz_model.specs.Memory.{points, fill, filled, word_at}
use Rattle.fz_model.specs.Pass.{cleared, is_dead}
use Rattle.fz_model.specs.State.{Map, Object}
use Rattle.fz_model.proofs.Maps.{extents-filled, filling, get-mapped, get-retain, retained_back}
use Rattle.fz_pass.specs.Holds.{Ephemerons, Holds, Member, ByChild, ByHolder, ByKey, IsHolder, IsOfKey}
use Rattle.fz_pass.specs.Places.{is_held, links_held, placed}
use Rattle.fz_pass.specs.Whole.{IsLost, ephemerons_judged}
use Rattle.fz_pass.specs.WholeLaws.{without_key}
use Rattle.fz_pass.proofs.Children.{child_before}
use Rattle.fz_pass.proofs.Holding.{holds_all, within_whole}
use Rattle.fz_pass.proofs.OwnKeys.{keys_hold_nothing}
use Rattle.fz_finalizers.specs.Passed.{parts_in}
use Rattle.fz_finalizers.specs.States.{State}
use Rattle.own_heap.specs.declared.record.Record.{Record}
use Rattle.own_heap.specs.declared.record.RecordId.{RecordId}
use Rattle.own_heap.specs.Outside.{place_of_link}
use Rattle.own_heap.specs.Records.{address_of, objects_of, value_of}
use Rattle.own_heap.specs.Collected.{Collects}
use Rattle.own_heap.specs.Keyed.{KeysAreNotRetained, PairsLoseKeys, with_registered}
use Rattle.own_heap.proofs.Collected.{zero_nowhere}
use Rattle.own_heap.proofs.Keeping.{left_kept}
use Rattle.own_heap.proofs.Weak.{held, with_held}

-- ---- what holds where some words are zero

pub points_filled : (test : ℕ → Bool) (objects : Map Object) (a : ℕ) → points (filled test 0 objects) a ≡ points objects a
points_filled test objects a = ap (λ e. points_in e a) (extents-filled test 0 objects)

fill_either : (test : ℕ → Bool) (a : ℕ) (ws : List ℕ) (i : ℕ) → (slice_index (fill test 0 a ws) i ≡ slice_index ws i) ⊎ (slice_index (fill test 0 a ws) i ≡ 0)
fill_either test a [] i = inl refl
fill_either test a (w ∷ ws) zero = by (test a)
  where
    by : (b : Bool) → (cond b 0 w ≡ w) ⊎ (cond b 0 w ≡ 0)
    by true = inr refl
    by false = inl refl
fill_either test a (w ∷ ws) (suc i) = fill_either test (a + 1) ws i

-- a word is as before, or zero
pub word_before : (test : ℕ → Bool) (objects : Map Object) (word : ℕ) → (word_at (filled test 0 objects) word ≡ word_at objects word) ⊎ (word_at (filled test 0 objects) word ≡ 0)
word_before test objects word = ⊎_elim (λ same. inl (there ∙ same)) (λ none. inr (there ∙ none)) (by (points objects word))
  where
    at : Map Object → Option ℕ → ℕ
    at m p = unwrap_or (option_and_then (λ start. option_map (λ (o : Object). slice_index o.words (word - start)) (get m start)) p) 0

    there : word_at (filled test 0 objects) word ≡ at (filled test 0 objects) (points objects word)
    there = ap (at (filled test 0 objects)) (points_filled test objects word)

    in_object : (start : ℕ) (o : Option Object) → (unwrap_or (option_map (λ (x : Object). slice_index x.words (word - start)) (option_map (filling test 0 start) o)) 0 ≡ unwrap_or (option_map (λ (x : Object). slice_index x.words (word - start)) o) 0)
        ⊎ (unwrap_or (option_map (λ (x : Object). slice_index x.words (word - start)) (option_map (filling test 0 start) o)) 0 ≡ 0)
    in_object start None = inl refl
    in_object start (Some o) = fill_either test start o.words (word - start)

    by : (p : Option ℕ) → (at (filled test 0 objects) p ≡ at objects p) ⊎ (at (filled test 0 objects) p ≡ 0)
    by None = inl refl
    by (Some start) =
        let same = ap (λ g. unwrap_or (option_map (λ (x : Object). slice_index x.words (word - start)) g) 0) (get-mapped (filling test 0) objects start) in
        ⊎_elim (λ as_before. inl (same ∙ as_before)) (λ none. inr (same ∙ none)) (in_object start (get objects start))

module _ (test : ℕ → Bool) (objects : Map Object) (zero_points : points objects 0 ≡ None) where
  abbrev begun : Map Object
  begun = filled test 0 objects

  pub value_before : (word a : ℕ) → value_of begun word ≡ Some a → value_of objects word ≡ Some a
  value_before word a is =
      let there = sym (points_filled test objects (word_at begun word - 4)) ∙ is in
      ⊎_elim (λ same. ap (λ w. points objects (w - 4)) (sym same) ∙ there) (λ none. absurd (none-some a (sym zero_points ∙ ap (λ w. points objects (w - 4)) (sym none) ∙ there))) (word_before test objects word)

  holder_before : (word holder : ℕ) → IsHolder place_of_link begun word holder → IsHolder place_of_link objects word holder
  holder_before word holder h = (h.0, h.1, sym (points_filled test objects h.0) ∙ h.2)

  pub holds_before : (IsOf : ℕ → ℕ → Type 0) (set : ℕ → Type 0) (a : ℕ) → Holds place_of_link value_of begun IsOf set a → Holds place_of_link value_of objects IsOf set a
  holds_before IsOf set a (Member h) = Member h
  holds_before IsOf set a (ByChild {a = b} h child) = ByChild (holds_before IsOf set b h) (child_before test objects zero_points b a child)
  holds_before IsOf set a (ByHolder {word = w} {key = k} {holder = o} is key holder there points_to) =
      ByHolder is (holds_before IsOf set k key) (holder_before w o holder) (holds_before IsOf set o there) (value_before w a points_to)
  holds_before IsOf set a (ByKey {word = w} {key = k} is key nowhere points_to) = ByKey is (holds_before IsOf set k key) nowhere (value_before w a points_to)

module _ (slots : List (Option Record)) (roots : List RecordId) (old : State) (left : Map Object) (new : State) (c : Collects (objects_of slots) roots old left new) where
  abbrev objects : Map Object
  objects = objects_of slots

  abbrev kept : ℕ → Bool
  kept = c.decided.kept

  abbrev Of : ℕ → ℕ → Type 0
  Of = IsOfKey old.ephemerons

  begun_has : c.begun.ephemerons ≡ old.ephemerons
  begun_has = ap (λ (s : State). s.ephemerons) c.short.2

  -- ---- keys of pairs

  pub short_is : new.ephemerons.short ≡ links_held place_of_link objects old.ephemerons.short c.found kept
  short_is = ap (λ (s : State). s.ephemerons.short) c.long.2 ∙ ap (λ (e : Ephemerons). e.short) c.decided.left ∙ ap (λ (e : Ephemerons). links_held place_of_link objects e.short c.found kept) begun_has

  pub loses_key : (word key : ℕ) → get old.ephemerons.short word ≡ Some key → IsTrue (contains_key left word) → (get new.ephemerons.short word ≡ Some key) ↔ IsTrue (c.found key)
  loses_key word key was stays = (must (c.found key) refl, λ on. now_is ∙ ap (λ b. cond b (Some key) None) on)
    where
      pair : IsTrue (kept word) × IsTrue (contains_key objects word)
      pair = left_kept _ _ _ _ _ _ _ _ _ _ _ _ _ c.decided word stays

      test : ℕ → Bool
      test w = option_map_or c.found (get old.ephemerons.short w) false && is_held place_of_link objects kept w

      tested : test word ≡ c.found key
      tested = with_held (option_map_or c.found (get old.ephemerons.short word) false) (is_held place_of_link objects kept word) (held slots kept word pair.0 pair.1) ∙ ap (λ o. option_map_or c.found o false) was

      now_is : get new.ephemerons.short word ≡ cond (c.found key) (Some key) None
      now_is = ap (λ m. get m word) short_is ∙ get-retain old.ephemerons.short test word ∙ ap (λ b. cond b (get old.ephemerons.short word) None) tested ∙ ap (λ o. cond (c.found key) o None) was

      must : (b : Bool) → c.found key ≡ b → get new.ephemerons.short word ≡ Some key → IsTrue (c.found key)
      must true on is = on
      must false off is = absurd (none-some key (sym (now_is ∙ ap (λ b. cond b (Some key) None) off) ∙ is))

  -- ---- keys aren't retained by their ephemerons

  abbrev Marked : ℕ → Type 0
  Marked a = IsTrue (c.traced a)

  abbrev Registered : ℕ → Type 0
  Registered a = IsTrue (with_registered c.traced old a)

  abbrev Lost : ℕ → Type 0
  Lost = IsLost place_of_link value_of (parts_in objects c.begun) c.begun.ephemerons c.found

  found_by : (key : ℕ) → IsTrue (c.found key) ↔ Holds place_of_link value_of objects (IsOfKey (without_key old.ephemerons key)) Marked key
  found_by key =
      let both = keys_hold_nothing place_of_link value_of objects old.ephemerons c.traced key in
      (λ on. both.0 (c.settles.most tt key on), λ h. within_whole place_of_link value_of objects Of c.found Marked c.settles.whole c.settles.more key (both.1 h))

  either_true : (a b : Bool) → IsTrue a → IsTrue (a || b)
  either_true true b on = refl
  either_true false b on = absurd (both_ways false refl on)

  or_true : (a b : Bool) → IsTrue b → IsTrue (a || b)
  or_true true b on = refl
  or_true false b on = on

  -- the found and the unreachable registered records are held by what was marked and the registered ones
  held_by : (a : ℕ) → IsTrue (c.found a) ⊎ Lost a → Holds place_of_link value_of objects Of Registered a
  held_by a =
      ⊎_elim (λ on. holds_all place_of_link value_of objects Of Of Marked Registered (λ w k is. is) (λ b marked. Member (either_true (c.traced b) (contains_key old.registrations b) marked)) a (c.settles.most tt a on))
      (λ (r, lost). Member (or_true (c.traced a) (contains_key old.registrations a) (ap (λ (s : State). contains_key s.registrations a) (sym c.short.2) ∙ ap is_some lost.registered)))

  judged_of : (w k : ℕ) → IsOfKey (ephemerons_judged place_of_link value_of (parts_in objects c.begun) c.begun.ephemerons c.found) w k → Of w k
  judged_of w k (inl is) = inl (sym (ap (λ (e : Ephemerons). get e.short w) begun_has) ∙ (retained_back c.begun.ephemerons.short (λ l. option_map_or c.found (get c.begun.ephemerons.short l) false) w k is).1)
  judged_of w k (inr is) = inr (sym (ap (λ (e : Ephemerons). get e.long w) begun_has) ∙ is)

  retained_by : (key : ℕ) → IsTrue (contains_key left key) → Holds place_of_link value_of objects (IsOfKey (without_key old.ephemerons key)) Registered key
  retained_by key stays =
      let parts = parts_in objects c.begun in
      let links = placed place_of_link c.begun.short in
      let keys = placed place_of_link c.begun.ephemerons.short in
      let first = cleared links c.found objects in
      let dead = is_dead objects links c.found in
      let retained = c.decided.most tt key (left_kept _ _ _ _ _ _ _ _ _ _ _ _ _ c.decided key stays).0 in
      let JudgedOf = IsOfKey (ephemerons_judged place_of_link value_of parts c.begun.ephemerons c.found) in
      let Set = λ (a : ℕ). IsTrue (c.found a) ⊎ Lost a in
      let before = holds_before dead objects (zero_nowhere slots) JudgedOf Set key (holds_before (is_dead first keys c.found) first (points_filled dead objects 0 ∙ zero_nowhere slots) JudgedOf Set key retained) in
      (keys_hold_nothing place_of_link value_of objects old.ephemerons (with_registered c.traced old) key).0 (holds_all place_of_link value_of objects JudgedOf Of Set Registered judged_of held_by key before)

pub pairs_lose_keys : (slots : List (Option Record)) (roots : List RecordId) (old : State) (left : Map Object) (new : State) → PairsLoseKeys slots roots old left new
pairs_lose_keys slots roots old left new c pair key was stays = loses_key slots roots old left new c (address_of pair.place) (address_of key.place) was stays

pub keys_are_not_retained : (slots : List (Option Record)) (roots : List RecordId) (old : State) (left : Map Object) (new : State) → KeysAreNotRetained slots roots old left new
keys_are_not_retained slots roots old left new c key = (found_by slots roots old left new c key, retained_by slots roots old left new c key)
