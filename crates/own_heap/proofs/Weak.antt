-- What a weak pair has after a collection.
use Rattle.std.proofs.Common.{◌≡◌, ℕ, ◌↔◌, ◌&&◌, Bool, true, false, cond, List, Option, Some, None, refl, sym, ap, ◌∙◌, IsTrue}
use Rattle.std.proofs.lemmas.Option.{none-some}
use Rattle.std.specs.FinMap.{get, contains_key}
use Rattle.std.specs.Option.{option_map_or}
use Rattle.fz_model.specs.State.{Map, Object}
use Rattle.fz_model.specs.Memory.{points}
use Rattle.fz_model.proofs.Maps.{get-retain}
use Rattle.fz_pass.specs.Decides.{Parts}
use Rattle.fz_pass.specs.Places.{is_held, links_held}
use Rattle.fz_finalizers.specs.States.{State}
use Rattle.own_heap.specs.declared.record.Record.{Record}
use Rattle.own_heap.specs.declared.record.RecordId.{RecordId}
use Rattle.own_heap.specs.Collected.{Collects}
use Rattle.own_heap.specs.Guarding.{PairsAreWeak}
use Rattle.own_heap.specs.Outside.{place_of_link, place_itself}
use Rattle.own_heap.specs.Records.{address_of, objects_of}
use Rattle.own_heap.specs.Sound.{IsSound}
use Rattle.own_heap.proofs.Holding.{object_points}
use Rattle.own_heap.proofs.Keeping.{kept_stands, left_kept}

-- a link that lies in a record that is kept is held
pub held : (slots : List (Option Record)) (kept : ℕ → Bool) (word : ℕ) → IsTrue (kept word) → IsTrue (contains_key (objects_of slots) word) → IsTrue (is_held place_of_link (objects_of slots) kept word)
held slots kept word on here = by (place_of_link word) refl
  where
    by : (o : Option ℕ) → place_of_link word ≡ o → IsTrue (option_map_or (λ a. option_map_or kept (points (objects_of slots) a) false) o true)
    by None is = refl
    by (Some a) is =
        let same = place_itself word a is in
        ap (λ w. option_map_or kept (points (objects_of slots) w) false) (sym same) ∙ ap (λ o. option_map_or kept o false) (object_points slots word here) ∙ on

pub with_held : (b h : Bool) → IsTrue h → (b && h) ≡ b
with_held true h is = is
with_held false h is = refl

module _ (slots : List (Option Record)) (roots : List RecordId) (old : State) (left : Map Object) (new : State) (sound : IsSound (objects_of slots) old) (c : Collects (objects_of slots) roots old left new) where
  abbrev kept : ℕ → Bool
  kept = c.decided.kept

  long_is : new.long ≡ links_held place_of_link (objects_of slots) old.long kept kept
  long_is = ap (λ (s : State). s.long) c.long.2 ∙ ap (λ (p : Parts). p.long) c.decided.is ∙ ap (λ links. links_held place_of_link (objects_of slots) links kept kept) (ap (λ (s : State). s.long) c.short.2)

  pair_has : (word target : ℕ) → get old.long word ≡ Some target → IsTrue (contains_key left word) → (get new.long word ≡ Some target) ↔ IsTrue (contains_key left target)
  pair_has word target was stays = (λ is. kept_stands _ _ _ _ _ _ _ _ _ _ _ _ _ c.decided target (must (kept target) refl is) (sound.long word target was), λ h. now_is ∙ ap (λ b. cond b (Some target) None) (left_kept _ _ _ _ _ _ _ _ _ _ _ _ _ c.decided target h).0)
    where
      pair : IsTrue (kept word) × IsTrue (contains_key (objects_of slots) word)
      pair = left_kept _ _ _ _ _ _ _ _ _ _ _ _ _ c.decided word stays

      test : ℕ → Bool
      test link = option_map_or kept (get old.long link) false && is_held place_of_link (objects_of slots) kept link

      tested : test word ≡ kept target
      tested = with_held (option_map_or kept (get old.long word) false) (is_held place_of_link (objects_of slots) kept word) (held slots kept word pair.0 pair.1) ∙ ap (λ o. option_map_or kept o false) was

      now_is : get new.long word ≡ cond (kept target) (Some target) None
      now_is = ap (λ m. get m word) long_is ∙ get-retain old.long test word ∙ ap (λ b. cond b (get old.long word) None) tested ∙ ap (λ o. cond (kept target) o None) was

      must : (b : Bool) → kept target ≡ b → get new.long word ≡ Some target → IsTrue (kept target)
      must true on is = on
      must false off is = absurd (none-some target (sym (now_is ∙ ap (λ b. cond b (Some target) None) off) ∙ is))

pub pairs_weak : (slots : List (Option Record)) (roots : List RecordId) (old : State) (left : Map Object) (new : State) → PairsAreWeak slots roots old left new
pairs_weak slots roots old left new sound c pair first was stays = pair_has slots roots old left new sound c (address_of pair.place) (address_of first.place) was stays
