-- Which cleanups are left after a collection.
use Rattle.std.proofs.Common.{◌≡◌, ◌∙◌, ◌↔◌, ◌&&◌, not, ℕ, Bool, false, List, get_or, Option, Some, refl, sym, ap, IsTrue}
use Rattle.std.proofs.lemmas.Bool.{both_ways}
use Rattle.std.proofs.lemmas.Option.{same_Some}
use Rattle.std.specs.FinMap.{get, contains_key}
use Rattle.fz_model.specs.declared.kinds.LinkKind.{LinkKind}
use Rattle.fz_model.specs.declared.kinds.LinkKind.TheVariants.{Short, Long}
use Rattle.fz_model.specs.State.{Map, Object}
use Rattle.fz_finalizers.specs.declared.cleanups.Attached.{Attached}
use Rattle.fz_finalizers.specs.Cleanups.{AreDue, is_due, is_when, without}
use Rattle.fz_finalizers.specs.States.{State}
use Rattle.fz_finalizers.proofs.Cleaned.{get-without_other, left_not_due, not_due_in, without_back}
use Rattle.own_heap.specs.declared.record.Record.{Record}
use Rattle.own_heap.specs.declared.record.RecordId.{RecordId}
use Rattle.own_heap.specs.Collected.{CleanupsGo, Collects, lasts}
use Rattle.own_heap.specs.Records.{objects_of}

-- what isn't due is left
kept : (test : Attached → Bool) (m : Map Attached) (due : List (ℕ × Attached)) → AreDue test m due → (n : ℕ) (a : Attached) → get m n ≡ Some a → test a ≡ false → get (without m due) n ≡ Some a
kept test m due are n a here off =
    get-without_other m due n (λ k d within same.
    let y = get_or due k d in
    let is = are.each k d within in
    let one : y.1 ≡ a = same_Some y.1 a (sym is.0 ∙ ap (get m) same ∙ here) in
    both_ways (test a) off (ap test (sym one) ∙ is.1)) ∙ here

module _ (slots : List (Option Record)) (roots : List RecordId) (old : State) (left : Map Object) (new : State) (c : Collects (objects_of slots) roots old left new) (n : ℕ) (a : Attached)
    (was : get old.cleanups n ≡ Some a) (here : IsTrue (contains_key (objects_of slots) a.object)) where
  passed_is : c.passed.cleanups ≡ without old.cleanups c.short.0
  passed_is = c.follows.0.cleanups ∙ ap (λ (s : State). s.cleanups) c.short.2

  new_is : new.cleanups ≡ without c.passed.cleanups c.long.0
  new_is = ap (λ (s : State). s.cleanups) c.long.2

  goes_on : is_due Short c.found a ≡ false → is_due Long c.marked a ≡ false → get new.cleanups n ≡ Some a
  goes_on early late =
      let mid = ap (λ (m : Map Attached). get m n) passed_is ∙ kept (is_due Short c.found) old.cleanups c.short.0 c.short.1 n a was early in
      ap (λ (m : Map Attached). get m n) new_is ∙ kept (is_due Long c.marked) c.passed.cleanups c.long.0 c.long.1 n a mid late

  is_left : get new.cleanups n ≡ Some a → get (without c.passed.cleanups c.long.0) n ≡ Some a
  is_left stays = sym (ap (λ (m : Map Attached). get m n) new_is) ∙ stays

  was_left : get new.cleanups n ≡ Some a → get (without old.cleanups c.short.0) n ≡ Some a
  was_left stays = sym (ap (λ (m : Map Attached). get m n) passed_is) ∙ (without_back c.passed.cleanups c.long.0 n a (is_left stays)).0

  pub by : (w : LinkKind) → a.cleanup.when ≡ w → (get new.cleanups n ≡ Some a) ↔ IsTrue (lasts w c.found (contains_key left) a.object)
  by Short is = (
    λ stays. not_due_in Short c.found a (left_not_due (is_due Short c.found) old.cleanups c.short.0 c.short.1 n a (was_left stays)) is,
    λ on. goes_on (λ i. is_when Short (is i) && not (on i)) (λ i. is_when Long (is i) && not (c.marked a.object)),
  )
  by Long is = (
    λ stays. sym (c.remain a.object here) ∙ not_due_in Long c.marked a (left_not_due (is_due Long c.marked) c.passed.cleanups c.long.0 c.long.1 n a (is_left stays)) is,
    λ on. goes_on (λ i. is_when Short (is i) && not (c.found a.object)) (λ i. is_when Long (is i) && not ((c.remain a.object here ∙ on) i)),
  )

pub cleanups_go : (slots : List (Option Record)) (roots : List RecordId) (old : State) (left : Map Object) (new : State) → CleanupsGo slots roots old left new
cleanups_go slots roots old left new c n a was here = by slots roots old left new c n a was here a.cleanup.when refl
