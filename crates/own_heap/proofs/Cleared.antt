-- Clearing a field gives no ephemeron another value.
use Rattle.std.proofs.Common.{◌≡◌, ◌∙◌, ℕ, Bool, true, false, cond, Option, Some, None, nat_eq, refl, sym, ap}
use Rattle.std.proofs.lemmas.Bool.{eqb-true}
use Rattle.std.proofs.lemmas.Option.{none-some}
use Rattle.std.specs.Option.{option_map_or}
use Rattle.fz_model.specs.Memory.{points, written}
use Rattle.fz_model.specs.State.{Map, Object}
use Rattle.fz_pass.proofs.Filling.{written_is}
use Rattle.own_heap.specs.Outside.{place_of_link}
use Rattle.own_heap.specs.Pointing.{values_stay}
use Rattle.own_heap.specs.Records.{ValuesStay, value_of}

module _ (objects : Map Object) (zero : points objects 0 ≡ None) (word first : ℕ) where
  kept : (b : Bool) → cond b None (value_of objects word) ≡ Some first → value_of objects word ≡ Some first
  kept true is = absurd (none-some first is)
  kept false is = is

  one : (cleared a : ℕ) → place_of_link cleared ≡ Some a → value_of (written a 0 objects) word ≡ Some first → value_of objects word ≡ Some first
  one cleared a at is =
      let test : ℕ → Bool = λ x. nat_eq x a in
      let stays = values_stay objects test word zero (λ x on. (cleared, at ∙ ap Some (sym (eqb-true x a on)))) in
      kept (option_map_or test (place_of_link word) false) (sym stays ∙ sym (ap (λ (m : Map Object). value_of m word) (written_is a 0 objects)) ∙ is)

pub cleared_values : ValuesStay
cleared_values objects cleared word first zero is = by (place_of_link cleared) refl is
  where
    by : (o : Option ℕ) → place_of_link cleared ≡ o → value_of (option_map_or (λ a. written a 0 objects) o objects) word ≡ Some first → value_of objects word ≡ Some first
    by None none there = there
    by (Some a) at there = one objects zero word first cleared a at there
