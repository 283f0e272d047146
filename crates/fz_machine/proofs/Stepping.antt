-- Steps, one after another.
use Rattle.std.proofs.Common.{◌≡◌, ◌≤◌, ◌<◌, ◌+◌, ℕ, min, Bool, true, false, cond, List, [], ◌∷◌, ◌++◌, take, drop, length, slice_get, get_or, is_some, refl, sym, ap, ◌∙◌, nat_le, arith}
use Rattle.std.proofs.lemmas.List.{take_more, take_all, take-append-drop}
use Rattle.std.proofs.lemmas.Bool.Decides.{nat_tests}
use Rattle.std.proofs.lemmas.Option.{same_Some}
use Rattle.fz_machine.specs.declared.item.Item.{Item}
use Rattle.fz_machine.specs.declared.phase.Phase.{Phase}
use Rattle.fz_machine.specs.Phases.{asks}
use Rattle.fz_machine.specs.Steps.{Going, step, stepped, steps, skip, skipped}

module _ (phase : Phase) where
  pub steps-append : (xs ys : List Bool) (g : Going) → steps phase (xs ++ ys) g ≡ steps phase ys (steps phase xs g)
  steps-append [] ys g = refl
  steps-append (x ∷ xs) ys g = steps-append xs ys (step phase x g)

  -- no item is left to step over
  pub step_none : (answer : Bool) (g : Going) → g.left ≡ [] → step phase answer g ≡ g
  step_none answer g none = ap (stepped phase answer g) none

  pub steps_none : (xs : List Bool) (g : Going) → g.left ≡ [] → steps phase xs g ≡ g
  steps_none [] g none = refl
  steps_none (x ∷ xs) g none = ap (steps phase xs) (step_none x g none) ∙ steps_none xs g none

  pub steps_more : (xs : List Bool) (i : ℕ) (d : Bool) (g : Going) → i < length xs → steps phase (take (i + 1) xs) g ≡ step phase (get_or xs i d) (steps phase (take i xs) g)
  steps_more xs i d g lt = ap (λ ys. steps phase ys g) (take_more xs i d lt) ∙ steps-append (take i xs) (get_or xs i d ∷ []) g

  -- the others change nothing
  pub steps_ended : (xs : List Bool) (i : ℕ) (g : Going) → (steps phase (take i xs) g).left ≡ [] → steps phase xs g ≡ steps phase (take i xs) g
  steps_ended xs i g none = ap (λ ys. steps phase ys g) (sym (take-append-drop i xs)) ∙ steps-append (take i xs) (drop i xs) g ∙ steps_none (drop i xs) (steps phase (take i xs) g) none

  -- past an item of which nothing is asked
  pub skip_on : (g : Going) (item : Item) (left : List Item) → g.left ≡ item ∷ left → is_some (asks phase item) ≡ false → skip phase g ≡ skip phase (step phase false g)
  skip_on g item left here none =
      ap (λ xs. skipped phase xs g) here ∙ ap (λ b. cond b g (skipped phase left (step phase false g))) none
      ∙ ap (λ xs. skipped phase xs (step phase false g)) (sym (ap (λ xs. (stepped phase false g xs).left) here))

  pub skip_none : (g : Going) → g.left ≡ [] → skip phase g ≡ g
  skip_none g none = ap (λ xs. skipped phase xs g) none

  pub skip_here : (g : Going) (item : Item) (left : List Item) → g.left ≡ item ∷ left → is_some (asks phase item) ≡ true → skip phase g ≡ g
  skip_here g item left here some = ap (λ xs. skipped phase xs g) here ∙ ap (λ b. cond b g (skipped phase left (step phase false g))) some

  -- where it stops, something is asked
  skipped_stops : (xs : List Item) (g : Going) → g.left ≡ xs → (item : Item) (left : List Item) → (skipped phase xs g).left ≡ item ∷ left → is_some (asks phase item) ≡ true
  skipped_stops [] g is item left at = absurd (omega (arith, ap length (sym is ∙ at)))
  skipped_stops (x ∷ xs) g is item left at = by (skipped_stops xs (step phase false g) (ap (λ ys. (stepped phase false g ys).left) is) item left) (is_some (asks phase x)) refl at
    where
      by : ((skipped phase xs (step phase false g)).left ≡ item ∷ left → is_some (asks phase item) ≡ true) → (b : Bool) → is_some (asks phase x) ≡ b
          → (cond b g (skipped phase xs (step phase false g))).left ≡ item ∷ left → is_some (asks phase item) ≡ true
      by later true some h = ap (λ y. is_some (asks phase y)) (sym (same_Some x item (ap (λ ys. slice_get ys 0) (sym is ∙ h)))) ∙ some
      by later false none h = later h

  pub skip_stops : (g : Going) (item : Item) (left : List Item) → (skip phase g).left ≡ item ∷ left → is_some (asks phase item) ≡ true
  skip_stops g item left at = skipped_stops g.left g refl item left at

-- no more answers are heard than were asked for
pub heard : (answers : List Bool) (asked n : ℕ) → n ≡ min (length answers) asked → take n answers ≡ take asked answers
heard answers asked n is = by (nat_le asked (length answers)) refl
  where
    by : (b : Bool) → nat_le asked (length answers) ≡ b → take n answers ≡ take asked answers
    by true test = let le : asked ≤ length answers = grind (arith, nat_tests) in let same : n ≡ asked = omega (arith, is, le) in ap (λ k. take k answers) same
    by false test = let le : length answers ≤ asked = grind (arith, nat_tests) in take_all n answers (omega (arith, is, le)) ∙ sym (take_all asked answers le)
