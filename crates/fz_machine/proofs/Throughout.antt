-- What each answer keeps of the finalizers, a pass keeps.
use Rattle.std.proofs.Common.{◌≡◌, ◌∷◌, [], ℕ, Bool, true, false, cond, List, Option, refl, sym, subst, is_some}
use Rattle.fz_finalizers.specs.States.{State}
use Rattle.fz_machine.specs.declared.item.Item.{Item}
use Rattle.fz_machine.specs.declared.phase.Phase.{Phase}
use Rattle.fz_machine.specs.declared.phase.Phase.TheVariants.{Regions}
use Rattle.fz_machine.specs.Machines.{Answers, Heard, Words, heard_by}
use Rattle.fz_machine.specs.Phases.{after, asks}
use Rattle.fz_machine.specs.Steps.{Asks, Ends, Going, GoesOn, Sweeps, Turns, skip, skipped, step, stepped, steps}

-- answers are steps, and words change nothing but what was told
pub heard_answers : (phase : Phase) (regions : List ℕ) (answers : List Bool) (g : Going) → heard_by phase regions (Answers answers) g ≡ steps phase answers g
heard_answers (Regions sweep) regions answers g = refl
heard_answers phase regions answers g = refl

pub heard_words : (phase : Phase) (regions words : List ℕ) (g : Going) → heard_by phase regions (Words words) g ≡ record g { told = (heard_by phase regions (Words words) g).told }
heard_words (Regions sweep) regions words g = refl
heard_words phase regions words g = refl

module _ (P : State → Type 0) (keeps : (phase : Phase) (item : Item) (answer : Bool) (s : State) → P s → P (after phase item answer s)) where
  module _ (phase : Phase) where
    step_keeps : (answer : Bool) (g : Going) → P g.finalizers → P (step phase answer g).finalizers
    step_keeps answer g h = by g.left
      where
        by : (xs : List Item) → P (stepped phase answer g xs).finalizers
        by [] = h
        by (item ∷ left) = keeps phase item answer g.finalizers h

    pub steps_keep : (xs : List Bool) (g : Going) → P g.finalizers → P (steps phase xs g).finalizers
    steps_keep [] g h = h
    steps_keep (x ∷ xs) g h = steps_keep xs (step phase x g) (step_keeps x g h)

    either : (b : Bool) (g k : Going) → P g.finalizers → P k.finalizers → P (cond b g k).finalizers
    either true g k x y = x
    either false g k x y = y

    skipped_keeps : (xs : List Item) (g : Going) → P g.finalizers → P (skipped phase xs g).finalizers
    skipped_keeps [] g h = h
    skipped_keeps (item ∷ left) g h = either (is_some (asks phase item)) g (skipped phase left (step phase false g)) h (skipped_keeps left (step phase false g) (step_keeps false g h))

    pub skip_keeps : (g : Going) → P g.finalizers → P (skip phase g).finalizers
    skip_keeps g h = skipped_keeps g.left g h

  -- words change nothing of them
  pub heard_keeps : (phase : Phase) (regions : List ℕ) (heard : Heard) (g : Going) → P g.finalizers → P (heard_by phase regions heard g).finalizers
  heard_keeps (Regions sweep) regions (Words words) g h = h
  heard_keeps phase regions (Answers answers) g h = steps_keep phase answers g h
  heard_keeps phase regions (Words words) g h = h

  pub goes_keep : {from : ℕ} (phase : Phase) (g : Going) (last : Option Phase) (k : Going) → GoesOn from phase g last k → P g.finalizers → P k.finalizers
  goes_keep phase g last k (Asks item left some) h = skip_keeps phase g h
  goes_keep phase g last k Sweeps h = h
  goes_keep phase g last k (Turns {next = next} {h = m} none turns begins rest) h = goes_keep next m last k rest (subst P (sym begins.same) (skip_keeps phase g h))
  goes_keep phase g last k (Ends none turns) h = skip_keeps phase g h
