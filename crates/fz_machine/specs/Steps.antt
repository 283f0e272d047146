-- How a pass proceeds with answers: what it asks next, and how it ends.
-- code: fz_machine/src/asking.rt, going_on.rt
use Rattle.std.specs.Prelude.{◌≡◌, ℕ, ◌≤◌, ◌<◌, Bool, false, if◌then◌else◌, List, [], ◌∷◌, ◌++◌, map, take, length, slice_get, Option, Some, None, is_some, All}
use Rattle.fz_finalizers.specs.States.{State}
use Rattle.fz_machine.specs.declared.item.Item.{Item}
use Rattle.fz_machine.specs.declared.phase.Phase.{Phase}
use Rattle.fz_machine.specs.declared.phase.Phase.TheVariants.{Regions}
use Rattle.fz_machine.specs.declared.phase.Sweep.{Sweep}
use Rattle.fz_machine.specs.declared.question.Question.{Question}
use Rattle.fz_machine.specs.declared.question.TheConstants.{BATCH}
use Rattle.fz_machine.specs.Phases.{next_phase, asks, subject, keeps, after, given, aside_in, off_in, Lists}
use Rattle.fz_machine.specs.Off.{PutOff, looks_again, put_off}

-- a phase in progress: the finalizers, the items kept for the next phase, the remaining ones, those set aside, those put off, and what was told of regions in
-- the sweep
pub record Going : Type 0 where
  pub finalizers : State
  pub kept : List Item
  pub left : List Item
  pub aside : List Item
  pub off : PutOff
  pub told : List (ℕ × ℕ)

-- the effect of the answer about the first remaining item
abbrev pub stepped : Phase → Bool → Going → List Item → Going
stepped phase answer g [] = g
stepped phase answer g (item ∷ left) = record {
  finalizers = after phase item answer g.finalizers;
  kept = if keeps phase item answer then g.kept ++ item ∷ [] else g.kept;
  left = left;
  aside = g.aside;
  off = put_off phase item answer g.off;
  told = g.told;
}

abbrev pub step : Phase → Bool → Going → Going
step phase answer g = stepped phase answer g g.left

-- the effect of answers about the first items, one after another
abbrev pub steps : Phase → List Bool → Going → Going
steps phase [] g = g
steps phase (answer ∷ answers) g = steps phase answers (step phase answer g)

-- skipping the items about which nothing is asked
abbrev pub skipped : Phase → List Item → Going → Going
skipped phase [] g = g
skipped phase (item ∷ left) g = if is_some (asks phase item) then g else skipped phase left (step phase false g)

abbrev pub skip : Phase → Going → Going
skip phase g = skipped phase g.left g

-- the next phase begins, over the registrations and cleanups from a number on
pub record Begins (from : ℕ) (phase : Phase) (old new : Going) : Type 0 where
  pub same : new.finalizers ≡ old.finalizers
  pub none : new.kept ≡ []
  pub lists : Lists phase from old.told old.finalizers (given phase old.kept old.aside old.off) new.left
  pub aside : new.aside ≡ aside_in phase old.kept old.aside
  pub off : new.off ≡ off_in phase old.off
  pub told : new.told ≡ []

-- proceeding to the first phase with something to ask, or to the end; a sweep asks about regions, as long as it has more of them
pub data GoesOn (from : ℕ) : Phase → Going → Option Phase → Going → Type 0 where
  Asks : {phase : Phase} {g : Going} (item : Item) (left : List Item) → (skip phase g).left ≡ item ∷ left → GoesOn from phase g (Some phase) (skip phase g)
  Sweeps : {sweep : Sweep} {g : Going} → GoesOn from (Regions sweep) g (Some (Regions sweep)) g
  Turns : {phase next : Phase} {g h k : Going} {last : Option Phase} → (skip phase g).left ≡ [] → next_phase phase (looks_again (skip phase g).off) ≡ Some next → Begins from next (skip phase g) h → GoesOn from next h last k → GoesOn from phase g last k
  Ends : {phase : Phase} {g : Going} → (skip phase g).left ≡ [] → next_phase phase (looks_again (skip phase g).off) ≡ None → GoesOn from phase g None (skip phase g)

-- a question about the first remaining items: as many as fit, about which the same is asked
pub record IsQuestion (phase : Phase) (left : List Item) (q : Question) : Type 0 where
  pub some : 0 < q.count
  pub few : q.count ≤ BATCH
  pub within : q.count ≤ length left
  pub alike : All (λ item. asks phase item ≡ Some q.ask) (take q.count left)
  pub about : take q.count q.about ≡ map (subject phase) (take q.count left)
  pub most : q.count < BATCH → (item : Item) → slice_get left q.count ≡ Some item → asks phase item ≡ Some q.ask → ⊥
