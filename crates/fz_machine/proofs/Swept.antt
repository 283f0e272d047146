-- From phase to phase past a sweep: what the phase behind it lists, given what was told.
use Rattle.std.proofs.Common.{◌≡◌, ℕ, List, [], Option}
use Rattle.fz_finalizers.specs.States.{State}
use Rattle.fz_machine.specs.declared.item.Item.{Item}
use Rattle.fz_machine.specs.declared.phase.Phase.{Phase}
use Rattle.fz_machine.specs.declared.phase.Phase.TheVariants.{Regions}
use Rattle.fz_machine.specs.Graph.{AreHonestWords, Graph}
use Rattle.fz_machine.specs.Off.{PutOff}
use Rattle.fz_machine.specs.Phases.{Lists, aside_in, given, off_in, sweep_ask, swept}
use Rattle.fz_machine.specs.Regions.{IsOfSweep}

-- the phase that lists items next: the one behind a sweep, or the phase itself
abbrev pub past : Phase → Phase
past (Regions sweep) = swept sweep
past phase = phase

-- what it gets, and what is set aside and put off
abbrev pub given_past : Phase → List Item → List Item → PutOff → List Item
given_past (Regions sweep) kept aside off = given (swept sweep) [] (aside_in (Regions sweep) kept aside) (off_in (Regions sweep) off)
given_past phase kept aside off = given phase kept aside off

abbrev pub aside_past : Phase → List Item → List Item → List Item
aside_past (Regions sweep) kept aside = aside_in (swept sweep) [] (aside_in (Regions sweep) kept aside)
aside_past phase kept aside = aside_in phase kept aside

abbrev pub off_past : Phase → PutOff → PutOff
off_past (Regions sweep) off = off_in (swept sweep) (off_in (Regions sweep) off)
off_past phase off = off_in phase off

-- what was told in the sweep is true of the graph; without a sweep nothing was told
abbrev pub AreTold : (ℕ → Option ℕ) → Phase → State → Graph → List (ℕ × ℕ) → Type 0
AreTold place (Regions sweep) s h told = AreHonestWords place (sweep_ask sweep) (IsOfSweep sweep s) h told
AreTold place phase s h told = told ≡ []

-- whatever it lists, this holds of it
abbrev pub Begins : (ℕ → Option ℕ) → (Phase → State → List Item → List Item → List Item → PutOff → Graph → Type 0) → ℕ → Phase → State → List Item → List Item → PutOff → Graph → Type 0
Begins place Holds from phase s kept aside off h =
    (told : List (ℕ × ℕ)) → AreTold place phase s h told → (items : List Item) → Lists (past phase) from told s (given_past phase kept aside off) items → Holds (past phase) s [] items (aside_past phase kept aside) (off_past phase off) h
