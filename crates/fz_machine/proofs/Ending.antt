-- A pass goes through its phases, and ends.
use Rattle.std.proofs.Common.{◌≡◌, ◌<◌, ◌+◌, ◌*◌, ℕ, Bool, true, false, true≢false, IsTrue, List, [], ◌∷◌, drop, slice_get, is_some, Option, Some, None, refl, sym, ap, subst, ◌∙◌, arith}
use Rattle.std.proofs.lemmas.Option.{none-some, same_Some}
use Rattle.fz_machine.specs.declared.phase.Moment.{Moment}
use Rattle.fz_machine.specs.declared.phase.Moment.TheVariants.{First, Led, Picked, Last}
use Rattle.fz_machine.specs.declared.phase.Phase.{Phase}
use Rattle.fz_machine.specs.declared.phase.Phase.TheVariants.{Keys, KeysAgain, Holders, Values, Regions, ShortCleanups, ShortTargets, ShortWords, ShortKeys, ShortKeyWords, Objects, Children, Again, Picks, Entries, LateAgain, LatePicks, LongTargets, LongWords, LongKeys, LongKeyWords, ShortHolders, LongHolders, ShortKeyHolders, LongKeyHolders, LongCleanups}
use Rattle.fz_machine.specs.declared.phase.Sweep.{Sweep}
use Rattle.fz_machine.specs.declared.phase.Sweep.TheVariants as sweeps
use Rattle.fz_machine.specs.declared.item.Item.{Item}
use Rattle.fz_machine.specs.Going.{follows_settling}
use Rattle.fz_machine.specs.Off.{PutOff, looking, looks_again}
use Rattle.fz_machine.specs.Phases.{behind, next_phase, off_in, settles, swept}
use Rattle.fz_machine.specs.Steps.{Going, skip, skipped, Begins, GoesOn, Asks, Turns, Ends}

-- how many phases lie behind the marks that are made whole at a moment
abbrev behind_left : Moment → ℕ
behind_left First = 38
behind_left Led = 24
behind_left Picked = 18
behind_left Last = 12

-- how many rounds over what is put off follow at most without a question: one over those that were told, and one over all if a value may have been marked
abbrev rounds_by : Bool → List Item → ℕ
rounds_by false [] = 0
rounds_by true [] = 1
rounds_by false (item ∷ told) = 1
rounds_by true (item ∷ told) = 2

abbrev rounds_left : PutOff → ℕ
rounds_left off = rounds_by off.again off.told

-- so a round begins with one fewer
fewer_rounds : (off : PutOff) → looks_again off ≡ true → rounds_left (looking off) + 1 ≡ rounds_left off
fewer_rounds off on = by off.told on
  where
    with_told : List Item → PutOff
    with_told told = record off { told = told }

    by : (told : List Item) → looks_again (with_told told) ≡ true → rounds_left (looking (with_told told)) + 1 ≡ rounds_by off.again told
    by [] again = subst (λ b. 0 + 1 ≡ rounds_by b []) (sym again) refl
    by (item ∷ told) some = one_less off.again
      where
        one_less : (b : Bool) → rounds_by b [] + 1 ≡ rounds_by b (item ∷ told)
        one_less false = refl
        one_less true = refl

-- how many phases follow a sweep at most without a question
abbrev sweep_left : Sweep → ℕ
sweep_left sweeps.ShortCleanups = 38
sweep_left sweeps.ShortTargets = 36
sweep_left sweeps.Objects = 31
sweep_left sweeps.LongTargets = 12
sweep_left sweeps.ShortHolders = 7
sweep_left sweeps.LongHolders = 5
sweep_left sweeps.LongCleanups = 1

-- how many phases follow at most without a question, given what is put off
abbrev pub phases_left : Phase → PutOff → ℕ
phases_left (Keys moment) off = behind_left moment + 3 + 3 * rounds_left off
phases_left (KeysAgain moment) off = behind_left moment + 3 + 3 * rounds_left off
phases_left (Holders moment) off = behind_left moment + 2 + 3 * rounds_left off
phases_left (Values moment) off = behind_left moment + 1 + 3 * rounds_left off
phases_left (Regions sweep) off = sweep_left sweep
phases_left ShortCleanups off = 37
phases_left ShortTargets off = 35
phases_left ShortWords off = 34
phases_left ShortKeys off = 33
phases_left ShortKeyWords off = 32
phases_left Objects off = 30
phases_left Children off = 29
phases_left Again off = 24
phases_left Picks off = 23
phases_left Entries off = 22
phases_left LateAgain off = 18
phases_left LatePicks off = 17
phases_left LongTargets off = 11
phases_left LongWords off = 10
phases_left LongKeys off = 9
phases_left LongKeyWords off = 8
phases_left ShortHolders off = 6
phases_left LongHolders off = 4
phases_left ShortKeyHolders off = 3
phases_left LongKeyHolders off = 2
phases_left LongCleanups off = 0

last_behind : (moment : Moment) (off : PutOff) → phases_left (behind moment) (off_in (behind moment) off) < behind_left moment + 1
last_behind First off = omega arith
last_behind Led off = omega arith
last_behind Picked off = omega arith
last_behind Last off = omega arith

last_swept : (sweep : Sweep) (off : PutOff) → phases_left (swept sweep) (off_in (swept sweep) off) < sweep_left sweep
last_swept sweeps.ShortCleanups off = omega arith
last_swept sweeps.ShortTargets off = omega arith
last_swept sweeps.Objects off = omega arith
last_swept sweeps.LongTargets off = omega arith
last_swept sweeps.ShortHolders off = omega arith
last_swept sweeps.LongHolders off = omega arith
last_swept sweeps.LongCleanups off = omega arith

-- each phase has fewer behind it than the one before
pub fewer_left : (phase next : Phase) (off : PutOff) → next_phase phase (looks_again off) ≡ Some next → phases_left next (off_in next off) < phases_left phase off
fewer_left phase next off is = by phase (looks_again off) refl is
  where
    to : (p q : Phase) → Some q ≡ Some next → phases_left q (off_in q off) < phases_left p off → phases_left next (off_in next off) < phases_left p off
    to p q same lt = let there = ap (λ (x : Phase). phases_left x (off_in x off)) (same_Some q next same) in omega (arith, there, lt)

    by : (p : Phase) (more : Bool) → looks_again off ≡ more → next_phase p more ≡ Some next → phases_left next (off_in next off) < phases_left p off
    by (Keys moment) more on same = to (Keys moment) (Holders moment) same (omega arith)
    by (KeysAgain moment) more on same = to (KeysAgain moment) (Holders moment) same (omega arith)
    by (Holders moment) more on same = to (Holders moment) (Values moment) same (omega arith)
    by (Values moment) false on same = to (Values moment) (behind moment) same (let last = last_behind moment off in omega (arith, last))
    by (Values moment) true on same = to (Values moment) (KeysAgain moment) same (let fewer = fewer_rounds off on in omega (arith, fewer))
    by (Regions sweep) more on same = to (Regions sweep) (swept sweep) same (last_swept sweep off)
    by ShortCleanups more on same = to ShortCleanups (Regions sweeps.ShortTargets) same (omega arith)
    by ShortTargets more on same = to ShortTargets ShortWords same (omega arith)
    by ShortWords more on same = to ShortWords ShortKeys same (omega arith)
    by ShortKeys more on same = to ShortKeys ShortKeyWords same (omega arith)
    by ShortKeyWords more on same = to ShortKeyWords (Regions sweeps.Objects) same (omega arith)
    by Objects more on same = to Objects Children same (omega arith)
    by Children more on same = to Children (Keys Led) same (omega arith)
    by Again more on same = to Again Picks same (omega arith)
    by Picks more on same = to Picks Entries same (omega arith)
    by Entries more on same = to Entries (Keys Picked) same (omega arith)
    by LateAgain more on same = to LateAgain LatePicks same (omega arith)
    by LatePicks more on same = to LatePicks (Keys Last) same (omega arith)
    by LongTargets more on same = to LongTargets LongWords same (omega arith)
    by LongWords more on same = to LongWords LongKeys same (omega arith)
    by LongKeys more on same = to LongKeys LongKeyWords same (omega arith)
    by LongKeyWords more on same = to LongKeyWords (Regions sweeps.ShortHolders) same (omega arith)
    by ShortHolders more on same = to ShortHolders (Regions sweeps.LongHolders) same (omega arith)
    by LongHolders more on same = to LongHolders ShortKeyHolders same (omega arith)
    by ShortKeyHolders more on same = to ShortKeyHolders LongKeyHolders same (omega arith)
    by LongKeyHolders more on same = to LongKeyHolders (Regions sweeps.LongCleanups) same (omega arith)
    by LongCleanups more on same = absurd (none-some next same)

-- the phases that make the marks whole ask about each ephemeron
pub settling_skips : (phase : Phase) (g : Going) → IsTrue (settles phase) → skip phase g ≡ g
settling_skips phase g on = by phase g.left on
  where
    by : (p : Phase) (xs : List Item) → IsTrue (settles p) → skipped p xs g ≡ g
    by p [] on = refl
    by (Keys moment) (item ∷ xs) on = refl
    by (KeysAgain moment) (item ∷ xs) on = refl
    by (Holders moment) (item ∷ xs) on = refl
    by (Values moment) (item ∷ xs) on = refl
    by (Regions sweep) (item ∷ xs) on = absurd (true≢false (sym on))
    by ShortCleanups (item ∷ xs) on = absurd (true≢false (sym on))
    by ShortTargets (item ∷ xs) on = absurd (true≢false (sym on))
    by ShortWords (item ∷ xs) on = absurd (true≢false (sym on))
    by ShortKeys (item ∷ xs) on = absurd (true≢false (sym on))
    by ShortKeyWords (item ∷ xs) on = absurd (true≢false (sym on))
    by Objects (item ∷ xs) on = absurd (true≢false (sym on))
    by Children (item ∷ xs) on = absurd (true≢false (sym on))
    by Again (item ∷ xs) on = absurd (true≢false (sym on))
    by Picks (item ∷ xs) on = absurd (true≢false (sym on))
    by Entries (item ∷ xs) on = absurd (true≢false (sym on))
    by LateAgain (item ∷ xs) on = absurd (true≢false (sym on))
    by LatePicks (item ∷ xs) on = absurd (true≢false (sym on))
    by LongTargets (item ∷ xs) on = absurd (true≢false (sym on))
    by LongWords (item ∷ xs) on = absurd (true≢false (sym on))
    by LongKeys (item ∷ xs) on = absurd (true≢false (sym on))
    by LongKeyWords (item ∷ xs) on = absurd (true≢false (sym on))
    by ShortHolders (item ∷ xs) on = absurd (true≢false (sym on))
    by LongHolders (item ∷ xs) on = absurd (true≢false (sym on))
    by ShortKeyHolders (item ∷ xs) on = absurd (true≢false (sym on))
    by LongKeyHolders (item ∷ xs) on = absurd (true≢false (sym on))
    by LongCleanups (item ∷ xs) on = absurd (true≢false (sym on))

-- so how many follow isn't changed by skipping
pub left_skipped : (phase : Phase) (g : Going) → phases_left phase (skip phase g).off ≡ phases_left phase g.off
left_skipped (Keys moment) g = ap (λ (k : Going). phases_left (Keys moment) k.off) (settling_skips (Keys moment) g refl)
left_skipped (KeysAgain moment) g = ap (λ (k : Going). phases_left (KeysAgain moment) k.off) (settling_skips (KeysAgain moment) g refl)
left_skipped (Holders moment) g = ap (λ (k : Going). phases_left (Holders moment) k.off) (settling_skips (Holders moment) g refl)
left_skipped (Values moment) g = ap (λ (k : Going). phases_left (Values moment) k.off) (settling_skips (Values moment) g refl)
left_skipped (Regions sweep) g = refl
left_skipped ShortCleanups g = refl
left_skipped ShortTargets g = refl
left_skipped ShortWords g = refl
left_skipped ShortKeys g = refl
left_skipped ShortKeyWords g = refl
left_skipped Objects g = refl
left_skipped Children g = refl
left_skipped Again g = refl
left_skipped Picks g = refl
left_skipped Entries g = refl
left_skipped LateAgain g = refl
left_skipped LatePicks g = refl
left_skipped LongTargets g = refl
left_skipped LongWords g = refl
left_skipped LongKeys g = refl
left_skipped LongKeyWords g = refl
left_skipped ShortHolders g = refl
left_skipped LongHolders g = refl
left_skipped ShortKeyHolders g = refl
left_skipped LongKeyHolders g = refl
left_skipped LongCleanups g = refl

-- which lists are set aside when the next phase begins
pub follows_on : (phase next : Phase) (more : Bool) → next_phase phase more ≡ Some next → follows_settling next ≡ settles phase
follows_on phase next more is = by phase more is
  where
    to : (q : Phase) (b : Bool) → Some q ≡ Some next → follows_settling q ≡ b → follows_settling next ≡ b
    to q b is same = ap follows_settling (sym (same_Some q next is)) ∙ same

    behind_on : (moment : Moment) → follows_settling (behind moment) ≡ true
    behind_on First = refl
    behind_on Led = refl
    behind_on Picked = refl
    behind_on Last = refl

    swept_on : (sweep : Sweep) → follows_settling (swept sweep) ≡ false
    swept_on sweeps.ShortCleanups = refl
    swept_on sweeps.ShortTargets = refl
    swept_on sweeps.Objects = refl
    swept_on sweeps.LongTargets = refl
    swept_on sweeps.ShortHolders = refl
    swept_on sweeps.LongHolders = refl
    swept_on sweeps.LongCleanups = refl

    by : (p : Phase) (more : Bool) → next_phase p more ≡ Some next → follows_settling next ≡ settles p
    by (Keys moment) more is = to (Holders moment) true is refl
    by (KeysAgain moment) more is = to (Holders moment) true is refl
    by (Holders moment) more is = to (Values moment) true is refl
    by (Values moment) false is = to (behind moment) true is (behind_on moment)
    by (Values moment) true is = to (KeysAgain moment) true is refl
    by (Regions sweep) more is = to (swept sweep) false is (swept_on sweep)
    by ShortCleanups more is = to (Regions sweeps.ShortTargets) false is refl
    by ShortTargets more is = to ShortWords false is refl
    by ShortWords more is = to ShortKeys false is refl
    by ShortKeys more is = to ShortKeyWords false is refl
    by ShortKeyWords more is = to (Regions sweeps.Objects) false is refl
    by Objects more is = to Children false is refl
    by Children more is = to (Keys Led) false is refl
    by Again more is = to Picks false is refl
    by Picks more is = to Entries false is refl
    by Entries more is = to (Keys Picked) false is refl
    by LateAgain more is = to LatePicks false is refl
    by LatePicks more is = to (Keys Last) false is refl
    by LongTargets more is = to LongWords false is refl
    by LongWords more is = to LongKeys false is refl
    by LongKeys more is = to LongKeyWords false is refl
    by LongKeyWords more is = to (Regions sweeps.ShortHolders) false is refl
    by ShortHolders more is = to (Regions sweeps.LongHolders) false is refl
    by LongHolders more is = to ShortKeyHolders false is refl
    by ShortKeyHolders more is = to LongKeyHolders false is refl
    by LongKeyHolders more is = to (Regions sweeps.LongCleanups) false is refl
    by LongCleanups more is = absurd (none-some next is)

some_left : (xs : List Item) → is_some (slice_get xs 0) ≡ true → (item : Item) × (xs ≡ item ∷ drop 1 xs)
some_left [] h = absurd (true≢false (sym h))
some_left (item ∷ xs) h = (item, refl)

pub no_left : (xs : List Item) → is_some (slice_get xs 0) ≡ false → xs ≡ []
no_left [] h = refl
no_left (item ∷ xs) h = absurd (true≢false h)

module _ {from : ℕ} (phase : Phase) (g k : Going) (skipped : k ≡ skip phase g) where
  pub asks_on : is_some (slice_get k.left 0) ≡ true → GoesOn from phase g (Some phase) k
  asks_on some = let found = some_left k.left some in subst (λ (h : Going). GoesOn from phase g (Some phase) h) (sym skipped) (Asks found.0 (drop 1 k.left) (sym (ap (λ (h : Going). h.left) skipped) ∙ found.1))

  pub turns_on : (next : Phase) (h : Going) → is_some (slice_get k.left 0) ≡ false → next_phase phase (looks_again k.off) ≡ Some next → Begins from next k h → (last : Option Phase) (m : Going) → GoesOn from next h last m → GoesOn from phase g last m
  turns_on next h none turns begins last m rest = Turns (sym (ap (λ (j : Going). j.left) skipped) ∙ no_left k.left none) (ap (λ (j : Going). next_phase phase (looks_again j.off)) (sym skipped) ∙ turns) (subst (λ (j : Going). Begins from next j h) skipped begins) rest

  pub ends_on : is_some (slice_get k.left 0) ≡ false → next_phase phase (looks_again k.off) ≡ None → GoesOn from phase g None k
  ends_on none ends = subst (λ (h : Going). GoesOn from phase g None h) (sym skipped) (Ends (sym (ap (λ (j : Going). j.left) skipped) ∙ no_left k.left none) (ap (λ (j : Going). next_phase phase (looks_again j.off)) (sym skipped) ∙ ends))
