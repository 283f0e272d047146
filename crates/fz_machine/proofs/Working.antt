-- What workers take and finish commutes with the steps of a pass.
use Rattle.std.proofs.Common.{◌≡◌, ◌+◌, ◌++◌, ◌∷◌, ◌∙◌, [], ℕ, Bool, true, false, cond, List, Option, Some, None, refl, sym, ap, subst, is_some, not, filter, IsTrue}
use Rattle.std.specs.FinMap.{get, remove}
use Rattle.std.specs.List.{slice_get}
use Rattle.std.specs.Option.{option_map_or}
use Rattle.fz_model.specs.declared.answers.Entry.{Entry}
use Rattle.fz_model.specs.declared.answers.Registration.{Registration}
use Rattle.fz_model.specs.Events.{same_entry}
use Rattle.fz_model.proofs.Lists.{slice_get-left}
use Rattle.fz_finalizers.specs.declared.cleanups.Attached.{Attached}
use Rattle.fz_finalizers.specs.Follows.{Event, Follows, queued_attached, queued_cleanup, queued_object, queued_one}
use Rattle.fz_finalizers.specs.Kinds.{is_late}
use Rattle.fz_finalizers.specs.States.{State, is_held}
use Rattle.fz_machine.specs.declared.item.Item.{Item}
use Rattle.fz_machine.specs.declared.phase.Moment.TheVariants.{First}
use Rattle.fz_machine.specs.declared.phase.Phase.{Phase}
use Rattle.fz_machine.specs.declared.phase.Phase.TheVariants.{Keys, KeysAgain, Holders, Values, Regions, ShortCleanups, ShortTargets, ShortWords, ShortKeys, ShortKeyWords, Objects, Children, Again, Picks, Entries, LateAgain, LatePicks, LongTargets, LongWords, LongKeys, LongKeyWords, ShortHolders, LongHolders, ShortKeyHolders, LongKeyHolders, LongCleanups}
use Rattle.fz_machine.specs.Machines as machines
use Rattle.fz_machine.specs.Machines.{Answers, Heard, IsWork, Words, Works, heard_by}
use Rattle.fz_machine.specs.Off.{looks_again, put_off}
use Rattle.fz_machine.specs.Phases.{Lists, after, asks, given, keeps, next_phase, without_key}
use Rattle.fz_machine.specs.Steps.{Asks, Begins, Ends, Going, GoesOn, Sweeps, Turns, skip, skipped, step, stepped, steps}
use Rattle.fz_machine.proofs.Phasing.{kept_on}
use Rattle.fz_machine.proofs.Throughout as throughout

-- ---- what an answer does: nothing, or one of five changes

module _ (P : (State → State) → Type 0) (same : P (λ s. s)) (short : (word : ℕ) → P (λ s. record s { short = remove s.short word })) (long : (word : ℕ) → P (λ s. record s { long = remove s.long word })) (keyed : (word : ℕ) → P (λ s. without_key s word)) (queued : (object : ℕ) → P (λ s. queued_object s object)) (cleaned : (number : ℕ) → P (λ s. queued_cleanup s number)) where
  unless : (b : Bool) (f : State → State) → P f → P (λ s. cond b s (f s))
  unless true f h = same
  unless false f h = h

  pub by_change : (phase : Phase) (item : Item) (answer : Bool) → P (λ s. after phase item answer s)
  by_change (Keys moment) item answer = same
  by_change (KeysAgain moment) item answer = same
  by_change (Holders moment) item answer = same
  by_change (Values moment) item answer = same
  by_change (Regions sweep) item answer = same
  by_change ShortCleanups item answer = unless answer (λ s. queued_cleanup s item.word) (cleaned item.word)
  by_change ShortTargets item answer = same
  by_change ShortWords item answer = short item.word
  by_change ShortKeys item answer = same
  by_change ShortKeyWords item answer = keyed item.word
  by_change Objects item answer = same
  by_change Children item answer = same
  by_change Again item answer = same
  by_change Picks item answer = same
  by_change Entries item answer = unless (is_late item.kind) (λ s. queued_object s item.object) (queued item.object)
  by_change LateAgain item answer = same
  by_change LatePicks item answer = queued item.object
  by_change LongTargets item answer = same
  by_change LongWords item answer = long item.word
  by_change LongKeys item answer = same
  by_change LongKeyWords item answer = keyed item.word
  by_change ShortHolders item answer = unless answer (λ s. record s { short = remove s.short item.word }) (short item.word)
  by_change LongHolders item answer = unless answer (λ s. record s { long = remove s.long item.word }) (long item.word)
  by_change ShortKeyHolders item answer = unless answer (λ s. without_key s item.word) (keyed item.word)
  by_change LongKeyHolders item answer = unless answer (λ s. without_key s item.word) (keyed item.word)
  by_change LongCleanups item answer = unless answer (λ s. queued_cleanup s item.word) (cleaned item.word)

-- ---- apart from what is taken and held

module _ (taken : ℕ) (held : List Entry) where
  abbrev pub apart : State → State
  apart s = record s { taken = taken; held = held }

  abbrev pub going_apart : Going → Going
  going_apart g = record g { finalizers = apart g.finalizers }

  abbrev Commutes : (State → State) → Type 0
  Commutes f = (s : State) → f (apart s) ≡ apart (f s)

  queued_apart : (object : ℕ) → Commutes (λ s. queued_object s object)
  queued_apart object s = by (get s.registrations object)
    where
      by : (o : Option Registration) → option_map_or (queued_one (apart s) object) o (apart s) ≡ apart (option_map_or (queued_one s object) o s)
      by None = refl
      by (Some r) = refl

  cleaned_apart : (number : ℕ) → Commutes (λ s. queued_cleanup s number)
  cleaned_apart number s = by (get s.cleanups number)
    where
      by : (o : Option Attached) → option_map_or (queued_attached (apart s) number) o (apart s) ≡ apart (option_map_or (queued_attached s number) o s)
      by None = refl
      by (Some c) = refl

  pub after_apart : (phase : Phase) (item : Item) (answer : Bool) (s : State) → after phase item answer (apart s) ≡ apart (after phase item answer s)
  after_apart = by_change Commutes (λ s. refl) (λ word s. refl) (λ word s. refl) (λ word s. refl) queued_apart cleaned_apart

  module _ (phase : Phase) where
    step_apart : (answer : Bool) (g : Going) → step phase answer (going_apart g) ≡ going_apart (step phase answer g)
    step_apart answer g = by g.left
      where
        by : (xs : List Item) → stepped phase answer (going_apart g) xs ≡ going_apart (stepped phase answer g xs)
        by [] = refl
        by (item ∷ left) = λ i. record { finalizers = after_apart phase item answer g.finalizers i; kept = kept_on (keeps phase item answer) g.kept item; left = left; aside = g.aside; off = put_off phase item answer g.off; told = g.told }

    pub steps_apart : (answers : List Bool) (g : Going) → steps phase answers (going_apart g) ≡ going_apart (steps phase answers g)
    steps_apart [] g = refl
    steps_apart (answer ∷ answers) g = ap (steps phase answers) (step_apart answer g) ∙ steps_apart answers (step phase answer g)

    skipped_apart : (xs : List Item) (g : Going) → skipped phase xs (going_apart g) ≡ going_apart (skipped phase xs g)
    skipped_apart [] g = refl
    skipped_apart (item ∷ left) g = by (is_some (asks phase item)) (ap (skipped phase left) (step_apart false g) ∙ skipped_apart left (step phase false g))
      where
        by : (b : Bool) → skipped phase left (step phase false (going_apart g)) ≡ going_apart (skipped phase left (step phase false g))
            → cond b (going_apart g) (skipped phase left (step phase false (going_apart g))) ≡ going_apart (cond b g (skipped phase left (step phase false g)))
        by true rest = refl
        by false rest = rest

    skip_apart : (g : Going) → skip phase (going_apart g) ≡ going_apart (skip phase g)
    skip_apart g = skipped_apart g.left g

  pub heard_apart : (phase : Phase) (regions : List ℕ) (heard : Heard) (g : Going) → heard_by phase regions heard (going_apart g) ≡ going_apart (heard_by phase regions heard g)
  heard_apart (Regions sweep) regions (Words words) g = refl
  heard_apart phase regions (Answers answers) g = steps_apart phase answers g
  heard_apart phase regions (Words words) g = refl

  lists_apart : (phase : Phase) (from : ℕ) (told : List (ℕ × ℕ)) (s : State) (kept items : List Item) → Lists phase from told s kept items → Lists phase from told (apart s) kept items
  lists_apart (Keys First) from told s kept items is = is
  lists_apart (Keys moment) from told s kept items is = is
  lists_apart (KeysAgain moment) from told s kept items is = is
  lists_apart (Holders moment) from told s kept items is = is
  lists_apart (Values moment) from told s kept items is = is
  lists_apart (Regions sweep) from told s kept items is = is
  lists_apart ShortCleanups from told s kept items is = is
  lists_apart ShortTargets from told s kept items is = is
  lists_apart ShortWords from told s kept items is = is
  lists_apart ShortKeys from told s kept items is = is
  lists_apart ShortKeyWords from told s kept items is = is
  lists_apart Objects from told s kept items is = is
  lists_apart Children from told s kept items is = is
  lists_apart Again from told s kept items is = is
  lists_apart Picks from told s kept items is = is
  lists_apart Entries from told s kept items is = is
  lists_apart LateAgain from told s kept items is = is
  lists_apart LatePicks from told s kept items is = is
  lists_apart LongTargets from told s kept items is = is
  lists_apart LongWords from told s kept items is = is
  lists_apart LongKeys from told s kept items is = is
  lists_apart LongKeyWords from told s kept items is = is
  lists_apart ShortHolders from told s kept items is = is
  lists_apart LongHolders from told s kept items is = is
  lists_apart ShortKeyHolders from told s kept items is = is
  lists_apart LongKeyHolders from told s kept items is = is
  lists_apart LongCleanups from told s kept items is = is

  begins_apart : {from : ℕ} (phase : Phase) (g k : Going) → Begins from phase g k → Begins from phase (going_apart g) (going_apart k)
  begins_apart {from = from} phase g k begins = record {
    same = ap apart begins.same;
    none = begins.none;
    lists = lists_apart phase from g.told g.finalizers (given phase g.kept g.aside g.off) k.left begins.lists;
    aside = begins.aside;
    off = begins.off;
    told = begins.told;
  }

  pub goes_apart : {from : ℕ} (phase : Phase) (g : Going) (last : Option Phase) (k : Going) → GoesOn from phase g last k → GoesOn from phase (going_apart g) last (going_apart k)
  goes_apart {from = from} phase g last k (Asks item left some) =
      subst (λ (m : Going). GoesOn from phase (going_apart g) (Some phase) m) (skip_apart phase g) (Asks item left (ap (λ (m : Going). m.left) (skip_apart phase g) ∙ some))
  goes_apart phase g last k Sweeps = Sweeps
  goes_apart {from = from} phase g last k (Turns {next = next} {h = h} none turns begins rest) =
      Turns (ap (λ (m : Going). m.left) (skip_apart phase g) ∙ none) (ap (λ (m : Going). next_phase phase (looks_again m.off)) (skip_apart phase g) ∙ turns)
      (subst (λ (m : Going). Begins from next m (going_apart h)) (sym (skip_apart phase g)) (begins_apart next (skip phase g) h begins)) (goes_apart next h last k rest)
  goes_apart {from = from} phase g last k (Ends none turns) =
      subst (λ (m : Going). GoesOn from phase (going_apart g) None m) (skip_apart phase g) (Ends (ap (λ (m : Going). m.left) (skip_apart phase g) ∙ none) (ap (λ (m : Going). next_phase phase (looks_again m.off)) (skip_apart phase g) ∙ turns))

  -- a worker changes nothing else
  pub work_apart : (s t : State) (event : Event) → IsWork event → Follows s event t → apart t ≡ apart s
  work_apart s t event (machines.Takes e) follows = ap apart follows.1
  work_apart s t event (machines.TakesFinished e) follows = ap apart follows.1
  work_apart s t event (machines.Finishes e) follows = ap apart follows.1

-- ---- the order doesn't matter

module _ (phase : Phase) (item : Item) (answer : Bool) where
  abbrev changed : State → State
  changed s = after phase item answer s

  same_taken : (s : State) → (changed s).taken ≡ s.taken
  same_taken s = ap (λ (t : State). t.taken) (after_apart s.taken s.held phase item answer s)

  same_held : (s : State) → (changed s).held ≡ s.held
  same_held s = ap (λ (t : State). t.held) (after_apart s.taken s.held phase item answer s)

  abbrev Grows : (State → State) → Type 0
  Grows f = (s : State) (k : ℕ) (e : Entry) → slice_get s.queue k ≡ Some e → slice_get (f s).queue k ≡ Some e

  queued_grows : (object : ℕ) → Grows (λ s. queued_object s object)
  queued_grows object s k e at = by (get s.registrations object)
    where
      by : (o : Option Registration) → slice_get (option_map_or (queued_one s object) o s).queue k ≡ Some e
      by None = at
      by (Some r) = slice_get-left s.queue _ k e at

  cleaned_grows : (number : ℕ) → Grows (λ s. queued_cleanup s number)
  cleaned_grows number s k e at = by (get s.cleanups number)
    where
      by : (o : Option Attached) → slice_get (option_map_or (queued_attached s number) o s).queue k ≡ Some e
      by None = at
      by (Some c) = slice_get-left s.queue _ k e at

  grows : Grows changed
  grows = by_change Grows (λ s k e at. at) (λ word s k e at. at) (λ word s k e at. at) (λ word s k e at. at) queued_grows cleaned_grows phase item answer

  next_here : (s : State) (e : Entry) → slice_get s.queue s.taken ≡ Some e → slice_get (changed s).queue (changed s).taken ≡ Some e
  next_here s e at = subst (λ n. slice_get (changed s).queue n ≡ Some e) (sym (same_taken s)) (grows s s.taken e at)

  -- the same event after the change
  work_after : (s t : State) (event : Event) → IsWork event → Follows s event t → Follows (changed s) event (changed t)
  work_after s t event (machines.Takes e) (at, is) = (
    next_here s e at,
    ap changed is ∙ after_apart (s.taken + 1) (s.held ++ e ∷ []) phase item answer s ∙ (λ i. record (changed s) { taken = sym (same_taken s) i + 1; held = sym (same_held s) i ++ e ∷ [] }),
  )
  work_after s t event (machines.TakesFinished e) (at, is) = (
    next_here s e at,
    ap changed is ∙ after_apart (s.taken + 1) s.held phase item answer s ∙ (λ i. record (changed s) { taken = sym (same_taken s) i + 1; held = sym (same_held s) i }),
  )
  work_after s t event (machines.Finishes e) (on, is) = (
    subst (λ (hs : List Entry). IsTrue (is_held hs e)) (sym (same_held s)) on,
    ap changed is ∙ after_apart s.taken (unheld s.held) phase item answer s ∙ (λ i. record (changed s) { taken = sym (same_taken s) i; held = unheld (sym (same_held s) i) }),
  )
    where
      unheld : List Entry → List Entry
      unheld = filter (λ h. not (same_entry e h))

  works_after : (s t : State) → Works s t → Works (changed s) (changed t)
  works_after s t machines.Begun = machines.Begun
  works_after s t (machines.Goes {mid = m} event work works follows) = machines.Goes event work (works_after s m works) (work_after m t event work follows)

-- what was taken and finished might as well be taken and finished now
module _ (taken : ℕ) (held : List Entry) where
  abbrev pub WorksAfter : State → Type 0
  WorksAfter s = Works (apart taken held s) s

  keeps_works : (phase : Phase) (item : Item) (answer : Bool) (s : State) → WorksAfter s → WorksAfter (after phase item answer s)
  keeps_works phase item answer s works =
      subst (λ (t : State). Works t (after phase item answer s)) (after_apart taken held phase item answer s) (works_after phase item answer (apart taken held s) s works)

  pub goes_works : {from : ℕ} (phase : Phase) (regions : List ℕ) (heard : Heard) (g : Going) (last : Option Phase) (k : Going) → GoesOn from phase (heard_by phase regions heard g) last k → WorksAfter g.finalizers → WorksAfter k.finalizers
  goes_works phase regions heard g last k goes works = throughout.goes_keep WorksAfter keeps_works phase (heard_by phase regions heard g) last k goes (throughout.heard_keeps WorksAfter keeps_works phase regions heard g works)

  pub worked_on : (s t : State) (event : Event) → IsWork event → Follows s event t → WorksAfter s → WorksAfter t
  worked_on s t event work follows works = subst (λ (u : State). Works u t) (sym (work_apart taken held s t event work follows)) (machines.Goes event work works follows)
