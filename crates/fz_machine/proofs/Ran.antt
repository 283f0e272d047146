-- A run keeps what holds in its phases, and ends with the model's pass.
use Rattle.std.proofs.Common.{ℕ, ◌≡◌, ◌∷◌, ◌++◌, ◌∙◌, [], ◌<◌, Bool, true, false, true≢false, arith, cond, List, Option, Some, None, refl, sym, ap, subst, is_some, length, zip, IsTrue}
use Rattle.std.proofs.lemmas.Option.{none-some, same_Some}
use Rattle.std.specs.FinMap.{retain_keys}
use Rattle.std.specs.FinSet.{contains}
use Rattle.fz_model.specs.State.{Map, Object}
use Rattle.fz_pass.specs.Holds.{no_ephemerons}
use Rattle.fz_pass.specs.Marks.{IsClosed}
use Rattle.fz_model.specs.declared.kinds.LinkKind.TheVariants.{Long, Short}
use Rattle.fz_finalizers.specs.Cleanups.{is_due}
use Rattle.fz_finalizers.specs.Follows.{Cleans, Follows, Pass, next_pass}
use Rattle.fz_finalizers.specs.Passed.{DecidesFor, DecidesWholeFor, PassesFor, PassesFound, parts_in, parts_left_in}
use Rattle.fz_finalizers.specs.Ready.{DecidesKeyed}
use Rattle.fz_finalizers.proofs.Flags.{normal_of}
use Rattle.fz_finalizers.proofs.Following.{only_go, whole_queues}
use Rattle.fz_finalizers.proofs.Keying.{single}
use Rattle.fz_finalizers.proofs.Plainly.{plain_decides}
use Rattle.fz_finalizers.proofs.Promised.{promised}
use Rattle.fz_finalizers.specs.Promises.{AreSingle}
use Rattle.fz_finalizers.specs.States.{AreFlags, State}
use Rattle.fz_machine.specs.declared.item.Item.{Item}
use Rattle.fz_machine.specs.declared.phase.Moment.{Moment}
use Rattle.fz_machine.specs.declared.phase.Moment.TheVariants.{First}
use Rattle.fz_machine.specs.declared.phase.Phase.{Phase}
use Rattle.fz_machine.specs.declared.phase.Phase.TheVariants.{Keys, Regions, Values}
use Rattle.fz_machine.specs.declared.phase.Sweep.{Sweep}
use Rattle.fz_machine.specs.declared.phase.Sweep.TheVariants as sweeps
use Rattle.fz_machine.specs.declared.question.Ask.{Ask}
use Rattle.fz_machine.specs.Graph.{AreHonestWords, AreOldMarked, Graph, IsHonest, MayBegin, graph_of}
use Rattle.fz_machine.specs.Items.{AreEphemerons}
use Rattle.fz_machine.specs.Machines as machines
use Rattle.fz_machine.specs.Machines.{Answers, Heard, IsBegunFrom, Machine, TellsIn, Words, Works, heard_by}
use Rattle.fz_machine.specs.Off.{PutOff, looks_again, put_off}
use Rattle.fz_machine.specs.Phases.{Lists, after, aside_in, ask_of, asks, given, is_known, keeps, next_phase, off_in, settles, subject, sweep_ask, swept}
use Rattle.fz_machine.specs.Regions.{IsOfSweep}
use Rattle.fz_machine.specs.Runs.{AreHonest, Begun, Goes, IsTrueOf, MakesPass, MakesPlainPass, Meanwhile, Runs, RunsPass, RunsPlainPass, RunsYoungPass, RunsYoungPlainPass, Told}
use Rattle.fz_machine.specs.Steps.{Asks, Begins, Ends, Going, GoesOn, Sweeps, Turns, skip, skipped, step, stepped, steps}
use Rattle.fz_machine.proofs.Begun.{HasBegun}
use Rattle.fz_machine.proofs.Cleaning.{after_due}
use Rattle.fz_machine.proofs.Honest.{honest_more}
use Rattle.fz_machine.proofs.May.{may_ever}
use Rattle.fz_machine.proofs.Opening.{IsAfter, IsAtEnd, IsIn, begin_found, keep, known_so, opens, settled_all, told, turn}
use Rattle.fz_machine.proofs.Parted.{AreOff, IsParted, parted_on, parted_told, parted_turn}
use Rattle.fz_machine.proofs.Phased as phased
use Rattle.fz_machine.proofs.Phasing.{kept_on}
use Rattle.fz_machine.proofs.Rounds.{begin_behind}
use Rattle.fz_machine.proofs.Stepping.{skip_none, steps_none}
use Rattle.fz_machine.proofs.Turning as turning
use Rattle.fz_machine.proofs.Working.{WorksAfter, apart, goes_apart, goes_works, going_apart, heard_apart, work_apart, worked_on}

-- ---- what was told stays but for a sweep

stepped_told : (phase : Phase) (answer : Bool) (g : Going) (xs : List Item) → (stepped phase answer g xs).told ≡ g.told
stepped_told phase answer g [] = refl
stepped_told phase answer g (item ∷ left) = refl

steps_told : (phase : Phase) (answers : List Bool) (g : Going) → (steps phase answers g).told ≡ g.told
steps_told phase [] g = refl
steps_told phase (answer ∷ answers) g = steps_told phase answers (step phase answer g) ∙ stepped_told phase answer g g.left

skipped_told : (phase : Phase) (xs : List Item) (g : Going) → (skipped phase xs g).told ≡ g.told
skipped_told phase [] g = refl
skipped_told phase (item ∷ left) g = by (is_some (asks phase item)) (skipped_told phase left (step phase false g) ∙ stepped_told phase false g g.left)
  where
    by : (b : Bool) → (skipped phase left (step phase false g)).told ≡ g.told → (cond b g (skipped phase left (step phase false g))).told ≡ g.told
    by true rest = refl
    by false rest = rest

module _ (E : Type 0) (word_of : ℕ → Option ℕ) (value : Map Object → ℕ → Option ℕ) (b : State) (before : Graph) (begin : HasBegun word_of value b before) where
  abbrev Holds : Phase → Going → Graph → Type 0
  Holds phase g h = IsIn E word_of value b before phase g.finalizers g.kept g.left g.aside g.off h

  -- what holds beside it, throughout the pass
  abbrev Parts : Phase → Going → Graph → Type 0
  Parts phase g h = IsParted E word_of value b.ephemerons phase g.finalizers g.off h

  -- words that are true of the items of a sweep
  abbrev AreTrue : Sweep → State → Graph → List (ℕ × ℕ) → Type 0
  AreTrue sweep s h told = AreHonestWords word_of (sweep_ask sweep) (IsOfSweep sweep s) h told

  -- by true words the phase behind a sweep lists what it should
  abbrev ListsRightly : Sweep → State → List Item → List Item → PutOff → Graph → Type 0
  ListsRightly sweep s kept aside off h =
      (told : List (ℕ × ℕ)) → AreTrue sweep s h told → (items : List Item) → Lists (swept sweep) begin.from told s (given (swept sweep) kept aside off) items
      → IsIn E word_of value b before (swept sweep) s [] items (aside_in (swept sweep) kept aside) (off_in (swept sweep) off) h

  -- in a sweep no item is left, and what was told is true; in other phases nothing is told
  abbrev pub IsOn : Phase → Going → Graph → Type 0
  IsOn (Regions sweep) g h = AreTrue sweep g.finalizers h g.told × (g.left ≡ []) × ListsRightly sweep g.finalizers g.kept g.aside g.off h × Parts (Regions sweep) g h
  IsOn phase g h = (g.told ≡ []) × Holds phase g h × Parts phase g h

  -- where it asks, or at the end
  abbrev pub IsWhere : Option Phase → Going → Graph → Type 0
  IsWhere None g h = IsAtEnd E word_of value b before g.finalizers h
  IsWhere (Some phase) g h = IsOn phase g h

  abbrev at : State → List Item → List Item → List Item → PutOff → List (ℕ × ℕ) → Going
  at s kept left aside off told = record { finalizers = s; kept = kept; left = left; aside = aside; off = off; told = told }

  -- ---- what is heard

  -- answers about the first items
  steps_keep : (phase : Phase) (answers : List Bool) (s : State) (kept left aside : List Item) (off : PutOff) (told : List (ℕ × ℕ)) (h new : Graph) → IsIn E word_of value b before phase s kept left aside off h → IsParted E word_of value b.ephemerons phase s off h
      → AreHonest E word_of value phase answers left h new → Holds phase (steps phase answers (at s kept left aside off told)) new × Parts phase (steps phase answers (at s kept left aside off told)) new
  steps_keep phase [] s kept left aside off told h new p q same =
      (subst (λ (x : Graph). IsIn E word_of value b before phase s kept left aside off x) (sym same) p, subst (λ (x : Graph). IsParted E word_of value b.ephemerons phase s off x) (sym same) q)
  steps_keep phase (answer ∷ answers) s kept [] aside off told h new p q honest = absurd honest
  steps_keep phase (answer ∷ answers) s kept (item ∷ left) aside off told h new p q (between, is, rest) =
      steps_keep phase answers (after phase item answer s) (kept_on (keeps phase item answer) kept item) left aside (put_off phase item answer off) told between new
      (keep E word_of value b before begin phase s kept left aside off item h between p answer is)
      (parted_on E word_of value b.ephemerons begin.values phase s off item h between q (may_ever E word_of value b before begin phase s kept left aside off item h p) answer is) rest

  -- about no items there are no answers
  no_answers : (phase : Phase) (answers : List Bool) (left : List Item) (h new : Graph) → left ≡ [] → AreHonest E word_of value phase answers left h new → new ≡ h
  no_answers phase [] left h new none honest = honest
  no_answers phase (answer ∷ answers) [] h new none honest = absurd honest
  no_answers phase (answer ∷ answers) (item ∷ left) h new none honest = absurd (omega (arith, ap length none))

  abbrev pub here_apart : Machine → Going
  here_apart m = going_apart b.taken b.held (machines.going_of m)

  pub heard_on : (m : Machine) (heard : Heard) (phase : Phase) (h new : Graph) → IsOn phase (here_apart m) h → IsTrueOf E word_of value m heard phase h new → IsOn phase (heard_by phase m.regions heard (here_apart m)) new
  heard_on m (Answers answers) (Regions sweep) h new p honest =
      subst (λ (k : Going). IsOn (Regions sweep) k new) (sym (steps_none (Regions sweep) answers (here_apart m) p.1)) (subst (λ (x : Graph). IsOn (Regions sweep) (here_apart m) x) (sym (no_answers (Regions sweep) answers m.walk.left h new p.1 honest)) p)
  heard_on m (Words words) (Regions sweep) h new p honest =
      subst (λ (x : Graph). IsOn (Regions sweep) (record (here_apart m) { told = m.told ++ zip m.regions words }) x) (sym honest.1)
      (honest_more word_of (sweep_ask sweep) (IsOfSweep sweep (apart b.taken b.held m.finalizers.state)) h m.told (zip m.regions words) p.0 (words_apart sweep honest.0), p.1, p.2, p.3)
    where
      words_apart : (sweep : Sweep) → AreTrue sweep m.finalizers.state h (zip m.regions words) → AreTrue sweep (apart b.taken b.held m.finalizers.state) h (zip m.regions words)
      words_apart sweeps.ShortCleanups true_words = true_words
      words_apart sweeps.ShortTargets true_words = true_words
      words_apart sweeps.Objects true_words = true_words
      words_apart sweeps.LongTargets true_words = true_words
      words_apart sweeps.ShortHolders true_words = true_words
      words_apart sweeps.LongHolders true_words = true_words
      words_apart sweeps.LongCleanups true_words = true_words
  heard_on m (Answers answers) phase h new p honest =
      let on = steps_keep phase answers (apart b.taken b.held m.finalizers.state) m.walk.kept m.walk.left m.walk.aside m.walk.off m.told h new p.1 p.2 honest in (steps_told phase answers (here_apart m) ∙ p.0, on.0, on.1)
  heard_on m (Words words) phase h new p same = subst (λ (x : Graph). IsOn phase (here_apart m) x) (sym same) p

  -- ---- past items of which nothing is asked

  -- what would be answered about them is false
  unasked : (phase : Phase) (s : State) (kept left aside : List Item) (off : PutOff) (item : Item) (h : Graph) → IsIn E word_of value b before phase s kept (item ∷ left) aside off h → asks phase item ≡ None
      → IsHonest E word_of value (ask_of phase item) (subject phase item) h false h
  unasked phase s kept left aside off item h p none = by (is_known phase item) refl none
    where
      by : (on : Bool) → is_known phase item ≡ on → cond on None (ask_of phase item) ≡ None → IsHonest E word_of value (ask_of phase item) (subject phase item) h false h
      by true on is = known_so E word_of value b before begin phase s kept left aside off item h p on
      by false un is = subst (λ o. IsHonest E word_of value o (subject phase item) h false h) (sym is) refl

  skips_keep : (phase : Phase) (left : List Item) (s : State) (kept aside : List Item) (off : PutOff) (told : List (ℕ × ℕ)) (h : Graph) → IsIn E word_of value b before phase s kept left aside off h → IsParted E word_of value b.ephemerons phase s off h
      → Holds phase (skipped phase left (at s kept left aside off told)) h × Parts phase (skipped phase left (at s kept left aside off told)) h
  skips_keep phase [] s kept aside off told h p q = (p, q)
  skips_keep phase (item ∷ left) s kept aside off told h p q = by (asks phase item) refl (skips_keep phase left (after phase item false s) (kept_on (keeps phase item false) kept item) aside (put_off phase item false off) told h)
    where
      next : Going
      next = at (after phase item false s) (kept_on (keeps phase item false) kept item) left aside (put_off phase item false off) told

      by : (o : Option Ask) → asks phase item ≡ o → (Holds phase next h → Parts phase next h → Holds phase (skipped phase left next) h × Parts phase (skipped phase left next) h)
          → Holds phase (cond (is_some o) (at s kept (item ∷ left) aside off told) (skipped phase left next)) h × Parts phase (cond (is_some o) (at s kept (item ∷ left) aside off told) (skipped phase left next)) h
      by None none rest =
          let honest = unasked phase s kept left aside off item h p none in
          rest (keep E word_of value b before begin phase s kept left aside off item h h p false honest)
          (parted_on E word_of value b.ephemerons begin.values phase s off item h h q (may_ever E word_of value b before begin phase s kept left aside off item h p) false honest)
      by (Some ask) some rest = (p, q)

  pub skip_on : (phase : Phase) (g : Going) (h : Graph) → IsOn phase g h → IsOn phase (skip phase g) h
  skip_on (Regions sweep) g h p = subst (λ (k : Going). IsOn (Regions sweep) k h) (sym (skip_none (Regions sweep) g p.1)) p
  skip_on phase g h p = let on = skips_keep phase g.left g.finalizers g.kept g.aside g.off g.told h p.1 p.2 in (skipped_told phase g.left g ∙ p.0, on.0, on.1)

  -- ---- the next phase

  -- no item is left
  none_left : (phase : Phase) (g : Going) (h : Graph) → g.left ≡ [] → Holds phase g h → Parts phase g h → IsAfter E word_of value b before begin.from (next_phase phase (looks_again g.off)) g.finalizers g.kept g.aside g.off h
  none_left phase g h none p q =
      turn E word_of value b before begin phase g.finalizers g.kept g.aside g.off h (subst (λ (xs : List Item). IsIn E word_of value b before phase g.finalizers g.kept xs g.aside g.off h) none p) q

  module _ (phase : Phase) (g k : Going) (h : Graph) (begins : Begins begin.from phase g k) where
    -- what it lists, it lists of what the phase before has left
    listed_on : IsIn E word_of value b before phase g.finalizers [] k.left (aside_in phase g.kept g.aside) (off_in phase g.off) h → Holds phase k h
    listed_on p =
        subst (λ (s : State). IsIn E word_of value b before phase s k.kept k.left k.aside k.off h) (sym begins.same)
        (subst (λ (xs : List Item). IsIn E word_of value b before phase g.finalizers xs k.left k.aside k.off h) (sym begins.none)
        (subst (λ (xs : List Item). IsIn E word_of value b before phase g.finalizers [] k.left xs k.off h) (sym begins.aside)
        (subst (λ (off : PutOff). IsIn E word_of value b before phase g.finalizers [] k.left (aside_in phase g.kept g.aside) off h) (sym begins.off) p)))

    -- and the ephemerons are still put off or past
    parts_on : IsParted E word_of value b.ephemerons phase g.finalizers (off_in phase g.off) h → Parts phase k h
    parts_on q =
        subst (λ (s : State). IsParted E word_of value b.ephemerons phase s k.off h) (sym begins.same) (subst (λ (off : PutOff). IsParted E word_of value b.ephemerons phase g.finalizers off h) (sym begins.off) q)

  begins_on : (phase : Phase) (g k : Going) (h : Graph) → g.told ≡ [] → IsAfter E word_of value b before begin.from (Some phase) g.finalizers g.kept g.aside g.off h → IsParted E word_of value b.ephemerons phase g.finalizers (off_in phase g.off) h
      → Begins begin.from phase g k → IsOn phase k h
  begins_on (Regions sweep) g k h none after_it q begins = (
    subst (λ (told : List (ℕ × ℕ)). AreTrue sweep k.finalizers h told) (sym begins.told) tt,
    begins.lists,
    subst (λ (s : State). ListsRightly sweep s k.kept k.aside k.off h) (sym begins.same)
        (subst (λ (xs : List Item). ListsRightly sweep g.finalizers xs k.aside k.off h) (sym begins.none)
        (subst (λ (xs : List Item). ListsRightly sweep g.finalizers [] xs k.off h) (sym begins.aside)
        (subst (λ (off : PutOff). ListsRightly sweep g.finalizers [] (aside_in (Regions sweep) g.kept g.aside) off h) (sym begins.off) after_it))),
    parts_on (Regions sweep) g k h begins q,
  )
  begins_on phase g k h none after_it q begins = (begins.told, listed_on phase g k h begins (after_it g.told none k.left begins.lists), parts_on phase g k h begins q)

  -- behind a sweep
  swept_on : (sweep : Sweep) (k : Going) (h : Graph) → k.told ≡ [] → Holds (swept sweep) k h → Parts (swept sweep) k h → IsOn (swept sweep) k h
  swept_on sweeps.ShortCleanups k h none p q = (none, p, q)
  swept_on sweeps.ShortTargets k h none p q = (none, p, q)
  swept_on sweeps.Objects k h none p q = (none, p, q)
  swept_on sweeps.LongTargets k h none p q = (none, p, q)
  swept_on sweeps.ShortHolders k h none p q = (none, p, q)
  swept_on sweeps.LongHolders k h none p q = (none, p, q)
  swept_on sweeps.LongCleanups k h none p q = (none, p, q)

  -- once the marks are whole, each ephemeron is put off or is past
  settled_on : (phase : Phase) (g : Going) (h : Graph) → g.left ≡ [] → Holds phase g h → (moment : Moment) → phase ≡ Values moment → AreOff E word_of value g.finalizers g.off h
  settled_on phase g h none p moment at =
      settled_all E word_of value b before begin moment g.finalizers g.kept g.aside g.off h
      (subst (λ (o : Phase). IsIn E word_of value b before o g.finalizers g.kept [] g.aside g.off h) at (subst (λ (xs : List Item). IsIn E word_of value b before phase g.finalizers g.kept xs g.aside g.off h) none p))

  pub turn_on : (phase next : Phase) (g k : Going) (h : Graph) → g.left ≡ [] → next_phase phase (looks_again g.off) ≡ Some next → IsOn phase g h → Begins begin.from next g k → IsOn next k h
  turn_on (Regions sweep) next g k h none turns p begins =
      let is : swept sweep ≡ next = same_Some (swept sweep) next turns in
      let from_here : Begins begin.from (swept sweep) g k = subst (λ (o : Phase). Begins begin.from o g k) (sym is) begins in
      let parted = parted_turn E word_of value b.ephemerons (Regions sweep) (swept sweep) (looks_again g.off) g.finalizers g.off h refl p.3 (λ moment at. absurd (true≢false (sym (ap settles at)))) in
      subst (λ (o : Phase). IsOn o k h) is (swept_on sweep k h from_here.told (listed_on (swept sweep) g k h from_here (p.2 g.told p.0 k.left from_here.lists)) (parts_on (swept sweep) g k h from_here parted))
  turn_on phase next g k h none turns p begins =
      let parted = parted_turn E word_of value b.ephemerons phase next (looks_again g.off) g.finalizers g.off h turns p.2 (settled_on phase g h none p.1) in
      begins_on next g k h p.0 (subst (λ o. IsAfter E word_of value b before begin.from o g.finalizers g.kept g.aside g.off h) turns (none_left phase g h none p.1 p.2)) parted begins

  end_on : (phase : Phase) (g : Going) (h : Graph) → g.left ≡ [] → next_phase phase (looks_again g.off) ≡ None → IsOn phase g h → IsAtEnd E word_of value b before g.finalizers h
  end_on (Regions sweep) g h none turns p = absurd (none-some (swept sweep) (sym turns))
  end_on phase g h none turns p = subst (λ o. IsAfter E word_of value b before begin.from o g.finalizers g.kept g.aside g.off h) turns (none_left phase g h none p.1 p.2)

  goes_keep : (phase : Phase) (g : Going) (last : Option Phase) (k : Going) (h : Graph) → GoesOn begin.from phase g last k → IsOn phase g h → IsWhere last k h
  goes_keep phase g last k h (Asks item left some) p = skip_on phase g h p
  goes_keep phase g last k h Sweeps p = p
  goes_keep phase g last k h (Turns {next = next} {h = m} none turns begins rest) p = goes_keep next m last k h rest (turn_on phase next (skip phase g) m h none turns (skip_on phase g h p) begins)
  goes_keep phase g last k h (Ends none turns) p = end_on phase (skip phase g) h none turns (skip_on phase g h p)

  -- the host tells a key
  told_on : (key : ℕ) (phase : Option Phase) (g : Going) (now : PutOff) (h : Graph) → TellsIn phase key g.off now → IsWhere phase g h → IsWhere phase (record g { off = now }) h
  told_on key None g now h tells p = p
  told_on key (Some (Regions sweep)) g now h tells p = subst (λ (off : PutOff). IsOn (Regions sweep) (record g { off = off }) h) (sym tells) p
  told_on key (Some phase) g now h tells p =
      (p.0, told E word_of value b before begin key phase g.finalizers g.kept g.left g.aside g.off now h tells p.1, parted_told E word_of value b.ephemerons key phase g.finalizers g.off now h tells p.2)

  -- ---- a run

  -- with what was taken and held at the begin
  abbrev pub IsAt : Machine → Graph → Type 0
  IsAt m h = IsWhere m.phase (here_apart m) h

  -- it looks at the same registrations and cleanups throughout
  pub from_stays : (begun m : Machine) (h : Graph) → Runs E word_of value begun before m h → m.from ≡ begun.from
  from_stays begun m h Begun = refl
  from_stays begun m h (Goes {m = old} {g = g} heard goes runs honest) = goes.from ∙ from_stays begun old g runs
  from_stays begun m h (Meanwhile {m = old} worked runs) = ap (λ (k : Machine). k.from) worked.keeps ∙ from_stays begun old h runs
  from_stays begun m h (Told {m = old} key tells runs) = ap (λ (k : Machine). k.from) tells.same ∙ from_stays begun old h runs

  pub ran : (begun m : Machine) (h : Graph) → begun.from ≡ begin.from → IsAt begun before → Runs E word_of value begun before m h → IsAt m h
  ran begun m h same p Begun = p
  ran begun m h same p (Goes {m = old} {g = g} heard goes runs honest) =
      let was = subst (λ o. IsWhere o (here_apart old) g) goes.was (ran begun old g same p runs) in
      let on : GoesOn begin.from goes.phase (heard_by goes.phase old.regions heard (here_apart old)) m.phase (here_apart m) =
      subst (λ n. GoesOn n goes.phase (heard_by goes.phase old.regions heard (here_apart old)) m.phase (here_apart m)) (from_stays begun old g runs ∙ same)
      (subst (λ (k : Going). GoesOn old.from goes.phase k m.phase (here_apart m)) (sym (heard_apart b.taken b.held goes.phase old.regions heard (machines.going_of old)))
      (goes_apart b.taken b.held goes.phase (heard_by goes.phase old.regions heard (machines.going_of old)) m.phase (machines.going_of m) goes.goes)) in
      goes_keep goes.phase (heard_by goes.phase old.regions heard (here_apart old)) m.phase (here_apart m) h on (heard_on old heard goes.phase g h was honest)
  ran begun m h same p (Meanwhile {m = old} worked runs) =
      subst (λ (k : Machine). IsWhere k.phase (record (here_apart k) { finalizers = apart b.taken b.held m.finalizers.state }) h) (sym worked.keeps)
      (subst (λ (s : State). IsWhere old.phase (record (here_apart old) { finalizers = s }) h)
      (sym (work_apart b.taken b.held old.finalizers.state m.finalizers.state worked.event worked.work worked.follows)) (ran begun old h same p runs))
  ran begun m h same p (Told {m = old} key tells runs) = subst (λ (k : Machine). IsAt k h) (sym tells.same) (told_on key old.phase (here_apart old) m.walk.off h tells.off (ran begun old h same p runs))

  -- what is taken and finished might as well be taken and finished at the end
  works : (begun m : Machine) (h : Graph) → WorksAfter b.taken b.held begun.finalizers.state → Runs E word_of value begun before m h → WorksAfter b.taken b.held m.finalizers.state
  works begun m h p Begun = p
  works begun m h p (Goes {m = old} {g = g} heard goes runs honest) =
      goes_works b.taken b.held goes.phase old.regions heard (machines.going_of old) m.phase (machines.going_of m) goes.goes (works begun old g p runs)
  works begun m h p (Meanwhile {m = old} worked runs) =
      worked_on b.taken b.held old.finalizers.state m.finalizers.state worked.event worked.work worked.follows (works begun old h p runs)
  works begun m h p (Told {m = old} key tells runs) = subst (λ (k : Machine). WorksAfter b.taken b.held k.finalizers.state) (sym tells.same) (works begun old h p runs)

-- ---- from the begin to the end

module _ (E : Type 0) (word_of : ℕ → Option ℕ) (value : Map Object → ℕ → Option ℕ) (from : ℕ) (old begun new : Machine) (before after_it : Graph) (flags : AreFlags old.finalizers.state.registrations old.finalizers.state.late) (single : AreSingle old.finalizers.state) (is : IsBegunFrom from old begun) (may : MayBegin word_of value old.finalizers.state before) (seen : AreOldMarked from old.finalizers.state before) (runs : Runs E word_of value begun before new after_it) where
  abbrev pub b : State
  b = record old.finalizers.state { passes = next_pass old.finalizers.passes }

  pub no_later : (number : ℕ) → number < begun.from → number < from
  no_later number lt = let same = is.from in omega (arith, lt, same)

  abbrev pub has_begun : HasBegun word_of value b before
  has_begun = record {
    may = record { registered = may.registered; short = may.short; long = may.long; short_keys = may.short_keys; long_keys = may.long_keys; zero = may.zero; closed = may.closed; births = may.births; starts = may.starts; apart = may.apart; values = may.values };
    flags = flags;
    single = single;
    from = begun.from;
    seen = record { registered = λ object r here lt. seen.registered object r here (no_later r.number lt); attached = λ number c here lt. seen.attached number c here (no_later number lt) };
  }

  starts : IsIn E word_of value b before (Keys First) begun.finalizers.state begun.walk.kept begun.walk.left begun.walk.aside begun.walk.off before
  starts =
      let listed : AreEphemerons b.ephemerons begun.walk.left = subst (λ (s : State). AreEphemerons s.ephemerons begun.walk.left) is.finalizers is.begins.lists in
      subst (λ (s : State). IsIn E word_of value b before (Keys First) s begun.walk.kept begun.walk.left begun.walk.aside begun.walk.off before) (sym is.finalizers)
      (subst (λ (xs : List Item). IsIn E word_of value b before (Keys First) b xs begun.walk.left begun.walk.aside begun.walk.off before) (sym is.begins.none)
      (subst (λ (off : PutOff). IsIn E word_of value b before (Keys First) b [] begun.walk.left begun.walk.aside off before) (sym is.begins.off)
      (opens E word_of value b before has_begun begun.walk.left begun.walk.aside before refl listed)))

  -- all ephemerons are listed then
  parted_starts : IsParted E word_of value b.ephemerons (Keys First) begun.finalizers.state begun.walk.off before
  parted_starts = subst (λ (s : State). IsParted E word_of value b.ephemerons (Keys First) s begun.walk.off before) (sym is.finalizers)
      (record { stays = record { zero = may.zero; were = λ word key of. of; single = single }; all = λ out. absurd (true≢false out) })

  -- nothing is taken or finished yet
  as_b : apart b.taken b.held begun.finalizers.state ≡ begun.finalizers.state
  as_b = ap (apart b.taken b.held) is.finalizers ∙ sym is.finalizers

  abbrev there : Going
  there = going_apart b.taken b.held (machines.going_of new)

  pub is_first : IsAt E word_of value b before has_begun begun before
  is_first =
      subst (λ (s : State). IsWhere E word_of value b before has_begun begun.phase (record (machines.going_of begun) { finalizers = s }) before) (sym as_b)
      (subst (λ o. IsWhere E word_of value b before has_begun o (machines.going_of begun) before) (sym is.phase) (is.begins.told, starts, parted_starts))

  is_where : IsWhere E word_of value b before has_begun new.phase there after_it
  is_where = ran E word_of value b before has_begun begun new after_it refl is_first runs

  works_on : WorksAfter b.taken b.held new.finalizers.state
  works_on = works E word_of value b before has_begun begun new after_it (subst (λ (s : State). machines.Works s begun.finalizers.state) (sym as_b) machines.Begun) runs

  -- where the pass is, as its phase says
  pub where_it_is : (s : State) × (h : HasBegun word_of value s before) × ((phase : Phase) → new.phase ≡ Some phase → IsOn E word_of value s before h phase (going_apart s.taken s.held (machines.going_of new)) after_it)
  where_it_is = (b, has_begun, λ phase at. subst (λ o. IsWhere E word_of value b before has_begun o there after_it) at is_where)

module _ (E : Type 0) (word_of : ℕ → Option ℕ) (value : Map Object → ℕ → Option ℕ) (from : ℕ) (old begun new : Machine) (before after_it : Graph) (flags : AreFlags old.finalizers.state.registrations old.finalizers.state.late) (single : AreSingle old.finalizers.state) (is : IsBegunFrom from old begun) (may : MayBegin word_of value old.finalizers.state before) (seen : AreOldMarked from old.finalizers.state before) (runs : Runs E word_of value begun before new after_it) (ends : new.phase ≡ None) where
  abbrev c : State
  c = b E word_of value from old begun new before after_it flags single is may seen runs

  abbrev begins_so : HasBegun word_of value c before
  begins_so = has_begun E word_of value from old begun new before after_it flags single is may seen runs

  abbrev end : State
  end = apart c.taken c.held new.finalizers.state

  at_end : IsAtEnd E word_of value c before end after_it
  at_end = subst (λ o. IsWhere E word_of value c before begins_so o (going_apart c.taken c.held (machines.going_of new)) after_it) ends (is_where E word_of value from old begun new before after_it flags single is may seen runs)

  -- what is found
  abbrev found : ℕ → Bool
  found = at_end.0

  abbrev found_graph : Graph
  found_graph = graph_of before.objects found

  found_so : HasBegun word_of value c found_graph
  found_so = begin_found E word_of value c before begins_so found at_end.1

  -- what the first round leaves, and the pass behind it
  abbrev mid : State
  mid = after_due c at_end.2.0

  begins_behind : HasBegun word_of value mid found_graph
  begins_behind = begin_behind E word_of value c found_graph found_so at_end.2.0

  abbrev ending : phased.IsAtEnd E word_of value mid found_graph end after_it
  ending = at_end.2.2

  abbrev passed_state : State
  passed_state = phased.passed E word_of value mid found_graph ending.chosen

  -- the same before the pass is numbered
  abbrev begun_state : State
  begun_state = record mid { passes = old.finalizers.passes }

  decides_it : DecidesKeyed E word_of value mid.passes mid.late passed_state.late (parts_in before.objects mid) mid.ephemerons found (parts_left_in after_it.objects after_it.marked passed_state) passed_state.ephemerons mid.queue passed_state.queue
  decides_it = turning.decides E word_of value mid found_graph begins_behind end after_it ending

  -- what comes and goes in the finalizers
  as_pass : Follows begun_state Pass passed_state
  as_pass = (
    whole_queues E word_of value mid.passes before.objects (retain_keys after_it.objects after_it.marked) found begun_state passed_state decides_it refl refl refl refl,
    refl,
    only_go E word_of value (contains mid.late) mid.passes (length mid.queue) (parts_in before.objects mid) mid.ephemerons found (parts_left_in after_it.objects after_it.marked passed_state) passed_state.ephemerons mid.queue passed_state.queue decides_it.0,
  )

  long_so : Cleans mid.passes (is_due Long after_it.marked) passed_state end
  long_so = subst (λ (m : ℕ → Bool). Cleans mid.passes (is_due Long m) passed_state end) (sym ending.marks_are) ending.cleaned

  passes_found : PassesFound E word_of value old.finalizers.state before.objects found end after_it.objects after_it.marked
  passes_found = record {
    begun = begun_state;
    passed = passed_state;
    short = (at_end.2.0, at_end.2.1, refl);
    decided = decides_it.0;
    follows = as_pass;
    long = long_so;
  }

  works_so : Works end new.finalizers.state
  works_so = works_on E word_of value from old begun new before after_it flags single is may seen runs

  marks_so : (a : ℕ) → IsTrue (before.marked a) → IsTrue (after_it.marked a)
  marks_so a on = turning.still_marked E word_of value mid found_graph begins_behind end after_it ending a (at_end.1.settled.more a on)

  closed_so : IsClosed after_it.objects after_it.marked
  closed_so = turning.closed_after E word_of value mid found_graph begins_behind end after_it ending

  pub makes_pass : MakesPass E word_of value old.finalizers.state before new.finalizers.state after_it
  makes_pass = record { passed = end; passes = (found, at_end.1.settled, passes_found); works = works_so; marks = marks_so; closed = closed_so }

  -- without ephemerons nothing else is found
  module _ (none : old.finalizers.state.ephemerons ≡ no_ephemerons) where
    decides_plain : DecidesFor E word_of mid.passes begun_state before.objects before.marked passed_state after_it.objects after_it.marked
    decides_plain =
        let same = at_end.1.none none in
        let normal = normal_of old.finalizers.state.registrations old.finalizers.state.late flags in
        plain_decides E word_of value mid.passes begun_state before.objects before.marked passed_state after_it.objects after_it.marked normal may.zero may.closed none
        (subst (λ (m : ℕ → Bool). DecidesWholeFor E word_of value mid.passes begun_state before.objects m passed_state after_it.objects after_it.marked) same decides_it.0)

    passes_plain : PassesFor E word_of old.finalizers.state before.objects before.marked end after_it.objects after_it.marked
    passes_plain = record {
      begun = begun_state;
      passed = passed_state;
      short = subst (λ (m : ℕ → Bool). Cleans mid.passes (is_due Short m) old.finalizers.state begun_state) (at_end.1.none none) (at_end.2.0, at_end.2.1, refl);
      decided = decides_plain;
      follows = as_pass;
      long = long_so;
    }

    pub makes_plain_pass : MakesPlainPass E word_of old.finalizers.state before new.finalizers.state after_it
    makes_plain_pass = record { passed = end; passes = passes_plain; works = works_so; marks = marks_so; closed = closed_so }

pub runs_young_pass : (E : Type 0) → RunsYoungPass E
runs_young_pass E from word_of value old begun new past before after_it reached is may seen runs ends = makes_pass E word_of value from old begun new before after_it (promised old.finalizers.state past reached).flags (single old.finalizers.state past reached) is may seen runs ends

pub runs_young_plain_pass : (E : Type 0) → RunsYoungPlainPass E
runs_young_plain_pass E from word_of value old begun new past before after_it reached none is may seen runs ends = makes_plain_pass E word_of value from old begun new before after_it (promised old.finalizers.state past reached).flags (single old.finalizers.state past reached) is may seen runs ends none

-- nothing comes before the first number
pub none_old : (s : State) (g : Graph) → AreOldMarked 0 s g
none_old s g = record { registered = λ object r here lt. absurd (omega (arith, lt)); attached = λ number c here lt. absurd (omega (arith, lt)) }

pub runs_pass : (E : Type 0) → RunsPass E
runs_pass E word_of value old begun new past before after_it reached is may runs ends =
    runs_young_pass E 0 word_of value old begun new past before after_it reached is may (none_old old.finalizers.state before) runs ends

pub runs_plain_pass : (E : Type 0) → RunsPlainPass E
runs_plain_pass E word_of value old begun new past before after_it reached none is may runs ends =
    runs_young_plain_pass E 0 word_of value old begun new past before after_it reached none is may (none_old old.finalizers.state before) runs ends
