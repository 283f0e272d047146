-- What holds in each phase of a pass over a graph, from the short links on. What is marked in this graph is found: its marks are whole.
use Rattle.std.proofs.Common.{◌≡◌, ◌⊎◌, ◌++◌, [], ℕ, Bool, true, false, List, Option, Some, None, IsTrue}
use Rattle.std.specs.FinMap.{get}
use Rattle.std.specs.FinSet.{contains}
use Rattle.fz_table.specs.Tabled.{Content}
use Rattle.fz_model.specs.declared.answers.Pick.{Pick}
use Rattle.fz_model.specs.declared.answers.Registration.{Registration}
use Rattle.fz_model.specs.Reachability.{Leads}
use Rattle.fz_model.specs.State.{Map, Object}
use Rattle.fz_model.specs.Pass.{cleared}
use Rattle.fz_pass.specs.Holds.{Ephemerons, IsOfKey, Settles}
use Rattle.fz_pass.specs.Marks.{Marks, AreReached, with_targets, with_holders}
use Rattle.fz_pass.specs.Picking.{Picks}
use Rattle.fz_pass.specs.Places.{is_held, placed}
use Rattle.fz_pass.specs.Queued.{MarksLed, is_ready}
use Rattle.fz_pass.specs.Tiers.{skips}
use Rattle.fz_model.specs.declared.kinds.LinkKind.TheVariants.{Long}
use Rattle.fz_finalizers.specs.Cleanups.{is_due}
use Rattle.fz_finalizers.specs.Follows.{Cleans}
use Rattle.fz_finalizers.specs.States.{State}
use Rattle.fz_machine.specs.declared.item.Item.{Item}
use Rattle.fz_machine.specs.declared.phase.Moment.{Moment}
use Rattle.fz_machine.specs.declared.phase.Moment.TheVariants as moments
use Rattle.fz_machine.specs.declared.phase.Phase.{Phase}
use Rattle.fz_machine.specs.declared.phase.Phase.TheVariants.{Keys, KeysAgain, Holders, Values, Regions, ShortCleanups, ShortTargets, ShortWords, ShortKeys, ShortKeyWords, Objects, Children, Again, Entries, LateAgain, LatePicks, LongTargets, LongWords, LongKeys, LongKeyWords, ShortHolders, LongHolders, ShortKeyHolders, LongKeyHolders, LongCleanups}
use Rattle.fz_machine.specs.declared.phase.Phase.TheVariants as phase
use Rattle.fz_machine.specs.Graph.{Graph}
use Rattle.fz_machine.specs.Items.{place_of}
use Rattle.fz_machine.specs.Off.{PutOff}
use Rattle.fz_machine.proofs.Among.{Each, OneOf, AreInOrder}
use Rattle.fz_machine.proofs.Chosen.{AreChosen}
use Rattle.fz_machine.proofs.Cleaning.{Cleaning}
use Rattle.fz_machine.proofs.DeadWords.{IsLink, IsLinkAt}
use Rattle.fz_machine.proofs.Honest.{IsFalseOf, object_of, word_in}
use Rattle.fz_machine.proofs.Entered.{IsLate, IsOfEither, IsLateAt, IsEitherAt}
use Rattle.fz_machine.proofs.Led.{AreLed}
use Rattle.fz_machine.proofs.Phasing.{Sifts, Clears, Holds}
use Rattle.fz_machine.proofs.Reaching.{AreReaching}
use Rattle.fz_machine.proofs.Sifting.{IsAt}
use Rattle.fz_machine.proofs.Stated.{state_with, tabled, with_keys}
use Rattle.fz_machine.proofs.Swept.{Begins}
use Rattle.fz_machine.proofs.Waiting.{Looks}

module _ (E : Type 0) (word_of : ℕ → Option ℕ) (value : Map Object → ℕ → Option ℕ) (b : State) (before : Graph) where
  abbrev pub found : ℕ → Bool
  found = before.marked

  -- the objects once the words of dead short links are cleared, and then those of dead short ephemerons
  abbrev pub cleared_links : Map Object
  cleared_links = cleared (placed word_of b.short) found before.objects

  abbrev pub clear : Map Object
  clear = cleared (placed word_of b.ephemerons.short) found cleared_links

  abbrev pub short_left : Map ℕ
  short_left = with_targets b.short found

  abbrev pub keys_left : Map ℕ
  keys_left = with_targets b.ephemerons.short found

  abbrev pub judged : Ephemerons
  judged = record { short = keys_left; long = b.ephemerons.long }

  abbrev pub flags : ℕ → Bool
  flags = contains b.late

  -- the marks become whole
  abbrev pub Settled : (ℕ → Bool) → (ℕ → Bool) → Type 0
  Settled = Settles word_of value clear (IsOfKey judged) E

  -- ---- what the phases that mark have made

  pub record Leading : Type 0 where
    pub first_led : ℕ → Bool
    pub led : ℕ → Bool
    pub marks : MarksLed E clear found first_led b.registrations
    pub settled : Settled first_led led

  pub record Picked : Type 0 where
    pub leading : Leading
    pub table : Content
    pub picks : List Pick
    pub reached : ℕ → Bool
    pub mid : ℕ → Bool
    pub are : Picks clear (is_ready false flags b.registrations leading.led) (tabled b) table [] picks
    pub marks : Marks E clear leading.led reached (AreReached clear b.registrations (skips false flags leading.led))
    pub settled : Settled reached mid

  pub record PickedBoth : Type 0 where
    pub first : Picked
    pub table : Content
    pub late_picks : List Pick
    pub reached : ℕ → Bool
    pub kept : ℕ → Bool
    pub are : Picks clear (is_ready true flags first.table.registrations first.mid) first.table table [] late_picks
    pub marks : Marks E clear first.mid reached (AreReached clear first.table.registrations (skips true flags first.mid))
    pub settled : Settled reached kept

  -- the finalizers before objects are asked about, with these links and short ephemerons
  abbrev pub begun_with : Map ℕ → Map ℕ → State
  begun_with short keys = state_with (with_keys b (record { short = keys; long = b.ephemerons.long })) short b.long b.registrations b.late []

  -- the finalizers after picks
  abbrev pub picked_with : Content → List Pick → State
  picked_with now picks = state_with (with_keys b judged) short_left b.long now.registrations now.late picks

  -- the finalizers after all picks, with these links and ephemerons
  abbrev pub after_picks : PickedBoth → Map ℕ → Map ℕ → Map ℕ → Map ℕ → State
  after_picks c short long short_keys long_keys =
      state_with (with_keys b (record { short = short_keys; long = long_keys })) short long c.table.registrations c.table.late (c.first.picks ++ c.late_picks)

  abbrev pub last_links : PickedBoth → Map Object
  last_links c = cleared (placed word_of b.long) c.kept clear

  abbrev pub last : PickedBoth → Map Object
  last c = cleared (placed word_of b.ephemerons.long) c.kept (last_links c)

  abbrev pub long_left : PickedBoth → Map ℕ
  long_left c = with_targets b.long c.kept

  abbrev pub long_keys_left : PickedBoth → Map ℕ
  long_keys_left c = with_targets b.ephemerons.long c.kept

  abbrev pub short_held : PickedBoth → Map ℕ
  short_held c = with_holders word_of (last c) short_left c.kept

  abbrev pub long_held : PickedBoth → Map ℕ
  long_held c = with_holders word_of (last c) (long_left c) c.kept

  abbrev pub keys_held : PickedBoth → Map ℕ
  keys_held c = with_holders word_of (last c) keys_left c.kept

  abbrev pub long_keys_held : PickedBoth → Map ℕ
  long_keys_held c = with_holders word_of (last c) (long_keys_left c) c.kept

  -- ---- the phases that mark

  abbrev pub IsUnfound : Item → Type 0
  IsUnfound i = IsOfEither b.registrations b.late i × (found i.object ≡ false)

  pub record LeadsOn (s : State) (kept left : List Item) (h : Graph) : Type 0 where
    pub state : s ≡ begun_with short_left keys_left
    pub are : AreLed E word_of value clear b.registrations b.late found left h
    pub kept_are : Each IsUnfound kept
    pub left_are : Each IsUnfound left
    pub rest : (object word : ℕ) → IsEitherAt b.registrations b.late object word → found object ≡ false → OneOf (IsAt object word) kept ⊎ OneOf (IsAt object word) left

  abbrev pub IsUnled : Leading → Item → Type 0
  IsUnled leading i = IsOfEither b.registrations b.late i × (leading.led i.object ≡ false)

  pub record PicksOn (s : State) (kept left : List Item) (h : Graph) : Type 0 where
    pub leading : Leading
    pub state : s ≡ begun_with short_left keys_left
    pub are : AreReaching E clear b.registrations leading.led (skips false flags leading.led) left h
    pub kept_are : Each (IsUnled leading) kept
    pub left_are : Each (IsUnled leading) left
    pub rest : (object word : ℕ) → IsEitherAt b.registrations b.late object word → leading.led object ≡ false → OneOf (IsAt object word) kept ⊎ OneOf (IsAt object word) left

  -- they are queued, once all are marked
  pub record EntersOn (s : State) (kept left : List Item) (h : Graph) : Type 0 where
    pub leading : Leading
    pub now : Content
    pub picks : List Pick
    pub state : s ≡ picked_with now picks
    pub are : AreChosen E clear (tabled b) leading.led false flags 0 now picks left h
    pub reached : (o : ℕ) (r : Registration) → get b.registrations o ≡ Some r → skips false flags leading.led o ≡ false → (a : ℕ) → Leads clear o a → IsTrue (h.marked a)
    pub kept_are : Each (λ i. IsLate b.registrations b.late i × (leading.led i.object ≡ false)) kept
    pub left_are : Each (IsUnled leading) left
    pub rest : (object word : ℕ) → IsLateAt b.registrations b.late object word → leading.led object ≡ false → OneOf (IsAt object word) kept ⊎ OneOf (IsAt object word) left
    pub ordered : AreInOrder place_of (kept ++ left)

  pub record PicksLate (s : State) (left : List Item) (h : Graph) : Type 0 where
    pub first : Picked
    pub now : Content
    pub late_picks : List Pick
    pub state : s ≡ picked_with now (first.picks ++ late_picks)
    pub are : AreChosen E clear first.table first.mid true flags 256 now late_picks left h
    pub left_are : Each (λ i. IsLate b.registrations b.late i × (first.mid i.object ≡ false)) left
    pub ordered : AreInOrder place_of left

  abbrev pub passed : PickedBoth → State
  passed c = after_picks c (short_held c) (long_held c) (keys_held c) (long_keys_held c)

  -- ---- while the marks become whole, a list is set aside

  pub record SettlesLed (s : State) (aside : List Item) : Type 0 where
    pub marked : ℕ → Bool
    pub marks : MarksLed E clear found marked b.registrations
    pub state : s ≡ begun_with short_left keys_left
    pub aside_are : Each (IsOfEither b.registrations b.late) aside
    pub rest : (object word : ℕ) → IsEitherAt b.registrations b.late object word → found object ≡ false → OneOf (IsAt object word) aside

  pub record SettlesPicked (s : State) (aside : List Item) : Type 0 where
    pub leading : Leading
    pub table : Content
    pub picks : List Pick
    pub marked : ℕ → Bool
    pub are : Picks clear (is_ready false flags b.registrations leading.led) (tabled b) table [] picks
    pub marks : Marks E clear leading.led marked (AreReached clear b.registrations (skips false flags leading.led))
    pub state : s ≡ picked_with table picks
    pub aside_are : Each (IsLate b.registrations b.late) aside
    pub rest : (object word : ℕ) → IsLateAt b.registrations b.late object word → leading.led object ≡ false → OneOf (IsAt object word) aside
    pub ordered : AreInOrder place_of aside

  pub record SettlesLast (s : State) : Type 0 where
    pub first : Picked
    pub table : Content
    pub late_picks : List Pick
    pub marked : ℕ → Bool
    pub are : Picks clear (is_ready true flags first.table.registrations first.mid) first.table table [] late_picks
    pub marks : Marks E clear first.mid marked (AreReached clear first.table.registrations (skips true flags first.mid))
    pub state : s ≡ picked_with table (first.picks ++ late_picks)

  abbrev LooksFrom : (ℕ → Bool) → Phase → List Item → List Item → PutOff → Graph → Type 0
  LooksFrom marked = Looks E word_of value clear judged marked

  -- before everything else they have become whole already
  abbrev pub IsSettling : Moment → Phase → State → List Item → List Item → List Item → PutOff → Graph → Type 0
  IsSettling moments.First phase s kept left aside off h = ⊥
  IsSettling moments.Led phase s kept left aside off h = (w : SettlesLed s aside) × LooksFrom w.marked phase kept left off h
  IsSettling moments.Picked phase s kept left aside off h = (w : SettlesPicked s aside) × LooksFrom w.marked phase kept left off h
  IsSettling moments.Last phase s kept left aside off h = (w : SettlesLast s) × LooksFrom w.marked phase kept left off h

  -- ---- all phases behind the first

  -- items of which it is known that they aren't marked, or that their words aren't held, are so
  abbrev pub AreUnmarked : (ℕ → Bool) → List Item → Type 0
  AreUnmarked marked = Each (IsFalseOf marked object_of)

  abbrev pub AreUnheld : PickedBoth → List Item → Type 0
  AreUnheld c = Each (IsFalseOf (λ n. is_held word_of (last c) c.kept n) word_in)

  abbrev pub IsIn : Phase → State → List Item → List Item → List Item → PutOff → Graph → Type 0
  IsIn (Keys moment) s kept left aside off h = IsSettling moment (Keys moment) s kept left aside off h
  IsIn (KeysAgain moment) s kept left aside off h = IsSettling moment (KeysAgain moment) s kept left aside off h
  IsIn (Holders moment) s kept left aside off h = IsSettling moment (Holders moment) s kept left aside off h
  IsIn (Values moment) s kept left aside off h = IsSettling moment (Values moment) s kept left aside off h
  IsIn (Regions sweep) s kept left aside off h = ⊥
  IsIn ShortCleanups s kept left aside off h = ⊥
  IsIn ShortTargets s kept left aside off h =
      Sifts E word_of value (begun_with b.short b.ephemerons.short) before.objects found (IsLink word_of before.objects b.short found) (IsLinkAt word_of before.objects b.short found) s kept left h
      × AreUnmarked found left
  IsIn ShortWords s kept left aside off h = Clears E word_of value (λ links. begun_with links b.ephemerons.short) before.objects b.short found s left h
  IsIn ShortKeys s kept left aside off h =
      Sifts E word_of value (begun_with short_left b.ephemerons.short) cleared_links found (IsLink word_of cleared_links b.ephemerons.short found) (IsLinkAt word_of cleared_links b.ephemerons.short found) s kept left h
  IsIn ShortKeyWords s kept left aside off h = Clears E word_of value (λ keys. begun_with short_left keys) cleared_links b.ephemerons.short found s left h
  IsIn Objects s kept left aside off h = Sifts E word_of value (begun_with short_left keys_left) clear found (IsOfEither b.registrations b.late) (IsEitherAt b.registrations b.late) s kept left h × AreUnmarked found left
  IsIn Children s kept left aside off h = LeadsOn s kept left h
  IsIn Again s kept left aside off h = (l : Leading) × Sifts E word_of value (begun_with short_left keys_left) clear l.led (IsOfEither b.registrations b.late) (IsEitherAt b.registrations b.late) s kept left h
  IsIn phase.Picks s kept left aside off h = PicksOn s kept left h
  IsIn Entries s kept left aside off h = EntersOn s kept left h
  IsIn LateAgain s kept left aside off h =
      (c : Picked) × Sifts E word_of value (picked_with c.table c.picks) clear c.mid (IsLate b.registrations b.late) (IsLateAt b.registrations b.late) s kept left h × AreInOrder place_of (kept ++ left)
  IsIn LatePicks s kept left aside off h = PicksLate s left h
  IsIn LongTargets s kept left aside off h =
      (c : PickedBoth) × Sifts E word_of value (after_picks c short_left b.long keys_left b.ephemerons.long) clear c.kept (IsLink word_of clear b.long c.kept) (IsLinkAt word_of clear b.long c.kept) s kept left h
      × AreUnmarked c.kept left
  IsIn LongWords s kept left aside off h = (c : PickedBoth) × Clears E word_of value (λ links. after_picks c short_left links keys_left b.ephemerons.long) clear b.long c.kept s left h
  IsIn LongKeys s kept left aside off h =
      (c : PickedBoth) × Sifts E word_of value (after_picks c short_left (long_left c) keys_left b.ephemerons.long) (last_links c) c.kept (IsLink word_of (last_links c) b.ephemerons.long c.kept) (IsLinkAt word_of (last_links c) b.ephemerons.long c.kept) s kept left h
  IsIn LongKeyWords s kept left aside off h = (c : PickedBoth) × Clears E word_of value (λ keys. after_picks c short_left (long_left c) keys_left keys) (last_links c) b.ephemerons.long c.kept s left h
  IsIn ShortHolders s kept left aside off h = (c : PickedBoth) × Holds E word_of value (λ links. after_picks c links (long_left c) keys_left (long_keys_left c)) (last c) short_left c.kept s left h × AreUnheld c left
  IsIn LongHolders s kept left aside off h = (c : PickedBoth) × Holds E word_of value (λ links. after_picks c (short_held c) links keys_left (long_keys_left c)) (last c) (long_left c) c.kept s left h × AreUnheld c left
  IsIn ShortKeyHolders s kept left aside off h = (c : PickedBoth) × Holds E word_of value (λ keys. after_picks c (short_held c) (long_held c) keys (long_keys_left c)) (last c) keys_left c.kept s left h
  IsIn LongKeyHolders s kept left aside off h = (c : PickedBoth) × Holds E word_of value (λ keys. after_picks c (short_held c) (long_held c) (keys_held c) keys) (last c) (long_keys_left c) c.kept s left h
  IsIn LongCleanups s kept left aside off h = (c : PickedBoth) × Cleaning E word_of value Long (passed c) (last c) c.kept s left h × AreUnmarked c.kept left

  -- ---- the end

  pub record IsAtEnd (s : State) (h : Graph) : Type 0 where
    pub chosen : PickedBoth
    pub cleaned : Cleans b.passes (is_due Long chosen.kept) (passed chosen) s
    pub objects_are : h.objects ≡ last chosen
    pub marks_are : h.marked ≡ chosen.kept

  -- the next phase, whatever it lists, or the end
  abbrev pub IsAfter : ℕ → Option Phase → State → List Item → List Item → PutOff → Graph → Type 0
  IsAfter from None s kept aside off h = IsAtEnd s h
  IsAfter from (Some p) s kept aside off h = Begins word_of IsIn from p s kept aside off h
