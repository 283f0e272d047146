-- What a host sees to before a pass, with the words of dead short links and of dead short ephemerons cleared.
use Rattle.std.proofs.Common.{◌≡◌, ◌≢◌, ◌<◌, ◌≤◌, ⊎_elim, ◌^◌, ◌∙◌, [], ℕ, Bool, true, false, Some, None, refl, ap, inl, IsTrue, Option}
use Rattle.std.proofs.lemmas.Bool.{both_ways, cases_lt}
use Rattle.std.specs.FinMap.{get}
use Rattle.std.specs.FinSet.{contains}
use Rattle.fz_model.specs.declared.answers.Pick.{Pick}
use Rattle.fz_model.specs.declared.answers.Registration.{Registration}
use Rattle.fz_model.specs.Memory.{points}
use Rattle.fz_model.specs.State.{Map, Object}
use Rattle.fz_model.specs.Pass.{cleared, is_dead}
use Rattle.fz_model.proofs.Maps.{filled_back}
use Rattle.fz_model.proofs.SeenKept.{points-filled}
use Rattle.fz_table.specs.Tabled.{Content}
use Rattle.fz_pass.specs.Flagged.{AreNormal}
use Rattle.fz_pass.specs.Leading.{LedAreMarked}
use Rattle.fz_pass.specs.Marks.{IsClosed, AreRegistered, AreTargets}
use Rattle.fz_pass.specs.Picking.{IsReady}
use Rattle.fz_pass.specs.Places.{placed}
use Rattle.fz_pass.specs.Queued.{is_ready}
use Rattle.fz_pass.proofs.Led.{led_are_marked, led_still}
use Rattle.fz_pass.proofs.Passed.{registered_still, targets_still, closed_still}
use Rattle.fz_pass.proofs.Picked.{all_map, was_registered, without_other}
use Rattle.fz_pass.proofs.Tiers.{ready_flag}
use Rattle.fz_finalizers.specs.declared.cleanups.Attached.{Attached}
use Rattle.fz_finalizers.specs.Promises.{AreSingle}
use Rattle.fz_finalizers.specs.States.{State, AreFlags}
use Rattle.fz_finalizers.proofs.Flags.{normal_of}
use Rattle.fz_machine.specs.Graph.{AreOldMarked, Graph, MayBegin}
use Rattle.fz_machine.proofs.Phased.{clear, cleared_links, Leading, Picked}
use Rattle.fz_machine.proofs.Stated.{tabled}

-- what is unmarked comes no earlier
no_earlier : (number from : ℕ) (on : Bool) → (number < from → IsTrue on) → on ≡ false → from ≤ number
no_earlier number from on marked off = ⊎_elim (λ (lt : number < from). absurd (both_ways on off (marked lt))) (λ (ge : from ≤ number). ge) (cases_lt number from)

pub record HasBegun (word_of : ℕ → Option ℕ) (value : Map Object → ℕ → Option ℕ) (b : State) (before : Graph) : Type 0 where
  pub may : MayBegin word_of value b before
  pub open may use *
  pub flags : AreFlags b.registrations b.late
  pub single : AreSingle b
  pub from : ℕ
  pub seen : AreOldMarked from b before

module _ (E : Type 0) (word_of : ℕ → Option ℕ) (value : Map Object → ℕ → Option ℕ) (b : State) (before : Graph) (begin : HasBegun word_of value b before) where
  abbrev begun : Map Object
  begun = cleared_links E word_of value b before

  abbrev keys : Map ℕ
  keys = placed word_of b.ephemerons.short

  -- what is unmarked is looked at
  pub young_registered : (object : ℕ) (r : Registration) → get b.registrations object ≡ Some r → before.marked object ≡ false → begin.from ≤ r.number
  young_registered object r here off = no_earlier r.number begin.from (before.marked object) (begin.seen.registered object r here) off

  pub young_attached : (marked : ℕ → Bool) → ((a : ℕ) → IsTrue (before.marked a) → IsTrue (marked a)) → (number : ℕ) (c : Attached) → get b.cleanups number ≡ Some c → marked c.object ≡ false → begin.from ≤ number
  young_attached marked more number c here off = no_earlier number begin.from (marked c.object) (λ lt. more c.object (begin.seen.attached number c here lt)) off

  pub registered : AreRegistered (clear E word_of value b before) b.registrations
  registered = registered_still begun keys before.marked b.registrations (registered_still before.objects (placed word_of b.short) before.marked b.registrations begin.registered)

  pub normal : AreNormal b.registrations (contains b.late)
  normal = normal_of b.registrations b.late begin.flags

  pub short_key_targets : AreTargets begun b.ephemerons.short
  short_key_targets = targets_still before.objects (placed word_of b.short) before.marked b.ephemerons.short begin.short_keys

  pub long_targets : AreTargets (clear E word_of value b before) b.long
  long_targets = targets_still begun keys before.marked b.long (targets_still before.objects (placed word_of b.short) before.marked b.long begin.long)

  -- once the words of dead long links are cleared, too
  pub long_key_targets : (kept : ℕ → Bool) → AreTargets (cleared (placed word_of b.long) kept (clear E word_of value b before)) b.ephemerons.long
  long_key_targets kept =
      targets_still (clear E word_of value b before) (placed word_of b.long) kept b.ephemerons.long
      (targets_still begun keys before.marked b.ephemerons.long (targets_still before.objects (placed word_of b.short) before.marked b.ephemerons.long begin.long_keys))

  nowhere : points begun 0 ≡ None
  nowhere = points-filled (is_dead before.objects (placed word_of b.short) before.marked) 0 before.objects 0 ∙ begin.zero

  pub still_nowhere : points (clear E word_of value b before) 0 ≡ None
  still_nowhere = points-filled (is_dead begun keys before.marked) 0 begun 0 ∙ nowhere

  pub closed : IsClosed (clear E word_of value b before) before.marked
  closed = closed_still begun keys before.marked nowhere (closed_still before.objects (placed word_of b.short) before.marked begin.zero begin.closed)

  pub births : (a : ℕ) (o : Object) → get (clear E word_of value b before) a ≡ Some o → o.birth ≡ 0
  births a o here =
      let mid = filled_back (is_dead begun keys before.marked) 0 begun a o here in
      let old = filled_back (is_dead before.objects (placed word_of b.short) before.marked) 0 before.objects a mid.0 mid.1 in
      ap (λ (x : Object). x.birth) mid.2 ∙ ap (λ (x : Object). x.birth) old.2 ∙ begin.births a old.0 old.1

  pub starts : (a : ℕ) (r : Registration) → get b.registrations a ≡ Some r → a < 2 ^ 64
  starts a r here = begin.starts a (begin.registered a r here)

  -- a short ephemeron's word is no long one's, and the other way round
  pub only_short : (word key : ℕ) → get b.ephemerons.short word ≡ Some key → get b.ephemerons.long word ≡ None
  only_short word key here = by (get b.ephemerons.long word) refl
    where
      by : (o : Option ℕ) → get b.ephemerons.long word ≡ o → o ≡ None
      by None none = refl
      by (Some other) there = absurd (begin.single word key other here there)

  pub only_long : (word key : ℕ) → get b.ephemerons.long word ≡ Some key → get b.ephemerons.short word ≡ None
  only_long word key here = by (get b.ephemerons.short word) refl
    where
      by : (o : Option ℕ) → get b.ephemerons.short word ≡ o → o ≡ None
      by None none = refl
      by (Some other) there = absurd (begin.single word other key there here)

  -- what the first round leaves
  pub was_there : (c : Picked E word_of value b before) (a : ℕ) (r : Registration) → get c.table.registrations a ≡ Some r → get b.registrations a ≡ Some r
  was_there c a r here = was_registered (clear E word_of value b before) _ a (tabled b) c.table [] c.picks c.are r here

  pub late_starts : (c : Picked E word_of value b before) (a : ℕ) (r : Registration) → get c.table.registrations a ≡ Some r → a < 2 ^ 64
  late_starts c a r here = starts a r (was_there c a r here)

  pub late_there : (c : Picked E word_of value b before) (a : ℕ) → contains b.late a ≡ true → get c.table.registrations a ≡ get b.registrations a
  late_there c a on =
      ap (λ (t : Content). get t.registrations a) c.are.table_is
      ∙ without_other b.registrations c.are.picks a
      (all_map (IsReady (clear E word_of value b before) b.registrations (is_ready false (contains b.late) b.registrations c.leading.led)) (λ (p : Pick). p.obj ≢ a)
      (λ p is same. both_ways (contains b.late p.obj) (ready_flag false (contains b.late) c.leading.led p.obj b.registrations is.ready) (ap (contains b.late) same ∙ on)) c.are.picks c.are.picked.each)

  -- marks stay
  pub found_led : (l : Leading E word_of value b before) (a : ℕ) → IsTrue (before.marked a) → IsTrue (l.led a)
  found_led l a on = l.settled.more a (l.marks.least a (inl on))

  pub led_picked : (c : Picked E word_of value b before) (a : ℕ) → IsTrue (c.leading.led a) → IsTrue (c.mid a)
  led_picked c a on = c.settled.more a (c.marks.least a (inl on))

  -- what unmarked objects lead to is marked
  pub others_led : (l : Leading E word_of value b before) → LedAreMarked (clear E word_of value b before) b.registrations l.led
  others_led l = led_still E (clear E word_of value b before) l.first_led l.led b.registrations b.registrations l.settled.more (λ a r here. here)
      (led_are_marked E (clear E word_of value b before) before.marked l.first_led b.registrations registered l.marks)

  pub late_led : (c : Picked E word_of value b before) → LedAreMarked (clear E word_of value b before) c.table.registrations c.mid
  late_led c = led_still E (clear E word_of value b before) c.leading.led c.mid b.registrations c.table.registrations (led_picked c) (was_there c) (others_led c.leading)

  -- what is unmarked later was unmarked before
  pub not_before : (old new : ℕ → Bool) → ((a : ℕ) → IsTrue (old a) → IsTrue (new a)) → (a : ℕ) → new a ≡ false → old a ≡ false
  not_before old new more a off = at (old a) refl
    where
      at : (on : Bool) → old a ≡ on → on ≡ false
      at false is = refl
      at true is = absurd (both_ways (new a) off (more a is))
