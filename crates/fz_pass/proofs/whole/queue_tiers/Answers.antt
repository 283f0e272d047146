use Rattle.std.proofs.Common.{◌≡◌, ◌∙◌, ◌+◌, ◌-◌, ◌++◌, ◌&&◌, ℕ, Bool, true, false, Some, [], length, length-append, append-nil, sym, ap, subst, arith, inl}
use Rattle.std.proofs.lemmas.Bool.{both_ways}
use Rattle.std.specs.FinMap.{get, contains_key}
use Rattle.fz_model.specs.State.{Map, Object}
use Rattle.fz_model.specs.declared.answers.Registration.{Registration}
use Rattle.fz_model.specs.Pass.{entries_of}
use Rattle.fz_model.proofs.Sound.{length-entries_of}
use Rattle.fz_pass.specs.Holds.{Ephemerons, IsOfKey, Settles}
use Rattle.fz_pass.specs.Leading.{LedAreMarked}
use Rattle.fz_pass.specs.Marks.{IsClosed, Marks, AreReached}
use Rattle.fz_pass.specs.Picking.{Picks}
use Rattle.fz_pass.specs.Queued.{is_ready}
use Rattle.fz_pass.specs.Tiers.{skips, tiered}
use Rattle.fz_pass.proofs.Gathering.{queued_twice}
use Rattle.fz_pass.proofs.Holding.{settles_none, whole_closed}
use Rattle.fz_pass.proofs.Led.{led_still}
use Rattle.fz_pass.proofs.Marking.{marks_as, marks_none}
use Rattle.fz_pass.proofs.Picked.{picks_as, picks_none, was_registered}
use Rattle.fz_pass.proofs.Tiers.{flag_left, flag_of_round, none_late, ready_flag, same_reached, same_ready}
use Rattle.fz_pass.proofs.whole.queue_tiers.Goals as goal

pub settle-requires : goal.settle-requires
settle-requires g c = record { closed = subst (λ (m : Map Object). IsClosed m (g.H.Host.marked c.queue_unmarked.new.host)) (sym c.queue_unmarked.ensures.objects) c.queue_unmarked.ensures.marked.closed }

pub returns-then-not-is_second-clause-queued : goal.returns-then-not-is_second-clause-queued
returns-then-not-is_second-clause-queued g c =
    let t = g.H.Host in
    let value = g.H.Values.value in
    let objects = t.objects c.args.host.now in
    let Of : ℕ → ℕ → Type 0 = IsOfKey c.args.ephemerons.now.ephemerons in
    let late : ℕ → Bool = tiered c.args.terms.tiers c.args.table.now.late in
    let after = t.marked c.queue_unmarked.new.host in
    let between = t.marked c.settle.new.host in
    let mid = c.queue_unmarked.new.table.content in
    let first = c.queue_unmarked.ensures.queued in
    let settled = subst (λ (m : Map Object). Settles t.place value m Of t.is_exact after between) c.queue_unmarked.ensures.objects c.settle.ensures.settled in
    let none : (a : ℕ) → late a ≡ false = none_late c.args.terms.tiers c.args.table.now.late (sym c.has_second-is_second.ensures ∙ c.if-not-is_second.true) in
    record {
      picks = first.0;
      late_picks = [];
      after = after;
      between = between;
      after_late = between;
      mid = mid;
      queued = first.1 ∙ ap (λ ps. c.args.queue.now.items ++ entries_of c.args.terms.pass c.args.terms.first ps) (sym (append-nil first.0));
      picked = first.2;
      reached = c.queue_unmarked.ensures.marked;
      settled = settled;
      picked_late = picks_none objects (is_ready true late mid.registrations between) mid [] (λ a on. both_ways (late a) (none a) (ready_flag true late between a mid.registrations on));
      reached_late = marks_none t.is_exact objects between (AreReached objects mid.registrations (skips true late between)) (whole_closed t.place value objects Of between settled.whole)
          (λ a (o, r, here, off, leads). absurd (both_ways (late o) (none o) (flag_of_round true late between o off)));
      settled_late = settles_none t.place value objects t.is_exact Of between settled.whole;
    }

pub queue_unmarked-requires-2-clause-registered : goal.queue_unmarked-requires-2-clause-registered
queue_unmarked-requires-2-clause-registered g c = λ a r here.
    let q = c.queue_unmarked.ensures.queued in
    ap (λ (m : Map Object). contains_key m a) (c.settle.ensures.objects ∙ c.queue_unmarked.ensures.objects)
    ∙ c.requires.registered a r (was_registered _ _ a c.args.table.now.content c.queue_unmarked.new.table.content [] q.0 q.2 r here)

pub queue_unmarked-requires-2-clause-closed : goal.queue_unmarked-requires-2-clause-closed
queue_unmarked-requires-2-clause-closed g c =
    let t = g.H.Host in
    subst (λ (m : Map Object). IsClosed m (t.marked c.settle.new.host)) (sym c.settle.ensures.objects)
    (whole_closed t.place g.H.Values.value (t.objects c.queue_unmarked.new.host) (IsOfKey c.args.ephemerons.now.ephemerons) (t.marked c.settle.new.host) c.settle.ensures.settled.whole)

pub queue_unmarked-requires-2-clause-led : goal.queue_unmarked-requires-2-clause-led
queue_unmarked-requires-2-clause-led g c =
    let t = g.H.Host in
    let q = c.queue_unmarked.ensures.queued in
    subst (λ (m : Map Object). LedAreMarked m c.queue_unmarked.new.table.registrations (t.marked c.settle.new.host)) (sym (c.settle.ensures.objects ∙ c.queue_unmarked.ensures.objects))
    (led_still t.is_exact (t.objects c.args.host.now) (t.marked c.args.host.now) (t.marked c.settle.new.host) c.args.table.now.registrations c.queue_unmarked.new.table.registrations (λ a on. c.settle.ensures.settled.more a (c.queue_unmarked.ensures.marked.least a (inl on)))
    (λ a r here. was_registered _ _ a c.args.table.now.content c.queue_unmarked.new.table.content [] q.0 q.2 r here) c.requires.led)

pub settle-requires-2 : goal.settle-requires-2
settle-requires-2 g c = record { closed = subst (λ (m : Map Object). IsClosed m (g.H.Host.marked c.queue_unmarked-2.new.host)) (sym c.queue_unmarked-2.ensures.objects) c.queue_unmarked-2.ensures.marked.closed }

pub returns-clause-queued : goal.returns-clause-queued
returns-clause-queued g c =
    let t = g.H.Host in
    let E = t.is_exact in
    let value = g.H.Values.value in
    let objects = t.objects c.args.host.now in
    let Of : ℕ → ℕ → Type 0 = IsOfKey c.args.ephemerons.now.ephemerons in
    let after = t.marked c.queue_unmarked.new.host in
    let between = t.marked c.settle.new.host in
    let after_late = t.marked c.queue_unmarked-2.new.host in
    let last = t.marked c.settle-2.new.host in
    let tiers = c.args.terms.tiers in
    let table = c.args.table.now.content in
    let mid = c.queue_unmarked.new.table.content in
    let new = c.queue_unmarked-2.new.table.content in
    let late : ℕ → Bool = tiered tiers table.late in
    let left : ℕ → Bool = tiered tiers mid.late in
    let same : t.objects c.settle.new.host ≡ objects = c.settle.ensures.objects ∙ c.queue_unmarked.ensures.objects in
    let first = c.queue_unmarked.ensures.queued in
    let second = c.queue_unmarked-2.ensures.queued in
    let flags : (a : ℕ) (r : Registration) → get mid.registrations a ≡ Some r → left a ≡ late a = λ a r here. ap (λ b. tiers && b) (flag_left objects (is_ready false late table.registrations (t.marked c.args.host.now)) table mid [] first.0 first.2 a r here) in
    let long = ap length first.1 ∙ length-append c.args.queue.now.items _ in
    let count = length-entries_of c.args.terms.pass c.args.terms.first first.0 in
    let number : c.args.terms.first + (c.len.result - c.len-before.result) ≡ c.args.terms.first + length first.0 = omega (arith, long, count, c.len.ensures, c.len-before.ensures, c.args.queue.now.ok, c.queue_unmarked.new.queue.ok) in
    let settled_late = subst (λ (k : Ephemerons). Settles t.place value (t.objects c.queue_unmarked-2.new.host) (IsOfKey k) E after_late last) c.settle.ensures.table c.settle-2.ensures.settled in
    record {
      picks = first.0;
      late_picks = second.0;
      after = after;
      between = between;
      after_late = after_late;
      mid = mid;
      queued = queued_twice c.args.terms.pass c.args.terms.first _ c.args.queue.now.items c.queue_unmarked.new.queue.items c.queue_unmarked-2.new.queue.items first.0 second.0 first.1 second.1 number;
      picked = first.2;
      reached = c.queue_unmarked.ensures.marked;
      settled = subst (λ (m : Map Object). Settles t.place value m Of E after between) c.queue_unmarked.ensures.objects c.settle.ensures.settled;
      picked_late = picks_as objects (is_ready true left mid.registrations between) (is_ready true late mid.registrations between) mid new [] second.0 (same_ready true left late mid.registrations between flags)
          (subst (λ (m : Map Object). Picks m (is_ready true left mid.registrations between) mid new [] second.0) same second.2);
      reached_late = marks_as E objects between after_late (AreReached objects mid.registrations (skips true left between)) (AreReached objects mid.registrations (skips true late between)) (same_reached true left late mid.registrations between flags objects)
          (subst (λ (m : Map Object). Marks E m between after_late (AreReached m mid.registrations (skips true left between))) same c.queue_unmarked-2.ensures.marked);
      settled_late = subst (λ (m : Map Object). Settles t.place value m Of E after_late last) (c.queue_unmarked-2.ensures.objects ∙ same) settled_late;
    }
