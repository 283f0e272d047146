-- The parts of the pass fit together.
use Rattle.std.proofs.Common.{◌≡◌, ◌∙◌, ℕ, Bool, None, sym, ap, subst}
use Rattle.std.specs.FinMap.{retain_keys}
use Rattle.fz_model.specs.State.{Map, Object}
use Rattle.fz_model.specs.Memory.{points}
use Rattle.fz_model.specs.Pass.{cleared, is_dead}
use Rattle.fz_model.proofs.SeenKept.{points-filled}
use Rattle.fz_pass.specs.Decides.{Parts, parts_left}
use Rattle.fz_pass.specs.Holds.{Ephemerons, IsOfKey, Settles}
use Rattle.fz_pass.specs.Marks.{IsClosed, AreRegistered, AreTargets, with_targets, with_holders}
use Rattle.fz_pass.specs.Places.{placed, links_held}
use Rattle.fz_pass.specs.Queued.{MarksLed}
use Rattle.fz_pass.specs.QueuedWhole.{QueuesWhole}
use Rattle.fz_pass.specs.Tiers.{tiered}
use Rattle.fz_pass.specs.Whole.{ephemerons_judged, objects_judged}
use Rattle.fz_pass.proofs.Holding.{whole_closed}
use Rattle.fz_pass.proofs.Passed.{dropped_twice, registered_still, targets_still, closed_still}
use Rattle.fz_pass.proofs.Wholes.{decided}
use Rattle.fz_pass.proofs.whole.decide_whole.Goals as goal

pub clear_short-requires : goal.clear_short-requires
clear_short-requires g c =
    let t = g.H.Host in
    let objects = t.objects c.args.host.now in
    let found = t.marked c.args.host.now in
    let words = placed t.place c.args.short.now.links in
    let first : t.objects c.clear_dead.new.host ≡ cleared words found objects = c.clear_dead.ensures.objects in
    record {
      keys = subst (λ (m : Map Object). AreTargets m c.args.ephemerons.now.ephemerons.short) (sym first)
          (targets_still objects words found c.args.ephemerons.now.ephemerons.short c.requires.short_keys);
    }

pub mark_led-requires-clause-registered : goal.mark_led-requires-clause-registered
mark_led-requires-clause-registered g c =
    let t = g.H.Host in
    let objects = t.objects c.args.host.now in
    let found = t.marked c.args.host.now in
    let words = placed t.place c.args.short.now.links in
    let all = c.args.table.now.registrations in
    let first : t.objects c.clear_dead.new.host ≡ cleared words found objects = c.clear_dead.ensures.objects in
    let second : t.objects c.clear_short.new.host ≡ cleared (placed t.place c.args.ephemerons.now.ephemerons.short) (t.marked c.clear_dead.new.host) (cleared words found objects) =
    c.clear_short.ensures.objects ∙ ap (cleared (placed t.place c.args.ephemerons.now.ephemerons.short) (t.marked c.clear_dead.new.host)) first in
    subst (λ (m : Map Object). AreRegistered m all) (sym second)
    (registered_still (cleared words found objects) (placed t.place c.args.ephemerons.now.ephemerons.short) (t.marked c.clear_dead.new.host) all (registered_still objects words found all c.requires.registered))

pub mark_led-requires-clause-closed : goal.mark_led-requires-clause-closed
mark_led-requires-clause-closed g c =
    let t = g.H.Host in
    let objects = t.objects c.args.host.now in
    let found = t.marked c.args.host.now in
    let words = placed t.place c.args.short.now.links in
    let keyed = placed t.place c.args.ephemerons.now.ephemerons.short in
    let begun : Map Object = cleared words found objects in
    let first : t.objects c.clear_dead.new.host ≡ begun = c.clear_dead.ensures.objects in
    let still : t.marked c.clear_dead.new.host ≡ found = c.clear_dead.ensures.marked in
    let second : t.objects c.clear_short.new.host ≡ cleared keyed found begun = c.clear_short.ensures.objects ∙ (λ i. cleared keyed (still i) (first i)) in
    let closed = whole_closed t.place g.H.Values.value objects (IsOfKey c.args.ephemerons.now.ephemerons) found c.requires.whole in
    let nowhere = points-filled (is_dead objects words found) 0 objects 0 ∙ c.requires.zero in
    subst (IsClosed (t.objects c.clear_short.new.host)) (sym (c.clear_short.ensures.marked ∙ still))
    (subst (λ (m : Map Object). IsClosed m found) (sym second) (closed_still begun keyed found nowhere (closed_still objects words found c.requires.zero closed)))

pub settle-requires : goal.settle-requires
settle-requires g c = record { closed = subst (λ (m : Map Object). IsClosed m (g.H.Host.marked c.mark_led.new.host)) (sym c.mark_led.ensures.objects) c.mark_led.ensures.marked.closed }

pub queue_tiers-requires-clause-registered : goal.queue_tiers-requires-clause-registered
queue_tiers-requires-clause-registered g c =
    let t = g.H.Host in
    let objects = t.objects c.args.host.now in
    let found = t.marked c.args.host.now in
    let words = placed t.place c.args.short.now.links in
    let all = c.args.table.now.registrations in
    let first : t.objects c.clear_dead.new.host ≡ cleared words found objects = c.clear_dead.ensures.objects in
    let second : t.objects c.clear_short.new.host ≡ cleared (placed t.place c.args.ephemerons.now.ephemerons.short) (t.marked c.clear_dead.new.host) (cleared words found objects) =
    c.clear_short.ensures.objects ∙ ap (cleared (placed t.place c.args.ephemerons.now.ephemerons.short) (t.marked c.clear_dead.new.host)) first in
    subst (λ (m : Map Object). AreRegistered m all) (sym (c.settle.ensures.objects ∙ c.mark_led.ensures.objects ∙ second))
    (registered_still (cleared words found objects) (placed t.place c.args.ephemerons.now.ephemerons.short) (t.marked c.clear_dead.new.host) all (registered_still objects words found all c.requires.registered))

pub queue_tiers-requires-clause-closed : goal.queue_tiers-requires-clause-closed
queue_tiers-requires-clause-closed g c =
    let t = g.H.Host in
    subst (λ (m : Map Object). IsClosed m (t.marked c.settle.new.host)) (sym c.settle.ensures.objects)
    (whole_closed t.place g.H.Values.value (t.objects c.mark_led.new.host) (IsOfKey c.clear_short.new.self.ephemerons) (t.marked c.settle.new.host) c.settle.ensures.settled.whole)

pub clear_dead-requires-2 : goal.clear_dead-requires-2
clear_dead-requires-2 g c =
    let t = g.H.Host in
    let objects = t.objects c.args.host.now in
    let found = t.marked c.args.host.now in
    let words = placed t.place c.args.short.now.links in
    let longs = c.args.long.now.links in
    let first : t.objects c.clear_dead.new.host ≡ cleared words found objects = c.clear_dead.ensures.objects in
    let second : t.objects c.clear_short.new.host ≡ cleared (placed t.place c.args.ephemerons.now.ephemerons.short) (t.marked c.clear_dead.new.host) (cleared words found objects) =
    c.clear_short.ensures.objects ∙ ap (cleared (placed t.place c.args.ephemerons.now.ephemerons.short) (t.marked c.clear_dead.new.host)) first in
    record {
      targets = subst (λ (m : Map Object). AreTargets m longs) (sym (c.queue_tiers.ensures.objects ∙ c.settle.ensures.objects ∙ c.mark_led.ensures.objects ∙ second))
          (targets_still (cleared words found objects) (placed t.place c.args.ephemerons.now.ephemerons.short) (t.marked c.clear_dead.new.host) longs (targets_still objects words found longs c.requires.long));
    }

pub clear_long-requires : goal.clear_long-requires
clear_long-requires g c =
    let t = g.H.Host in
    let objects = t.objects c.args.host.now in
    let found = t.marked c.args.host.now in
    let words = placed t.place c.args.short.now.links in
    let longs = c.args.ephemerons.now.ephemerons.long in
    let keyed = placed t.place c.args.ephemerons.now.ephemerons.short in
    let second : t.objects c.clear_short.new.host ≡ cleared keyed (t.marked c.clear_dead.new.host) (cleared words found objects) =
    c.clear_short.ensures.objects ∙ ap (cleared keyed (t.marked c.clear_dead.new.host)) (c.clear_dead.ensures.objects) in
    let judged : Map Object = cleared keyed (t.marked c.clear_dead.new.host) (cleared words found objects) in
    let third : t.objects c.queue_tiers.new.host ≡ judged = c.queue_tiers.ensures.objects ∙ c.settle.ensures.objects ∙ c.mark_led.ensures.objects ∙ second in
    let last : t.objects c.clear_dead-2.new.host ≡ cleared (placed t.place c.args.long.now.links) (t.marked c.queue_tiers.new.host) judged =
    c.clear_dead-2.ensures.objects ∙ ap (cleared (placed t.place c.args.long.now.links) (t.marked c.queue_tiers.new.host)) third in
    let same : c.queue_tiers.new.ephemerons.ephemerons.long ≡ longs =
    ap (λ (e : Ephemerons). e.long) (c.queue_tiers.ensures.ephemerons ∙ c.settle.ensures.table ∙ c.clear_short.ensures.table) in
    record {
      keys = subst (λ (m : Map ℕ). AreTargets (t.objects c.clear_dead-2.new.host) m) (sym same)
          (subst (λ (m : Map Object). AreTargets m longs) (sym last)
          (targets_still judged (placed t.place c.args.long.now.links) (t.marked c.queue_tiers.new.host) longs
          (targets_still (cleared words found objects) keyed (t.marked c.clear_dead.new.host) longs (targets_still objects words found longs c.requires.long_keys))));
    }

pub returns-clause-decided : goal.returns-clause-decided
returns-clause-decided g c =
    let t = g.H.Host in
    let E = t.is_exact in
    let place = t.place in
    let value = g.H.Values.value in
    let objects = t.objects c.args.host.now in
    let found = t.marked c.args.host.now in
    let first_led = t.marked c.mark_led.new.host in
    let led = t.marked c.settle.new.host in
    let kept = t.marked c.queue_tiers.new.host in
    let shorts = c.args.short.now.links in
    let longs = c.args.long.now.links in
    let table = c.args.table.now.content in
    let new_table = c.queue_tiers.new.table.content in
    let late : ℕ → Bool = tiered c.args.terms.tiers table.late in
    let queue = c.args.queue.now.items in
    let keyed = c.args.ephemerons.now.ephemerons in
    let old : Parts = record { objects = objects; registrations = table.registrations; short = shorts; long = longs } in
    let begun : Map Object = cleared (placed place shorts) found objects in
    let judged : Map Object = objects_judged place value old keyed found in
    let left_keyed : Ephemerons = ephemerons_judged place value old keyed found in
    let found_is : t.marked c.clear_dead.new.host ≡ found = c.clear_dead.ensures.marked in
    let objects1 : t.objects c.clear_dead.new.host ≡ begun = c.clear_dead.ensures.objects in
    let objects2 : t.objects c.clear_short.new.host ≡ judged = c.clear_short.ensures.objects ∙ (λ i. cleared (placed place keyed.short) (found_is i) (objects1 i)) in
    let found2 : t.marked c.clear_short.new.host ≡ found = c.clear_short.ensures.marked ∙ found_is in
    let keyed2 : c.clear_short.new.self.ephemerons ≡ left_keyed = c.clear_short.ensures.table ∙ (λ i. record keyed { short = with_targets keyed.short (found_is i) }) in
    let leading = subst (λ (m : ℕ → Bool). MarksLed E judged m first_led table.registrations) found2
    (subst (λ (m : Map Object). MarksLed E m (t.marked c.clear_short.new.host) first_led table.registrations) objects2 c.mark_led.ensures.marked) in
    let objects3 : t.objects c.mark_led.new.host ≡ judged = c.mark_led.ensures.objects ∙ objects2 in
    let settled = subst (λ (k : Ephemerons). Settles place value judged (IsOfKey k) E first_led led) keyed2
    (subst (λ (m : Map Object). Settles place value m (IsOfKey c.clear_short.new.self.ephemerons) E first_led led) objects3 c.settle.ensures.settled) in
    let objects4 : t.objects c.settle.new.host ≡ judged = c.settle.ensures.objects ∙ objects3 in
    let keyed3 : c.settle.new.self.ephemerons ≡ left_keyed = c.settle.ensures.table ∙ keyed2 in
    let q = subst (λ (k : Ephemerons). QueuesWhole E place value (IsOfKey k) late c.args.terms.pass c.args.terms.first judged led kept table new_table queue c.queue_tiers.new.queue.items) keyed3
    (subst (λ (m : Map Object). QueuesWhole E place value (IsOfKey c.settle.new.self.ephemerons) late c.args.terms.pass c.args.terms.first m led kept table new_table queue c.queue_tiers.new.queue.items) objects4 c.queue_tiers.ensures.queued) in
    let keyed4 : c.queue_tiers.new.ephemerons.ephemerons ≡ left_keyed = c.queue_tiers.ensures.ephemerons ∙ keyed3 in
    let objects5 : t.objects c.queue_tiers.new.host ≡ judged = c.queue_tiers.ensures.objects ∙ objects4 in
    let objects6 : t.objects c.clear_dead-2.new.host ≡ cleared (placed place longs) kept judged = c.clear_dead-2.ensures.objects ∙ ap (cleared (placed place longs) kept) objects5 in
    let kept1 : t.marked c.clear_dead-2.new.host ≡ kept = c.clear_dead-2.ensures.marked in
    let objects7 : t.objects c.clear_long.new.host ≡ cleared (placed place keyed.long) kept (cleared (placed place longs) kept judged) =
    c.clear_long.ensures.objects ∙ (λ i. cleared (placed place (keyed4 i).long) (kept1 i) (objects6 i)) in
    let kept2 : t.marked c.clear_long.new.host ≡ kept = c.clear_long.ensures.marked ∙ kept1 in
    let keyed5 : c.clear_long.new.self.ephemerons ≡ record { short = with_targets keyed.short found; long = with_targets keyed.long kept } =
    c.clear_long.ensures.table ∙ (λ i. record (keyed4 i) { long = with_targets (keyed4 i).long (kept1 i) }) in
    let now = t.objects c.clear_long.new.host in
    let at : (w : ℕ) → points now w ≡ points objects w = λ w.
    ap (λ (m : Map Object). points m w) objects7 ∙ points-filled (is_dead (cleared (placed place longs) kept judged) (placed place keyed.long) kept) 0 (cleared (placed place longs) kept judged) w
    ∙ points-filled (is_dead judged (placed place longs) kept) 0 judged w ∙ points-filled (is_dead begun (placed place keyed.short) found) 0 begun w ∙ points-filled (is_dead objects (placed place shorts) found) 0 objects w in
    let short_targets : c.drop_dead.new.links.links ≡ with_targets shorts found = c.drop_dead.ensures ∙ ap (with_targets shorts) found_is in
    let long_targets : c.drop_dead-2.new.links.links ≡ with_targets longs kept = c.drop_dead-2.ensures ∙ ap (with_targets longs) kept1 in
    let short_is : c.drop_outside.new.links.links ≡ links_held place objects shorts found kept =
    c.drop_outside.ensures ∙ (λ i. with_holders place now (short_targets i) (kept2 i)) ∙ dropped_twice place now objects shorts found kept at in
    let long_is : c.drop_outside-2.new.links.links ≡ links_held place objects longs kept kept =
    c.drop_outside-2.ensures ∙ (λ i. with_holders place now (long_targets i) (kept2 i)) ∙ dropped_twice place now objects longs kept kept at in
    let keyed_is : c.drop_outside-3.new.self.ephemerons ≡ record { short = links_held place objects keyed.short found kept; long = links_held place objects keyed.long kept kept } =
    c.drop_outside-3.ensures.table ∙ (λ i. record { short = with_holders place now (keyed5 i).short (kept2 i); long = with_holders place now (keyed5 i).long (kept2 i) })
    ∙ (λ i. record { short = dropped_twice place now objects keyed.short found kept at i; long = dropped_twice place now objects keyed.long kept kept at i }) in
    let registered = registered_still begun (placed place keyed.short) found table.registrations (registered_still objects (placed place shorts) found table.registrations c.requires.registered) in
    decided E place value late objects shorts longs keyed found first_led led kept table new_table c.args.terms.pass c.args.terms.first queue c.queue_tiers.new.queue.items registered leading settled q
    (parts_left now (t.marked c.clear_long.new.host) c.queue_tiers.new.table c.drop_outside.new.links c.drop_outside-2.new.links) c.drop_outside-3.new.self.ephemerons
    (λ i. record { objects = retain_keys (objects7 i) (kept2 i); registrations = new_table.registrations; short = short_is i; long = long_is i }) keyed_is

pub returns-clause-closed : goal.returns-clause-closed
returns-clause-closed g c =
    let t = g.H.Host in
    let place = t.place in
    let kept = t.marked c.queue_tiers.new.host in
    let before = t.objects c.settle.new.host in
    let longs = placed place c.args.long.now.links in
    let keyed = placed place c.queue_tiers.new.ephemerons.ephemerons.long in
    let objects = t.objects c.args.host.now in
    let found = t.marked c.args.host.now in
    let words = placed place c.args.short.now.links in
    let begun : Map Object = cleared words found objects in
    let first : t.objects c.clear_dead.new.host ≡ begun = c.clear_dead.ensures.objects in
    let second = c.settle.ensures.objects ∙ c.mark_led.ensures.objects ∙ c.clear_short.ensures.objects in
    let nowhere : points before 0 ≡ None =
    ap (λ (m : Map Object). points m 0) second ∙ points-filled (is_dead (t.objects c.clear_dead.new.host) (placed place c.args.ephemerons.now.ephemerons.short) (t.marked c.clear_dead.new.host)) 0 (t.objects c.clear_dead.new.host) 0
    ∙ ap (λ (m : Map Object). points m 0) first ∙ points-filled (is_dead objects words found) 0 objects 0 ∙ c.requires.zero in
    let closed : IsClosed before kept = whole_closed place g.H.Values.value before (IsOfKey c.settle.new.self.ephemerons) kept c.queue_tiers.ensures.queued.settled_late.whole in
    let last : t.objects c.clear_dead-2.new.host ≡ cleared longs kept before = c.clear_dead-2.ensures.objects ∙ ap (cleared longs kept) c.queue_tiers.ensures.objects in
    let end : t.objects c.clear_long.new.host ≡ cleared keyed kept (cleared longs kept before) = c.clear_long.ensures.objects ∙ (λ i. cleared keyed (c.clear_dead-2.ensures.marked i) (last i)) in
    subst (λ (m : Map Object). IsClosed m (t.marked c.clear_long.new.host)) (sym end)
    (subst (IsClosed (cleared keyed kept (cleared longs kept before))) (sym (c.clear_long.ensures.marked ∙ c.clear_dead-2.ensures.marked))
    (closed_still (cleared longs kept before) keyed kept (points-filled (is_dead before longs kept) 0 before 0 ∙ nowhere) (closed_still before longs kept nowhere closed)))

pub returns-clause-same : goal.returns-clause-same
returns-clause-same g c =
    let next = g.met.H.Host.transitive c.args.host.now in
    next c.clear_dead-2.new.host c.clear_long.new.host
    (next c.queue_tiers.new.host c.clear_dead-2.new.host
    (next c.settle.new.host c.queue_tiers.new.host
    (next c.mark_led.new.host c.settle.new.host
    (next c.clear_short.new.host c.mark_led.new.host
    (next c.clear_dead.new.host c.clear_short.new.host c.clear_dead.ensures.same c.clear_short.ensures.same)
    c.mark_led.ensures.same)
    c.settle.ensures.same)
    c.queue_tiers.ensures.same)
    c.clear_dead-2.ensures.same)
    c.clear_long.ensures.same
