use Rattle.std.proofs.Common.{ℕ, ◌≡◌, ◌∷◌, [], Contains, IsTrue, sym, ap, subst, arith}
use Rattle.std.proofs.lemmas.List.Elements.{Contains-append_left, Contains-push}
use Rattle.std.specs.FinSet.{contains}
use Rattle.fz_marker.specs.declared.cycle.Cycle.{Cycle}
use Rattle.fz_marker.specs.Cycles.{AllWait, Proceeds}
use Rattle.fz_marker.specs.Marking.{IsLeft}
use Rattle.fz_marker.specs.declared.cycle.Cycle.{Cycle}
use Rattle.fz_marker.proofs.Proceeding.{proceeds_first, proceeds_with, proceeds_visit, put_back_is}
use Rattle.fz_marker.proofs.Waiting.{popped_waits, all_wait_visit}
use Rattle.fz_marker.proofs.cycle.Cycle.step.Goals as goal

pub loop-start-init : goal.loop-start-init
loop-start-init c = record {
  proceeds = proceeds_first c.args.heap.now.objects c.args.self.now c.requires.cycle;
  waits = c.requires.waits;
  limited = omega (arith, c.saturating_add-limit.ensures);
}

pub visit-requires-clause-cycle : goal.visit-requires-clause-cycle
visit-requires-clause-cycle c =
    let now = c.loop-start.self in
    (proceeds_with c.args.heap.now.objects c.args.self.now now c.pop.new.self c.loop-start.invariant.proceeds c.pop.ensures.set.0 c.pop.ensures.set.1
    (λ a h. subst (λ ws. Contains ws a) (sym c.in-Some.ensures.waiting) (Contains-append_left c.pop.new.self.waiting (c.in-Some.start ∷ []) a h))).cycle

pub loop-start-preserved : goal.loop-start-preserved
loop-start-preserved c =
    let objects = c.args.heap.now.objects in
    let now = c.loop-start.self in
    let x = c.in-Some.start in
    let inv = c.loop-start.invariant in
    let popped : Cycle = record { marks = c.pop.new.self; scanned = now.scanned; scans = now.scans } in
    let fewer = λ (a : ℕ) (h : Contains c.pop.new.self.waiting a). subst (λ ws. Contains ws a) (sym c.in-Some.ensures.waiting) (Contains-append_left c.pop.new.self.waiting (x ∷ []) a h) in
    let proceeds = proceeds_with objects c.args.self.now now c.pop.new.self inv.proceeds c.pop.ensures.set.0 c.pop.ensures.set.1 fewer in
    let waited = subst (λ ws. Contains ws x) (sym c.in-Some.ensures.waiting) (Contains-push c.pop.new.self.waiting x) in
    let marked : IsTrue (contains popped.marks.members x) = subst (λ m. IsTrue (contains m x)) (sym c.pop.ensures.set.1) (inv.proceeds.cycle.waiting x waited) in
    let visits = c.visit.ensures.visited c.if-not-visit.false in
    record {
      proceeds = proceeds_visit objects c.args.self.now popped c.visit.new.self x proceeds marked visits;
      waits = all_wait_visit objects popped c.visit.new.self x (popped_waits now c.pop.new.self x inv.waits c.pop.ensures.set.1 c.in-Some.ensures.waiting) visits;
      limited = c.visit.ensures.limited inv.limited;
    }

pub returns-then-not-visit-clause-proceeds : goal.returns-then-not-visit-clause-proceeds
returns-then-not-visit-clause-proceeds c =
    let refused = c.visit.ensures.refused c.if-not-visit.true in
    let back = put_back_is c.loop-start.self c.visit.new.self c.pop.new.self c.put_back.new.self c.in-Some.start refused.0 c.pop.ensures.set.0 c.pop.ensures.set.1 c.in-Some.ensures.waiting c.put_back.ensures in
    subst (Proceeds c.args.heap.now.objects c.args.self.now) (sym back) c.loop-start.invariant.proceeds

pub returns-then-not-visit-clause-waits : goal.returns-then-not-visit-clause-waits
returns-then-not-visit-clause-waits c =
    let refused = c.visit.ensures.refused c.if-not-visit.true in
    let back = put_back_is c.loop-start.self c.visit.new.self c.pop.new.self c.put_back.new.self c.in-Some.start refused.0 c.pop.ensures.set.0 c.pop.ensures.set.1 c.in-Some.ensures.waiting c.put_back.ensures in
    subst AllWait (sym back) c.loop-start.invariant.waits

pub returns-then-not-visit-clause-more : goal.returns-then-not-visit-clause-more
returns-then-not-visit-clause-more c _ =
    let now = c.loop-start.self in
    let x = c.in-Some.start in
    let objects = c.args.heap.now.objects in
    let inv = c.loop-start.invariant in
    let refused = c.visit.ensures.refused c.if-not-visit.true in
    let back = put_back_is now c.visit.new.self c.pop.new.self c.put_back.new.self x refused.0 c.pop.ensures.set.0 c.pop.ensures.set.1 c.in-Some.ensures.waiting c.put_back.ensures in
    let waited = subst (λ ws. Contains ws x) (sym c.in-Some.ensures.waiting) (Contains-push c.pop.new.self.waiting x) in
    let cycle = inv.proceeds.cycle in
    let here : IsLeft objects now.marks.members now.scanned.members = (x, cycle.waiting x waited, refused.3, refused.2) in
    let same : c.visit.new.self.scans ≡ now.scans = ap (λ (k : Cycle). k.scans) refused.0 in
    let size = cycle.size in
    let small = cycle.small in
    let few = cycle.few in
    let once = inv.proceeds.each_once in
    (omega (arith, same, inv.limited, refused.1, once, few, size, small, c.requires.few, c.saturating_add-limit.ensures), subst (λ (c : Cycle). IsLeft objects c.marks.members c.scanned.members) (sym back) here)
