use Rattle.std.proofs.Common.{◌≡◌, ◌≤◌, ◌+◌, ◌*◌, ℕ, nat_cmp, IsTrue, Contains, subst, sym, ap, ◌∙◌, refl, arith, ⊎_elim}
use Rattle.std.specs.FinSet.{contains, len, len-empty}
use Rattle.fz_model.specs.declared.limits.TheConstants.{BLOCK_WORDS}
use Rattle.fz_model.specs.declared.answers.Progress.TheVariants.{More, Done}
use Rattle.fz_marker.specs.Frontiers.{Frontier}
use Rattle.fz_marker.specs.Marking.{Marking, IsLedFrom, CleanAreClosed, is_newly_in, is_to_scan, readable_count}
use Rattle.fz_marker.proofs.Proceeding.{proceeds_on}
use Rattle.fz_marker.proofs.Noted.{few_to_scan}
use Rattle.fz_marker.proofs.Tracing.{nothing_waits}
use Rattle.fz_marker.proofs.Marked.{forgotten_cycle, forgotten_waits, finish_closed, finish_few}
use Rattle.fz_marker.proofs.marker.Marker.finish.Goals.{After-clear}
use Rattle.fz_marker.proofs.marker.Marker.finish.Goals as goal

-- the last step can't stop before it is done
all_scanned : (c : After-clear) → (a : ℕ) → IsTrue (contains c.step.new.self.marks.members a) → IsTrue (contains c.step.new.self.scanned.members a)
all_scanned c a h =
    elim c.step.result as (λ r. c.step.result ≡ r → IsTrue (contains c.step.new.self.scanned.members a)) [
      | More ↦ λ is.
          let p = proceeds_on c.args.heap.now.objects c.forget.new.self c.rescan.new.self c.step.new.self c.rescan.ensures.proceeds c.step.ensures.proceeds in
          let all = (c.step.ensures.more is).0 in
          let before = c.rescan.ensures.proceeds.more in
          let once = p.each_once in
          let few = p.cycle.few in
          let size = p.cycle.size in
          let small = p.cycle.small in
          let old_few = c.self.invariant.cycle.few in
          let old_size = c.self.invariant.cycle.size in
          let old_small = c.self.invariant.cycle.small in
          let unfinished = subst (λ (m : Marking). m.scans ≤ len m.scanned) (sym c.self.view_is) c.requires.unfinished in
          absurd (omega (arith, all, before, once, few, size, small, old_few, old_size, old_small, unfinished, c.forget.ensures.scans))
      | Done ↦ λ is. ⊎_elim (λ w. absurd (nothing_waits a (subst (λ ws. Contains ws a) (c.step.ensures.done is) w))) (λ s. s) (c.step.ensures.waits a h)
    ] refl

pub rescan-requires-clause-cycle : goal.rescan-requires-clause-cycle
rescan-requires-clause-cycle c =
    let f = c.forget.ensures in forgotten_cycle c.args.heap.now.objects c.args.dirty.now.noted c.self.inside.cycle c.forget.new.self f.marks f.scans f.size f.few f.gone f.others c.self.invariant.cycle

pub rescan-requires-clause-waits : goal.rescan-requires-clause-waits
rescan-requires-clause-waits c =
    let f = c.forget.ensures in forgotten_waits c.args.heap.now.objects c.args.dirty.now.noted c.self.inside.cycle c.forget.new.self f.marks f.scans f.size f.few f.gone f.others c.self.invariant.waits

pub invariant_of-self : goal.invariant_of-self
invariant_of-self c =
    let p = proceeds_on c.args.heap.now.objects c.forget.new.self c.rescan.new.self c.step.new.self c.rescan.ensures.proceeds c.step.ensures.proceeds in
    let none : len c.clear.new.self.members ≡ 0 = ap (λ (f : Frontier). len f.members) c.clear.ensures ∙ len-empty nat_cmp in
    record {
      cycle = p.cycle;
      waits = c.step.ensures.waits;
      size = ap (λ (f : Frontier). f.size) c.clear.ensures ∙ c.self.invariant.size ∙ sym (ap (λ (f : Frontier). f.size) c.forget.ensures.marks) ∙ sym p.size;
      room = omega (arith, none);
      idle = ap (λ (f : Frontier). f.waiting) c.clear.ensures;
    }

pub returns-clause-led : goal.returns-clause-led
returns-clause-led c =
    let objects = c.args.heap.now.objects in
    let p = proceeds_on objects c.forget.new.self c.rescan.new.self c.step.new.self c.rescan.ensures.proceeds c.step.ensures.proceeds in
    subst (λ (m : Marking). (a : ℕ) → IsTrue (contains c.step.new.self.marks.members a) → IsLedFrom objects m.marked a) c.self.view_is
    (subst (λ (f : Frontier). (a : ℕ) → IsTrue (contains c.step.new.self.marks.members a) → IsLedFrom objects f.members a) c.forget.ensures.marks p.led)

pub returns-clause-closed : goal.returns-clause-closed
returns-clause-closed c clean =
    let objects = c.args.heap.now.objects in
    let f = c.forget.ensures in
    let new = c.step.new.self in
    let p = proceeds_on objects c.forget.new.self c.rescan.new.self new c.rescan.ensures.proceeds c.step.ensures.proceeds in
    let inside = subst (λ (m : Marking). CleanAreClosed objects m c.args.dirty.now.noted) (sym c.self.view_is) clean in
    finish_closed objects c.args.dirty.now.noted c.self.inside.cycle c.forget.new.self f.marks f.scans f.size f.few f.gone f.others new p (all_scanned c) inside

pub returns-clause-few : goal.returns-clause-few
returns-clause-few c =
    let objects = c.args.heap.now.objects in
    let f = c.forget.ensures in
    let new = c.step.new.self in
    let p = proceeds_on objects c.forget.new.self c.rescan.new.self new c.rescan.ensures.proceeds c.step.ensures.proceeds in
    subst (λ (m : Marking). (m.scans ≤ new.scans) × (new.scans ≤ m.scans + readable_count objects (is_to_scan objects m c.args.dirty.now.noted new.marks.members))) c.self.view_is
    (finish_few objects c.args.dirty.now.noted c.self.inside.cycle c.forget.new.self f.marks f.scans f.size f.few f.gone f.others new p (all_scanned c))

pub returns-clause-again : goal.returns-clause-again
returns-clause-again c =
    let objects = c.args.heap.now.objects in
    let noted = c.args.dirty.now.noted in
    let f = c.forget.ensures in
    let new = c.step.new.self in
    let p = proceeds_on objects c.forget.new.self c.rescan.new.self new c.rescan.ensures.proceeds c.step.ensures.proceeds in
    let old = c.self.inside.cycle in
    let few = (finish_few objects noted old c.forget.new.self f.marks f.scans f.size f.few f.gone f.others new p (all_scanned c)).1 in
    let all = few_to_scan objects noted f.apart old.scanned.members new.marks.members p.cycle.low in
    let again : new.scans ≤ old.scans + readable_count objects (is_newly_in old.scanned.members new.marks.members) + BLOCK_WORDS * len noted = omega (arith, few, all) in
    subst (λ (m : Marking). new.scans ≤ m.scans + readable_count objects (is_newly_in m.scanned new.marks.members) + BLOCK_WORDS * len noted) c.self.view_is again
