use Rattle.std.proofs.Common.{◌≡◌, ◌∙◌, ◌||◌, ◌&&◌, not, refl, ap, sym, subst, arith}
use Rattle.std.specs.FinSet.{contains}
use Rattle.std.specs.FinMap.{keys, contains_key, retain_keys}
use Rattle.fz_bits.specs.Flags.{Set}
use Rattle.fz_heap.specs.Contents.{Contents}
use Rattle.fz_marker.specs.Marking.{Marking}
use Rattle.fz_model.specs.State.{Map, Object}
use Rattle.fz_pass.specs.Decides.{Decides, parts_of}
use Rattle.fz_pass.specs.Marks.{IsClosed}
use Rattle.fz_marked.proofs.Carried.{is_condemned, len_by_keys}
use Rattle.fz_pass.proofs.Unflagged.{late_decide}
use Rattle.fz_marked.proofs.pass.decide.Goals as goal

pub decide-requires-clause-closed : goal.decide-requires-clause-closed
decide-requires-clause-closed c =
    subst (λ (h : Contents). IsClosed h.objects (contains c.trace_found.new.self.marker.traced)) (sym c.trace_found.ensures.heap)
    (subst (λ (s : Set). IsClosed c.args.marked.now.heap.objects (contains s)) (sym (ap (λ (m : Marking). m.traced) c.trace_found.ensures.marker)) (λ a b on child. c.requires.closed a on b child))

pub returns-clause-condemned : goal.returns-clause-condemned
returns-clause-condemned c =
    let old = c.args.marked.now.heap in
    let mid = c.decide.new.host.heap in
    let same = c.decide.ensures.same in
    let call = c.reclaim.ensures in
    let starts = same.starts ∙ ap (λ (h : Contents). keys h.objects) c.trace_found.ensures.heap in
    let was = ap (λ (h : Contents). h.condemned) same.heap_is ∙ ap (λ (h : Contents). h.condemned) c.trace_found.ensures.heap in
    let new = c.reclaim.new.self.heap in
    λ a. is_condemned old.objects mid.objects new.objects starts (contains c.decide.new.host.marker.traced) call.objects new.condemned mid.condemned call.condemned a
    ∙ ap (λ (s : Set). contains_key old.objects a && not (contains_key new.objects a) || contains s a) was

pub returns-clause-reclaimed : goal.returns-clause-reclaimed
returns-clause-reclaimed c =
    let same = c.decide.ensures.same in
    let still = len_by_keys c.args.marked.now.heap.objects c.decide.new.host.heap.objects (same.starts ∙ ap (λ (h : Contents). keys h.objects) c.trace_found.ensures.heap) in
    omega (arith, still, c.reclaim.ensures.reclaimed)

pub returns-clause-decided : goal.returns-clause-decided
returns-clause-decided c =
    let new = c.decide.new in
    let started = c.trace_found.new.self in
    let law = late_decide (Unit {0}) _ (λ o. refl) _ _ _ _ _ _ _ c.decide.ensures.decided.0 in
    let found : started.marker.traced ≡ c.args.marked.now.marker.marked = ap (λ (m : Marking). m.traced) c.trace_found.ensures.marker in
    let left : c.reclaim.new.self.heap.objects ≡ retain_keys new.host.heap.objects (contains new.host.marker.traced) = c.reclaim.ensures.objects in
    let here : started.heap.objects ≡ c.args.marked.now.heap.objects = ap (λ (h : Contents). h.objects) c.trace_found.ensures.heap in (
      law.picks,
      law.queued,
      subst (λ (m : Map Object). Decides (parts_of m c.args.table.now c.args.short.now c.args.long.now) (contains c.args.marked.now.marker.marked) law.picks (parts_of c.reclaim.new.self.heap.objects new.table new.short new.long)) here
          (subst (λ (m : Map Object). Decides (parts_of started.heap.objects c.args.table.now c.args.short.now c.args.long.now) (contains c.args.marked.now.marker.marked) law.picks (parts_of m new.table new.short new.long)) (sym left)
          (subst (λ (s : Set). Decides (parts_of started.heap.objects c.args.table.now c.args.short.now c.args.long.now) (contains s) law.picks (parts_of (retain_keys new.host.heap.objects (contains new.host.marker.traced)) new.table new.short new.long)) found (law.exactly tt))),
    )
