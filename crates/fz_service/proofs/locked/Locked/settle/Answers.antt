use Rattle.std.proofs.Common.{◌≡◌, ◌-◌, ◌++◌, List, length, length-drop, vec_capacity, refl, sym, ap, ◌∙◌, subst, arith}
use Rattle.fz_model.specs.declared.answers.Entry.{Entry}
use Rattle.fz_service.specs.States.{LockedState, locked_state}
use Rattle.fz_service.specs.declared.ending.Final.{Final}
use Rattle.fz_service.specs.Ends.{IsEnd}
use Rattle.fz_service.proofs.Ends.{drained_by, enough, fits_left, is_end}
use Rattle.fz_service.proofs.locked.Locked.settle.Goals as goal

pub overflow_sub-finished : goal.overflow_sub-finished
overflow_sub-finished g c =
    let w = c.self.inside in
    let queue = c.queued-enqueued.ensures in
    let held = c.outstanding-outstanding.ensures.count in
    let all = c.self.invariant.0.finished in
    omega (arith, queue, held, all)

pub overflow_sub-result : goal.overflow_sub-result
overflow_sub-result g c =
    let w = c.self.inside in
    let queue = c.queued-enqueued.ensures in
    let held = c.outstanding-outstanding.ensures.count in
    let d = drained_by g.O.Opening.origin (locked_state w.world w.owner.sent w.rung.entries w.book.total w.shortages.count) _ c.args.seats.items _ (c.as_mut_slice.ensures.value ∙ c.without_shares-plain.ensures.seats) c.self.invariant.0 c.drain.ensures.first c.drain.ensures.rest c.drain.ensures.idle
    (sym (c.audit.ensures.whole (c.without_shares-plain.ensures.all.0 ∙ c.requires.all)) ∙ c.without_shares-plain.ensures.all.1) in
    let few = enough _ _ _ _ d in
    let left = c.len.ensures in
    omega (arith, queue, held, few, left)

pub returns : goal.returns
returns g c =
    let w = c.self.inside in
    let queue = c.queued-enqueued.ensures in
    let held = c.outstanding-outstanding.ensures.count in
    let d = drained_by g.O.Opening.origin (locked_state w.world w.owner.sent w.rung.entries w.book.total w.shortages.count) _ c.args.seats.items _ (c.as_mut_slice.ensures.value ∙ c.without_shares-plain.ensures.seats) c.self.invariant.0 c.drain.ensures.first c.drain.ensures.rest c.drain.ensures.idle
    (sym (c.audit.ensures.whole (c.without_shares-plain.ensures.all.0 ∙ c.requires.all)) ∙ c.without_shares-plain.ensures.all.1) in
    let left = c.len.ensures in
    let rest = c.queue_from.ensures.queue in
    let taken : w.rung.entries - c.len.result ≡ w.rung.entries - length c.drain.new.out.items = omega (arith, left) in
    let finished : c.queued-enqueued.result - c.outstanding-outstanding.result ≡ length w.world.queue - length w.world.held = omega (arith, queue, held) in
    let end : Final = record {
      enqueued = c.queued-enqueued.result;
      taken = w.rung.entries - c.len.result;
      finished = c.queued-enqueued.result - c.outstanding-outstanding.result;
      forfeited = w.rung.entries - c.len.result - (c.queued-enqueued.result - c.outstanding-outstanding.result);
      left = c.append.new.left;
      passes = c.passes-passes.result;
      reclaimed = c.reclaimed-reclaimed.result;
    } in
    subst (λ (s : LockedState). IsEnd s c.args.seats.items end) c.self.view_is
    (is_end _ _ _ _ d end queue taken finished refl (c.append.ensures ∙ ap (λ (es : List Entry). c.drain.new.out.items ++ es) rest) c.passes-passes.ensures c.reclaimed-reclaimed.ensures)

pub append-requires : goal.append-requires
append-requires g c =
    let w = c.self.inside in
    let d = drained_by g.O.Opening.origin (locked_state w.world w.owner.sent w.rung.entries w.book.total w.shortages.count) _ c.args.seats.items _ (c.as_mut_slice.ensures.value ∙ c.without_shares-plain.ensures.seats) c.self.invariant.0 c.drain.ensures.first c.drain.ensures.rest c.drain.ensures.idle
    (sym (c.audit.ensures.whole (c.without_shares-plain.ensures.all.0 ∙ c.requires.all)) ∙ c.without_shares-plain.ensures.all.1) in
    let same = ap (λ (s : LockedState). length s.world.queue) c.self.view_is in
    let fits = fits_left _ _ _ _ d (vec_capacity c.args.left) (omega (arith, c.requires.left.1, same)) in
    let rest = ap (λ (l : List Entry). length l) c.queue_from.ensures.queue ∙ length-drop w.rung.entries w.world.queue in
    omega (arith, fits, rest, c.drain.ensures.capacity)
