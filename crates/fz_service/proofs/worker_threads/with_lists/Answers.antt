use Rattle.std.proofs.Common.{rules, ◌≡◌, ◌<◌, Some, length, map, slice_get, ◌+◌, ◌∷◌, ◌++◌, ap, sym, subst, refl, ◌∙◌, arith, length-append}
use Rattle.fz_service.specs.Workers.{slots_of}
use Rattle.fz_service.proofs.Slots.{one_slot, one_list}
use Rattle.fz_service.proofs.worker_threads.with_lists.Goals as goal

pub loop-alloc-preserved : goal.loop-alloc-preserved
loop-alloc-preserved g c =
    let before = c.loop-alloc.invariant in
    let pushed = c.push_reserved.ensures.items in
    let number : c.len-in-loop-alloc.result ≡ length c.loop-alloc.workers.items = search rules in
    let count : length c.push_reserved.new.self.items ≡ length c.loop-alloc.workers.items + 1 = ap (λ xs. length xs) pushed ∙ length-append c.loop-alloc.workers.items _ in
    let first : c.loop-alloc.seats.items ≡ c.remove-seat.result ∷ c.remove-seat.new.self.items = search rules in
    record {
      all = subst (λ xs. map (λ worker. worker.slot) xs ++ slots_of c.remove-seat.new.self.items ≡ slots_of c.args.seats.now.items) (sym pushed)
          (one_slot (λ worker. worker.slot) c.loop-alloc.workers.items _ _ _ _ _ refl first before.all);
      lists = λ i list is few. subst (λ xs. slice_get (map (λ worker. worker.procs) xs) i ≡ Some list) (sym pushed)
          (one_list (λ worker. worker.procs) c.loop-alloc.workers.items _ c.args.procs.now before.lists
          (λ other there. c.take_list-list.ensures.taken other (ap (slice_get c.loop-alloc.procs) number ∙ before.rest (length c.loop-alloc.workers.items) (omega arith) ∙ there))
          i list is (subst (λ xs. i < length xs) pushed few));
      rest = λ i past. c.take_list-list.ensures.others i (λ same. omega (arith, same, number, count, past)) ∙ before.rest i (omega (arith, count, past));
      few = search rules;
      room = search rules;
      kept = search rules;
    }
