use Rattle.std.proofs.Common.{rules, ◌≡◌, ◌∷◌, ◌++◌, ◌∙◌, List, ap, length, map, arith}
use Rattle.std.proofs.lemmas.List.{length-map}
use Rattle.fz_line.specs.States.{SeatState}
use Rattle.fz_service.specs.Workers.{in_slots}
use Rattle.fz_service.proofs.Slots.{one_back, one_less, slot_out, within}
use Rattle.fz_service.proofs.worker_threads.without_lists.Goals as goal

pub loop-workers-preserved-in-Some : goal.loop-workers-preserved-in-Some
loop-workers-preserved-in-Some g c =
    let before = c.loop-workers.invariant in
    let first : c.loop-workers.workers.items ≡ c.remove-slot.result ∷ c.remove-slot.new.self.items = search rules in
    let less = one_less (λ worker. worker.procs) _ _ _ _ c.loop-workers.number first before.left in
    record {
      all = ap (λ (seats : List SeatState). seats ++ in_slots (map (λ worker. worker.slot) c.remove-slot.new.self.items)) c.push_reserved.ensures.items
          ∙ slot_out (λ worker. worker.slot) _ _ _ c.in-Some.seat c.loop-workers.seats.items _ first c.in-Some.is before.all;
      few = search rules;
      number = search rules;
      left = less.1;
      lists = one_back _ c.loop-workers.procs c.put_list_back.new.procs c.loop-workers.number _ c.put_list_back.auto.procs less.0 c.put_list_back.ensures.put c.put_list_back.ensures.others before.lists;
      rest = λ i past. c.put_list_back.ensures.others i (λ same. omega (arith, same, past)) ∙ before.rest i (omega (arith, past));
      room = search rules;
    }

pub loop-workers-preserved : goal.loop-workers-preserved
loop-workers-preserved g c =
    let before = c.loop-workers.invariant in
    let first : c.loop-workers.workers.items ≡ c.remove-slot.result ∷ c.remove-slot.new.self.items = search rules in
    let less = one_less (λ worker. worker.procs) _ _ _ _ c.loop-workers.number first before.left in
    record {
      all = search rules;
      few = search rules;
      number = search rules;
      left = less.1;
      lists = one_back _ c.loop-workers.procs c.put_list_back.new.procs c.loop-workers.number _ c.put_list_back.auto.procs less.0 c.put_list_back.ensures.put c.put_list_back.ensures.others before.lists;
      rest = λ i past. c.put_list_back.ensures.others i (λ same. omega (arith, same, past)) ∙ before.rest i (omega (arith, past));
      room = search rules;
    }

pub returns-clause-lists : goal.returns-clause-lists
returns-clause-lists g c = λ i list is low.
    let few = within _ i list is in
    let last : length c.loop-workers.workers.items ≡ 0 = search rules in
    c.loop-workers.invariant.lists i list is (omega (arith, few, last, c.loop-workers.invariant.number, length-map c.args.workers.items (λ worker. worker.procs))) (omega (arith, low, c.loop-workers.auto.procs))
