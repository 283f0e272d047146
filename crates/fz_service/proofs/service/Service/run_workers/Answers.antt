use Rattle.std.proofs.Common.{length}
use Rattle.fz_service.proofs.Slots.{came_back, lists_back}
use Rattle.fz_service.proofs.service.Service.run_workers.Goals as goal

pub returns-clause-seats : goal.returns-clause-seats
returns-clause-seats g c =
    came_back (λ worker. worker.slot) _ _ _ _ c.with_lists-workers.ensures.workers c.serve_all.ensures.len c.serve_all.ensures.each c.without_lists.ensures.seats

pub returns-clause-lists : goal.returns-clause-lists
returns-clause-lists g c = record {
  each = lists_back (λ worker. worker.procs) (λ list. length list.items) c.args.procs.now c.with_lists-workers.new.procs c.without_lists.new.procs _ _ c.with_lists-workers.auto.procs c.serve_all.ensures.len c.with_lists-workers.ensures.lists c.with_lists-workers.ensures.others
      c.serve_all.ensures.lists c.without_lists.ensures.lists c.without_lists.ensures.others;
}
