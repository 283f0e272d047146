use Rattle.fz_marker.proofs.Proceeding.{proceeds_first, proceeds_on}
use Rattle.fz_marker.proofs.Waiting.{waits_to_page, all_wait_at_end}
use Rattle.fz_marker.proofs.cycle.Cycle.rescan.Goals as goal

pub loop-page-init : goal.loop-page-init
loop-page-init c = record { proceeds = proceeds_first c.args.heap.now.objects c.args.self.now c.requires.cycle; waits = c.requires.waits }

pub loop-page-preserved : goal.loop-page-preserved
loop-page-preserved c =
    let objects = c.args.heap.now.objects in
    let noted = c.args.dirty.now.noted in
    let first = c.args.self.now in
    let now = c.loop-page.self in
    let mid = c.rescan_first.new.self in
    record {
      proceeds = proceeds_on objects first mid c.rescan_starts.new.self (proceeds_on objects first now mid c.loop-page.invariant.proceeds c.rescan_first.ensures.proceeds) c.rescan_starts.ensures.proceeds;
      waits = c.rescan_starts.ensures.waits noted (c.rescan_first.ensures.waits noted (waits_to_page objects noted now c.loop-page.from c.in-Some.page c.in-Some.ensures.next c.loop-page.invariant.waits));
    }

pub returns-clause-waits : goal.returns-clause-waits
returns-clause-waits c = all_wait_at_end c.args.heap.now.objects c.args.dirty.now.noted c.loop-page.self c.loop-page.from c.in_default.ensures.next c.loop-page.invariant.waits
