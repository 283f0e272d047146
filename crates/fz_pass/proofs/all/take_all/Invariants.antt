-- The listed objects so far are taken.
use Rattle.std.proofs.Common.{◌≡◌, ◌+◌, ◌≤◌, length, take}
use Rattle.std.specs.FinMap.{len}
use Rattle.fz_pass.specs.All.{unknown_objects}
use Rattle.fz_pass.specs.Gathered.{IsSameQueue}
use Rattle.fz_pass.specs.Listing.{is_listed}
use Rattle.fz_pass.specs.Picking.{Picks}
use Rattle.fz_pass.proofs.all.take_all.Given as goal

abbrev pub invariant-loop-entry : goal.invariant-loop-entry
invariant-loop-entry l = record {
  count : length l.out.picks + len l.table.registrations ≡ length l.initial.out.picks + len l.initial.table.registrations;
  capacity : l.initial.out.capacity ≤ l.out.capacity;
  queue : IsSameQueue l.initial.out l.out;
  picks : Picks (unknown_objects l.initial.table.registrations) (is_listed (take l.entry-index l.ready)) l.initial.table.content l.table.content l.initial.out.picks l.out.picks;
}
