-- The unmarked ones among the registered objects so far are listed.
use Rattle.std.proofs.Common.{◌≡◌, ◌≤◌, ◌+◌, ◌++◌, length, vec_capacity}
use Rattle.fz_pass.specs.Listing.{unmarked_in}
use Rattle.fz_pass.specs.Tiers.{skips, tiered}
use Rattle.fz_pass.proofs.listing.list_unmarked.Given as goal

abbrev pub invariant-loop-object : goal.invariant-loop-object
invariant-loop-object g l = record {
  listed : l.ready.items ≡ unmarked_in (skips l.round.second (tiered l.round.tiers l.table.late) (g.H.Host.marked l.host)) l.yielded;
  few : length l.ready.items + length l.object-iterator ≤ length l.initial.object-iterator;
  grown : vec_capacity l.initial.ready ≤ vec_capacity l.ready;
  rest : l.yielded ++ l.object-iterator ≡ l.initial.object-iterator;
}
