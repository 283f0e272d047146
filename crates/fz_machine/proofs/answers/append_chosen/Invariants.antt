-- The items so far whose bits are set are appended.
use Rattle.std.proofs.Common.{◌≡◌, ◌≤◌, ◌-◌, ◌++◌, length, take, vec_capacity}
use Rattle.fz_machine.specs.Asks.{bits_of}
use Rattle.fz_machine.specs.Sifts.{chosen}
use Rattle.fz_machine.proofs.answers.append_chosen.Given as goal

abbrev pub invariant-loop-index : goal.invariant-loop-index
invariant-loop-index l = record {
  few : l.index ≤ length l.items;
  appended : l.list.items ≡ l.initial.list.items ++ chosen (take l.index (take (length l.items) (bits_of l.bits))) l.items;
  grown : vec_capacity l.initial.list ≤ vec_capacity l.list;
}

abbrev pub decreases-loop-index : goal.decreases-loop-index
decreases-loop-index l = length l.items - l.index
