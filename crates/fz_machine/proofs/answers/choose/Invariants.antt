-- The items so far whose bits are set are kept, and those to come are the same.
use Rattle.std.proofs.Common.{◌≡◌, ◌≤◌, ◌+◌, ◌-◌, ◌++◌, drop, length, take}
use Rattle.fz_machine.specs.Asks.{bits_of}
use Rattle.fz_machine.specs.Sifts.{chosen}
use Rattle.fz_machine.proofs.answers.choose.Given as goal

abbrev pub invariant-loop-index : goal.invariant-loop-index
invariant-loop-index l = record {
  few : (l.index ≤ l.count) × (l.end ≤ l.place + l.index);
  long : length l.items ≡ length l.initial.items;
  kept : take l.end l.items ≡ take l.initial.end l.initial.items ++ chosen (take l.index (take l.count (bits_of l.bits))) (drop l.place l.initial.items);
  left : drop (l.place + l.index) l.items ≡ drop (l.place + l.index) l.initial.items;
}

abbrev pub decreases-loop-index : goal.decreases-loop-index
decreases-loop-index l = l.count - l.index
