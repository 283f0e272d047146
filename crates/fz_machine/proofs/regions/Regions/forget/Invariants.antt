-- Only the bits of places change.
use Rattle.std.proofs.Common.{◌≡◌, ◌-◌, length, map, take}
use Rattle.std.specs.Map.{keys_of}
use Rattle.fz_machine.specs.Regions.{worded}
use Rattle.fz_machine.proofs.regions.Regions.forget.Given as goal

abbrev pub invariant-loop-index : goal.invariant-loop-index
invariant-loop-index l = record {
  keys : keys_of l.self-inside.noted.entries ≡ keys_of l.initial.self-inside.noted.entries;
  told : map worded (take l.initial.self-inside.heard l.self-inside.noted.entries) ≡ map worded (take l.initial.self-inside.heard l.initial.self-inside.noted.entries);
  others : (l.self-inside.heard ≡ l.initial.self-inside.heard) × (l.self-inside.end ≡ l.initial.self-inside.end) × (l.self-inside.asked ≡ l.initial.self-inside.asked) × (l.self-inside.complete ≡ l.initial.self-inside.complete);
}

abbrev pub decreases-loop-index : goal.decreases-loop-index
decreases-loop-index l = length l.self-inside.noted.entries - l.index
