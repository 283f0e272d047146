-- The first addresses so far are written.
use Rattle.std.proofs.Common.{◌≡◌, ◌≤◌, ◌-◌, drop, length, take}
use Rattle.std.specs.Map.{keys_of}
use Rattle.fz_machine.proofs.regions.Regions.ask.Given as goal

abbrev pub invariant-loop-count : goal.invariant-loop-count
invariant-loop-count l = record {
  few : l.count ≤ 64;
  within : l.count ≤ l.self-inside.end - l.self-inside.heard;
  long : length l.about ≡ 64;
  about : take l.count l.about ≡ take l.count (keys_of (drop l.self-inside.heard (take l.self-inside.end l.self-inside.noted.entries)));
}

abbrev pub decreases-loop-count : goal.decreases-loop-count
decreases-loop-count l = 64 - l.count
