-- What was noted still is.
use Rattle.std.proofs.Common.{◌≡◌, ◌≤◌, ℕ, length, map}
use Rattle.fz_machine.specs.Regions.{AreRegions, IsNoted, placed}
use Rattle.fz_machine.proofs.regions.Regions.end.Given as goal

abbrev pub invariant-loop-index : goal.invariant-loop-index
invariant-loop-index l = record {
  within : l.index ≤ length l.self-inside.noted.entries;
  regions : AreRegions l.self-inside.noted.entries;
  noted : (n : ℕ) → IsNoted (map placed l.initial.self-inside.noted.entries) n → IsNoted (map placed l.self-inside.noted.entries) n;
  fewer : length l.self-inside.noted.entries ≤ length l.initial.self-inside.noted.entries;
  others : (l.self-inside.heard ≡ 0) × (l.self-inside.end ≡ 0) × (l.self-inside.asked ≡ 0) × (l.self-inside.complete ≡ l.initial.self-inside.complete);
}

abbrev pub decreases-loop-index : goal.decreases-loop-index
decreases-loop-index l = l.index
