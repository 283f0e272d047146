-- So far, all places were told marked.
use Rattle.std.proofs.Common.{◌-◌, length, take}
use Rattle.fz_machine.proofs.Noting.{AreMarked}
use Rattle.fz_machine.proofs.regions.Regions.is_all_marked.Given as goal

abbrev pub invariant-loop-index : goal.invariant-loop-index
invariant-loop-index l = record { marked : AreMarked (take l.index l.self-inside.noted.entries) }

abbrev pub decreases-loop-index : goal.decreases-loop-index
decreases-loop-index l = length l.self-inside.noted.entries - l.index
