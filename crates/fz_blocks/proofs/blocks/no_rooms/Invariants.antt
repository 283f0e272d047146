use Rattle.std.proofs.Common.{All, ◌≡◌, ◌≤◌, ◌-◌, vec_len}
use Rattle.std.specs.FinSet.{empty}
use Rattle.fz_blocks.proofs.blocks.no_rooms.Given as goal

abbrev pub invariant-loop-alloc : goal.invariant-loop-alloc
invariant-loop-alloc l = (vec_len l.rooms ≤ 128) × All (λ s. (s.members ≡ empty) × (l.blocks ≤ s.size)) l.rooms.items

abbrev pub decreases-loop-alloc : goal.decreases-loop-alloc
decreases-loop-alloc l = 128 - vec_len l.rooms
