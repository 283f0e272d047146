-- The rows of the key before the place are told.
use Rattle.std.proofs.Common.{◌≡◌, ◌≤◌, ◌-◌, true, false, nat_lt, length, vec_capacity}
use Rattle.std.specs.List.Sorted.{IsPartitionPoint}
use Rattle.fz_machine.specs.declared.rows.Row.{Row}
use Rattle.fz_machine.specs.Off.{key_of}
use Rattle.fz_machine.proofs.Index.{AreTold}
use Rattle.fz_machine.proofs.rows.tell_rows.Given as goal

abbrev pub invariant-loop-row : goal.invariant-loop-row
invariant-loop-row l = record {
  point : IsPartitionPoint (λ (row : Row). nat_lt (key_of row) l.key ≡ true) (λ (row : Row). nat_lt (key_of row) l.key ≡ false) l.initial.index l.initial.place;
  are : AreTold l.key l.initial.index l.initial.told.items l.initial.place l.place l.index l.told.items;
  grown : vec_capacity l.initial.told ≤ vec_capacity l.told;
}

abbrev pub decreases-loop-row : goal.decreases-loop-row
decreases-loop-row l = length l.index - l.place
