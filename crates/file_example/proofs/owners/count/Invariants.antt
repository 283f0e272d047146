use Rattle.std.proofs.Common.{◌≤◌}
use Rattle.fz_service.specs.States.{RunsCalls}
use Rattle.file_example.proofs.owners.count.Given as goal

abbrev pub invariant-loop-file : goal.invariant-loop-file
invariant-loop-file l = record { calls : RunsCalls l.initial.world l.world; within : l.count ≤ l.file }
