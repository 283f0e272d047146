use Rattle.fz_service_tests.proofs.service.limits.the_gate_is_told_before_work_and_work_before_run.Given as goal

abbrev pub ghosts-serves_two : goal.ghosts-serves_two
ghosts-serves_two g a = record { origin = a.prepared }
