use Rattle.fz_service_tests.proofs.service.lock.the_program_has_the_lock_after_32_entries.Given as goal

abbrev pub ghosts-serves_a_thousand_beside : goal.ghosts-serves_a_thousand_beside
ghosts-serves_a_thousand_beside g a = record { origin = a.prepared }
