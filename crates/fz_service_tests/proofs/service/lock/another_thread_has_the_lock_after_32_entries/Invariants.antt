use Rattle.fz_service_tests.proofs.service.lock.another_thread_has_the_lock_after_32_entries.Given as goal

abbrev pub ghosts-serves_a_thousand : goal.ghosts-serves_a_thousand
ghosts-serves_a_thousand g a = record { origin = a.prepared }
