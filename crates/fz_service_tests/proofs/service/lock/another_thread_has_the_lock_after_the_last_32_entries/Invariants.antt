use Rattle.fz_service_tests.proofs.service.lock.another_thread_has_the_lock_after_the_last_32_entries.Given as goal

abbrev pub ghosts-serves_the_last_thousand : goal.ghosts-serves_the_last_thousand
ghosts-serves_the_last_thousand g a = record { origin = a.prepared }
