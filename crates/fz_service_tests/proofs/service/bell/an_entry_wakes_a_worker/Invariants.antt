use Rattle.fz_service_tests.proofs.service.bell.an_entry_wakes_a_worker.Given as goal

abbrev pub ghosts-wakes_for_entries : goal.ghosts-wakes_for_entries
ghosts-wakes_for_entries g a = record { origin = a.prepared }
