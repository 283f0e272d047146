use Rattle.fz_service_tests.proofs.service.lock.the_lock_is_free_while_a_procedure_works.Given as goal

abbrev pub ghosts-serves_in_turn : goal.ghosts-serves_in_turn
ghosts-serves_in_turn g a = record { origin = a.prepared }
