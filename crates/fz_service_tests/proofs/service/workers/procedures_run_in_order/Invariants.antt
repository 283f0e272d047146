use Rattle.fz_service_tests.proofs.service.workers.procedures_run_in_order.Given as goal

abbrev pub ghosts-invokes_in_order : goal.ghosts-invokes_in_order
ghosts-invokes_in_order g a = record { origin = a.prepared }
