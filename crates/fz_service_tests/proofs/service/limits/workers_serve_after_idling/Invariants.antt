use Rattle.fz_service_tests.proofs.service.limits.workers_serve_after_idling.Given as goal

abbrev pub ghosts-serves_after_idling : goal.ghosts-serves_after_idling
ghosts-serves_after_idling g a = record { origin = a.prepared }
