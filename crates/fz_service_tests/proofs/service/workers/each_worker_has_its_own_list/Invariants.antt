use Rattle.fz_service_tests.proofs.service.workers.each_worker_has_its_own_list.Given as goal

abbrev pub ghosts-serve_all : goal.ghosts-serve_all
ghosts-serve_all g a = record { origin = a.prepared }
