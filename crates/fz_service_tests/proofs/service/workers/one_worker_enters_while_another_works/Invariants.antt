use Rattle.fz_service_tests.proofs.service.workers.one_worker_enters_while_another_works.Given as goal

abbrev pub ghosts-serve_all : goal.ghosts-serve_all
ghosts-serve_all g a = record { origin = a.prepared }
