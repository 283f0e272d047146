use Rattle.fz_service_tests.proofs.service.threads.eight_workers_finish_all.Given as goal

abbrev pub ghosts-serves_thousands : goal.ghosts-serves_thousands
ghosts-serves_thousands g a = record { origin = a.prepared }
