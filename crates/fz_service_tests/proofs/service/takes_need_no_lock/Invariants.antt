use Rattle.fz_service_tests.proofs.service.takes_need_no_lock.Given as goal

abbrev pub ghosts-takes_under_the_lock : goal.ghosts-takes_under_the_lock
ghosts-takes_under_the_lock g a = record { origin = a.prepared }
