use Rattle.fz_service_tests.proofs.service.limits.thousands_are_sent_at_once.Given as goal

abbrev pub ghosts-sends_thousands : goal.ghosts-sends_thousands
ghosts-sends_thousands g a = record { origin = a.prepared }
