use Rattle.fz_service_tests.proofs.service.threads.counts_balance_beside_collects.Given as goal

abbrev pub ghosts-takes_beside_collects : goal.ghosts-takes_beside_collects
ghosts-takes_beside_collects g a = record { origin = a.prepared }
