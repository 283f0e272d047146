use Rattle.fz_service_tests.proofs.service.programs.a_lent_world_sends_what_it_queued.Given as goal

abbrev pub ghosts-lends_the_world : goal.ghosts-lends_the_world
ghosts-lends_the_world g a = record { origin = a.prepared }
