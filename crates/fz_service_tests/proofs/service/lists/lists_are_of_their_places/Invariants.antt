use Rattle.fz_service_tests.proofs.service.lists.lists_are_of_their_places.Given as goal

abbrev pub ghosts-serves : goal.ghosts-serves
ghosts-serves g a = record { origin = a.prepared }
