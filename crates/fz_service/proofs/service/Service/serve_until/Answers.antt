use Rattle.fz_service.proofs.Notes.{worked}
use Rattle.fz_service.proofs.service.Service.serve_until.Goals as goal

pub returns-clause-ended : goal.returns-clause-ended
returns-clause-ended g c = worked _ _ _ _ _ _ _ _ c.serve_until_told-seat.auto.procs c.serve_until_told-seat.ensures.told c.serve_rest.ensures.empty
