use Rattle.fz_service.proofs.Notes.{noted_more, turned}
use Rattle.fz_service.proofs.service.Service.take_turn.Goals as goal

pub returns : goal.returns
returns g c = (_, noted_more _ _ _ _ _ c.take-taken.ensures.noted c.answer.ensures.ran, turned _ _ _ _ _ c.take-taken.ensures.taken c.answer.ensures.seat)
