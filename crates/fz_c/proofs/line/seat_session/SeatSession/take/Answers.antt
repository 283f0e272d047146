use Rattle.fz_c.proofs.Answered.{asks_idle, code_is}
use Rattle.fz_c.proofs.line.seat_session.SeatSession.take.Goals as goal

pub returns-in-Idle-clause-asked : goal.returns-in-Idle-clause-asked
returns-in-Idle-clause-asked g c = asks_idle c.args.self _ _ _ _ c.take_from.result c.in-Idle.is c.take_from.ensures.told (code_is _ _ _ _ _ c.answer.ensures)
