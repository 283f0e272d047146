use Rattle.fz_line.proofs.Telling.{replies_to}
use Rattle.fz_line.proofs.seat.Seat.take_from.Goals as goal

pub returns-clause-told : goal.returns-clause-told
returns-clause-told g c = (c.steal-stolen.result, c.steal-stolen.ensures.reply, replies_to _ _ _ c.answer.ensures)
