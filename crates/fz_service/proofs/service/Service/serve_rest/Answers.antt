use Rattle.fz_service.proofs.Serving.{same_seat, served}
use Rattle.fz_service.proofs.Notes.{ran_none, ran_turn, empty_last}
use Rattle.fz_service.proofs.service.Service.serve_rest.Goals as goal

pub loop-turn-init : goal.loop-turn-init
loop-turn-init g c = record { next = tt; ends = tt; seat = same_seat _; ran = ran_none _ _ _ }

pub loop-turn-preserved-in-Served : goal.loop-turn-preserved-in-Served
loop-turn-preserved-in-Served g c =
    let i = c.loop-turn.invariant in
    let turned = rw c.in-Served.is at c.take_turn-same.ensures in
    record {
      next = tt;
      ends = tt;
      seat = served _ _ _ _ _ i.seat turned.2.1 turned.2.2;
      ran = ran_turn _ _ _ _ _ c.take_turn-same.result.came_to _ _ _ c.loop-turn.auto.procs i.ran c.take_turn-same.ensures;
    }

pub returns-in-Empty-clause-empty : goal.returns-in-Empty-clause-empty
returns-in-Empty-clause-empty g c = empty_last _ _ _ _ _ _ _ _ c.loop-turn.auto.procs c.loop-turn.invariant.ran (rw c.in-Empty.is at c.take_turn-same.ensures)
