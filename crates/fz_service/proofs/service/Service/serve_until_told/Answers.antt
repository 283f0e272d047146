use Rattle.fz_service.proofs.Serving.{same_seat, extends_same, served}
use Rattle.fz_service.proofs.Notes.{ran_none, ran_look, ran_turn, ran_other}
use Rattle.fz_service.proofs.Waiting.{unheard, has_listened}
use Rattle.fz_service.proofs.service.Service.serve_until_told.Goals as goal

pub loop-turn-init : goal.loop-turn-init
loop-turn-init g c = record { next = tt; ends = tt; seat = same_seat _; ran = ran_none _ _ _; heard = λ some. unheard _ c.new-pause.ensures some }

pub loop-turn-preserved-in-Served : goal.loop-turn-preserved-in-Served
loop-turn-preserved-in-Served g c =
    let i = c.loop-turn.invariant in
    let turned = rw c.in-Served.is at c.take_turn-same.ensures in
    record {
      next = tt;
      ends = tt;
      seat = served _ _ _ _ _ i.seat turned.2.1 turned.2.2;
      ran = ran_turn _ _ _ _ _ c.take_turn-same.result.came_to _ _ _ c.loop-turn.auto.procs (ran_look _ _ _ _ _ _ _ i.ran c.is_told.ensures) c.take_turn-same.ensures;
      heard = λ some. unheard _ c.end-in-Served.ensures some;
    }

pub loop-turn-preserved-in-Busy : goal.loop-turn-preserved-in-Busy
loop-turn-preserved-in-Busy g c =
    let i = c.loop-turn.invariant in
    let turned = rw c.in-Busy.is at c.take_turn-same.ensures in
    record {
      next = tt;
      ends = tt;
      seat = extends_same _ _ _ i.seat turned.2.0;
      ran = ran_turn _ _ _ _ _ c.take_turn-same.result.came_to _ _ _ c.loop-turn.auto.procs (ran_look _ _ _ _ _ _ _ i.ran c.is_told.ensures) c.take_turn-same.ensures;
      heard = λ some. has_listened _ _ _ turned.1 (has_listened _ _ _ c.is_told.ensures (i.heard some));
    }

pub loop-turn-preserved : goal.loop-turn-preserved
loop-turn-preserved g c =
    let i = c.loop-turn.invariant in
    let turned = rw c.in-Empty.is at c.take_turn-same.ensures in
    record {
      next = tt;
      ends = tt;
      seat = extends_same _ _ _ i.seat turned.2.0;
      ran = ran_other _ _ _ _ _ _ (ran_turn _ _ _ _ _ c.take_turn-same.result.came_to _ _ _ c.loop-turn.auto.procs (ran_look _ _ _ _ _ _ _ i.ran c.is_told.ensures) c.take_turn-same.ensures) c.once.ensures.none;
      heard = c.once.ensures.listened;
    }
