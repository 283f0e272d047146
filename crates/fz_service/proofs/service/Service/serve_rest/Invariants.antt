use Rattle.std.proofs.Common.{length}
use Rattle.fz_service.specs.Workers.{Extends}
use Rattle.fz_service.specs.Diary.{Gains, RunsEach}
use Rattle.fz_service.proofs.service.Service.serve_rest.Given as goal

abbrev pub invariant-loop-turn : goal.invariant-loop-turn
invariant-loop-turn g l = record {
  next : (goal.iterator-loop-turn g).can_next l._turn-iterator;
  ends : (goal.iterator-loop-turn g).is_finite l._turn-iterator;
  seat : Extends l.initial.seat l.seat;
  ran : Gains l.initial.diary.events l.diary.events (RunsEach (length l.initial.procs) l.initial.seat l.seat);
}
