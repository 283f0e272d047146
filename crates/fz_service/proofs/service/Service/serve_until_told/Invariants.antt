use Rattle.std.proofs.Common.{IsSome, length}
use Rattle.fz_service.specs.Workers.{Extends}
use Rattle.fz_service.specs.Diary.{Gains, RunsEach}
use Rattle.fz_service.specs.Waits.{HasListened}
use Rattle.fz_service.proofs.service.Service.serve_until_told.Given as goal

abbrev pub invariant-loop-turn : goal.invariant-loop-turn
invariant-loop-turn g l = record {
  next : (goal.iterator-loop-turn g).can_next l._turn-iterator;
  ends : (goal.iterator-loop-turn g).is_finite l._turn-iterator;
  seat : Extends l.initial.seat l.seat;
  ran : Gains l.initial.diary.events l.diary.events (RunsEach (length l.initial.procs) l.initial.seat l.seat);
  heard : IsSome l.pause.sleeper → HasListened l.diary.events;
}
