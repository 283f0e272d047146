use Rattle.std.proofs.Common.{◌≡◌, ◌+◌, ◌≤◌, length}
use Rattle.fz_service.specs.Workers.{Extends}
use Rattle.fz_service.specs.Diary.{Gains, RunsEach}
use Rattle.fz_service.proofs.service.Service.serve_up_to.Given as goal

abbrev pub invariant-loop-turn : goal.invariant-loop-turn
invariant-loop-turn g l = record {
  seat : Extends l.initial.seat l.seat;
  ran : Gains l.initial.diary.events l.diary.events (RunsEach (length l.initial.procs) l.initial.seat l.seat);
  count : l.seat.finished ≡ l.initial.seat.finished + l.finished;
  few : l.finished ≤ l._turn;
  taken : length l.seat.took ≡ length l.initial.seat.took + l._turn;
}
