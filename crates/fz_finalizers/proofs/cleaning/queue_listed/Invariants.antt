-- The listed cleanups so far are queued.
use Rattle.std.proofs.Common.{◌≡◌, ◌≤◌, ◌+◌, take, length}
use Rattle.std.specs.FinMap.{len}
use Rattle.fz_finalizers.specs.Queue.{TakesListed}
use Rattle.fz_finalizers.proofs.cleaning.queue_listed.Given as goal

abbrev pub invariant-loop-entry : goal.invariant-loop-entry
invariant-loop-entry l = record {
  taken : TakesListed l.pass (take l.entry-index l.listed) l.initial.cleanups.cleanups l.cleanups.cleanups l.initial.queue l.queue;
  count : length l.queue.queue + len l.cleanups.cleanups ≡ length l.initial.queue.queue + len l.initial.cleanups.cleanups;
  fewer : len l.cleanups.cleanups ≤ len l.initial.cleanups.cleanups;
  room : l.initial.queue.room + len l.cleanups.cleanups ≤ l.queue.room + len l.initial.cleanups.cleanups;
  places : l.initial.cleanups.room ≤ l.cleanups.room;
}
