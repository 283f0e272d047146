-- Some ephemerons are left to be looked at, some are put off, and the others are through.
use Rattle.std.proofs.Common.{◌≡◌, ◌≤◌, ◌<◌, ◌+◌, vec_len, vec_capacity, IsTrue}
use Rattle.fz_pass.specs.Settling.{Rounds}
use Rattle.fz_pass.proofs.settling.settle_round.Given as goal

abbrev pub invariant-loop-word : goal.invariant-loop-word
invariant-loop-word g l = record {
  objects : g.H.Host.objects l.host ≡ g.H.Host.objects l.fn.host;
  rounds : Rounds g.H.Host.is_exact g.H.Host.place g.H.Values.value (g.H.Host.objects l.fn.host) l.fn.waiting.items (g.H.Host.marked l.fn.host) l.waiting.items l.rest.items (g.H.Host.marked l.host) l.again;
  count : vec_len l.waiting + vec_len l.rest ≤ vec_len l.fn.waiting;
  fewer : IsTrue l.again → vec_len l.waiting + vec_len l.rest < vec_len l.fn.waiting;
  waiting : vec_capacity l.fn.waiting ≤ vec_capacity l.waiting;
  rest : vec_capacity l.fn.rest ≤ vec_capacity l.rest;
  same : g.H.Host.is_same l.fn.host l.host;
}

abbrev pub decreases-loop-word : goal.decreases-loop-word
decreases-loop-word g l = vec_len l.waiting
