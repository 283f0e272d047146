-- Some ephemerons wait, and the others are through.
use Rattle.std.proofs.Common.{◌≡◌, ◌≤◌, ℕ, [], true, vec_len, vec_capacity}
use Rattle.fz_pass.specs.Settling.{Rounds}
use Rattle.fz_pass.proofs.settling.settle_waiting.Given as goal

abbrev pub invariant-loop : goal.invariant-loop
invariant-loop g l = record {
  objects : g.H.Host.objects l.host ≡ g.H.Host.objects l.fn.host;
  rounds : Rounds g.H.Host.is_exact g.H.Host.place g.H.Values.value (g.H.Host.objects l.fn.host) l.fn.waiting.items (g.H.Host.marked l.fn.host) [] l.waiting.items (g.H.Host.marked l.host) true;
  empty : l.rest.items ≡ [];
  room : vec_len l.waiting ≤ vec_capacity l.rest;
  capacity : (n : ℕ) → n ≤ vec_capacity l.fn.waiting → n ≤ vec_capacity l.fn.rest → (n ≤ vec_capacity l.waiting) × (n ≤ vec_capacity l.rest);
  same : g.H.Host.is_same l.fn.host l.host;
}

abbrev pub decreases-loop : goal.decreases-loop
decreases-loop g l = vec_len l.waiting
