-- What the unmarked ones among the registered objects so far lead to is marked.
use Rattle.std.proofs.Common.{◌≡◌, ◌++◌, not}
use Rattle.fz_pass.specs.Leading.{AnyOf}
use Rattle.fz_pass.proofs.AnyOf.{LeadsIf}
use Rattle.fz_pass.specs.Marks.{Marks}
use Rattle.fz_pass.proofs.leading.mark_led.Given as goal

abbrev pub invariant-loop-object : goal.invariant-loop-object
invariant-loop-object g l = record {
  objects : g.H.Host.objects l.host ≡ g.H.Host.objects l.initial.host;
  marked : Marks g.H.Host.is_exact (g.H.Host.objects l.initial.host) (g.H.Host.marked l.initial.host) (g.H.Host.marked l.host)
      (AnyOf l.yielded (LeadsIf (g.H.Host.objects l.initial.host) (λ a. not (g.H.Host.marked l.initial.host a))));
  same : g.H.Host.is_same l.initial.host l.host;
  rest : l.yielded ++ l.object-iterator ≡ l.initial.object-iterator;
}
