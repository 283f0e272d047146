-- The values of the ephemerons so far were added.
use Rattle.std.proofs.Common.{◌≡◌, ◌++◌, ℕ}
use Rattle.std.specs.Option.{option_copied}
use Rattle.fz_why.specs.Trail.{either, AddsValues, IsRowOne}
use Rattle.fz_why.proofs.Gaining.{ByListed}
use Rattle.fz_why.proofs.valuing.add_values_of.Given as goal

abbrev pub invariant-loop-each : goal.invariant-loop-each
invariant-loop-each g l = record {
  added : AddsValues (ByListed l.yielded (λ (e : ℕ × ℕ). IsRowOne (g.H.Paths.place l.host) (g.H.Paths.value l.host) (g.H.Paths.link l.host) (g.H.Paths.objects l.host) l.finalizers.state (option_copied l.found) l.kind e.0 e.1))
      (either (option_copied l.found) (option_copied l.own)) l.initial.trail l.trail;
  rest : l.yielded ++ l.each-iterator ≡ l.initial.each-iterator;
}
