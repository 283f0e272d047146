-- All steps of the objects so far were added.
use Rattle.std.proofs.Common.{◌^◌, ◌≤◌, length}
use Rattle.std.specs.Option.{option_copied}
use Rattle.fz_why.specs.Trail.{either, is_cut, IsRowBy, IsStepBy, Spreads}
use Rattle.fz_why.proofs.searching.spread.Given as goal

abbrev pub invariant-loop-place : goal.invariant-loop-place
invariant-loop-place g l =
    Spreads (λ a b. IsStepBy (g.H.Paths.objects l.host) (is_cut (g.H.Paths.link l.host) l.finalizers.state (option_copied l.found)) (g.H.Paths.pointers l.host a) b)
    (IsRowBy (g.H.Paths.place l.host) (g.H.Paths.value l.host) (g.H.Paths.link l.host) (g.H.Paths.objects l.host) l.finalizers.state (option_copied l.found)) (either (option_copied l.found) (option_copied l.own)) l.place
    l.initial.trail l.trail
    × (l.place ≤ 2 ^ 63) × (l.place ≤ length l.trail)
