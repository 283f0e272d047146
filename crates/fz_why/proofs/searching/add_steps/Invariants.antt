-- The steps by the words so far were added.
use Rattle.std.proofs.Common.{◌^◌, ◌+◌, ◌<◌}
use Rattle.std.specs.Option.{option_copied}
use Rattle.fz_why.specs.Trail.{Adds, is_cut}
use Rattle.fz_why.proofs.Looping.{ByBelow, ByPointer}
use Rattle.fz_why.proofs.searching.add_steps.Given as goal

abbrev pub invariant-loop-index : goal.invariant-loop-index
invariant-loop-index g l =
    Adds (ByBelow l.index (g.H.Paths.pointers l.host l.from) (ByPointer (g.H.Paths.objects l.host) (is_cut (g.H.Paths.link l.host) l.finalizers.state (option_copied l.found)) l.except l.origin))
    l.initial.trail l.trail
    × (l.index + 1 < 2 ^ 64)
