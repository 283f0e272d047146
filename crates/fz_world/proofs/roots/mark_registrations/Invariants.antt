use Rattle.std.proofs.Common.{◌≡◌, ◌++◌, IsTrue}
use Rattle.fz_world.specs.Roots.{Marks, SomeOf, IsRootOfRegistration}
use Rattle.fz_world.proofs.roots.mark_registrations.Given as goal

abbrev pub invariant-loop-object : goal.invariant-loop-object
invariant-loop-object l =
    Marks l.initial.marker l.marker (SomeOf (IsRootOfRegistration l.heap.objects (IsTrue l.closed)) l.yielded) × (l.yielded ++ l.object-iterator ≡ l.initial.object-iterator)
