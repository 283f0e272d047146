-- What is kept so far, with what still is an ephemeron of the rest, is the same.
use Rattle.std.proofs.Common.{◌≡◌, ◌++◌, filter, length}
use Rattle.fz_machine.specs.Items.{is_still}
use Rattle.fz_machine.proofs.listing.keep_still.Given as goal

abbrev pub invariant-loop-item : goal.invariant-loop-item
invariant-loop-item l = record {
  kept : l.walk.kept ++ filter (is_still l.kind l.finalizers.ephemerons) l.walk.left ≡ l.initial.walk.kept ++ filter (is_still l.kind l.finalizers.ephemerons) l.initial.walk.left;
  others : l.walk ≡ record l.initial.walk { kept = l.walk.kept; left = l.walk.left };
}

abbrev pub decreases-loop-item : goal.decreases-loop-item
decreases-loop-item l = length l.walk.left
