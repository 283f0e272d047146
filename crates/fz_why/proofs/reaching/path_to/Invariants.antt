-- The path so far, from its end back to the object at the index.
use Rattle.fz_why.proofs.Back.{IsBackTo}
use Rattle.fz_why.proofs.reaching.path_to.Given as goal

abbrev pub invariant-back : goal.invariant-back
invariant-back l = IsBackTo l.trail l.object l.place l.path.items

abbrev pub decreases-back : goal.decreases-back
decreases-back l = l.place
