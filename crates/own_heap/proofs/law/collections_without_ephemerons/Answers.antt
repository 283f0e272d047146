use Rattle.own_heap.proofs.Without.{collects_without}
use Rattle.own_heap.proofs.law.collections_without_ephemerons.Goals as goal

pub returns : goal.returns
returns c = collects_without
