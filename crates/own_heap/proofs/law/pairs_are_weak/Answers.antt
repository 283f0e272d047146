use Rattle.own_heap.proofs.Weak.{pairs_weak}
use Rattle.own_heap.proofs.law.pairs_are_weak.Goals as goal

pub returns : goal.returns
returns c = pairs_weak
