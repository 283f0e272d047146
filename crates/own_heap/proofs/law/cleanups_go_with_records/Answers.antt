use Rattle.own_heap.proofs.Attaching.{cleanups_go}
use Rattle.own_heap.proofs.law.cleanups_go_with_records.Goals as goal

pub returns : goal.returns
returns c = cleanups_go
