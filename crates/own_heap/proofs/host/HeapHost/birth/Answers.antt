use Rattle.std.proofs.Common.{sym}
use Rattle.own_heap.proofs.Slots.{born_never}
use Rattle.own_heap.proofs.host.HeapHost.birth.Goals as goal

pub returns : goal.returns
returns c = λ o here. sym (born_never c.args.self.now.records.slots.items c.args._object o here)
