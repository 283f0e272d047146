use Rattle.std.proofs.Common.{sym, subst}
use Rattle.own_heap.specs.Records.{objects_of}
use Rattle.own_heap.specs.Marking.{IsAmong}
use Rattle.own_heap.proofs.Slots.{among}
use Rattle.own_heap.proofs.Traced.{marks_alone}
use Rattle.own_heap.proofs.host.HeapHost.mark_alone.Goals as goal

pub insert-requires : goal.insert-requires
insert-requires c = subst (λ n. IsAmong n c.args.object) (sym c.args.self.now.size) (among c.args.self.now.records.slots.items c.args.object c.requires.object)

pub returns-clause-marked : goal.returns-clause-marked
returns-clause-marked c = marks_alone (objects_of c.args.self.now.records.slots.items) c.args.self.now.marks c.insert.new.self c.args.object c.requires.closed c.requires.last c.insert.ensures.marked
