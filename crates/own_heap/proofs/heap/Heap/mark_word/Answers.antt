use Rattle.std.proofs.Common.{◌≡◌, sym, subst}
use Rattle.own_heap.specs.Records.{objects_of, IsLedByWord}
use Rattle.own_heap.specs.Marking.{IsAmong}
use Rattle.own_heap.proofs.Slots.{pointed_among}
use Rattle.own_heap.proofs.Traced.{tracing_begins, marks_as}
use Rattle.own_heap.proofs.Collected.{led_by_word}
use Rattle.own_heap.proofs.heap.Heap.mark_word.Goals as goal

pub add-requires : goal.add-requires
add-requires c =
    let self = c.args.self.now in
    subst (λ n. IsAmong n c.in-Some.object) (sym self.size) (pointed_among self.records.slots.items c.args.word c.in-Some.object (sym c.in-Some.ensures))

pub close-requires-clause-traced : goal.close-requires-clause-traced
close-requires-clause-traced c =
    let self = c.args.self.now in
    tracing_begins (objects_of self.records.slots.items) self.marks c.add.new.self (λ a. a ≡ c.in-Some.object) c.requires.closed self.idle c.add.ensures

pub returns-in-Some-clause-marked : goal.returns-in-Some-clause-marked
returns-in-Some-clause-marked c =
    let self = c.args.self.now in
    let objects = objects_of self.records.slots.items in
    marks_as objects self.marks c.add.new.self (λ a. a ≡ c.in-Some.object) c.requires.closed self.idle c.add.ensures c.close.new.marks c.close.ensures.traced c.close.ensures.idle (IsLedByWord objects c.args.word) (led_by_word objects c.args.word c.in-Some.object (sym c.in-Some.ensures))
