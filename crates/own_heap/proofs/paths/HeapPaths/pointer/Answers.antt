use Rattle.std.proofs.Common.{◌<◌, length, arith}
use Rattle.std.proofs.lemmas.Grind.{common_steps}
use Rattle.own_heap.specs.Records.{object_of}
use Rattle.own_heap.proofs.Slots.{stands, address_at, slice_low}
use Rattle.own_heap.proofs.paths.HeapPaths.pointer.Goals as goal

pub overflow_add-result : goal.overflow_add-result
overflow_add-result c =
    let slots = c.args.self.now.records.slots.items in
    let s = stands slots c.args.object (object_of c.in_ok-at.field-0.now) c.in_ok-at.ensures in
    let low : s.place < length slots = slice_low slots s.place s.read s.slot in
    let is = address_at c.args.object s.place s.at in
    let within : c.args.index < 4 = grind (arith, common_steps, c.in_ok-field.ensures.lookup) in
    omega (arith, low, is, within, c.args.self.now.few)
