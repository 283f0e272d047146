use Rattle.std.proofs.Common.{◌%◌, sym, ap, ◌∙◌, subst}
use Rattle.own_heap.specs.Records.{start_of, objects_of, AreFieldsKept}
use Rattle.own_heap.proofs.Slots.{nowhere}
use Rattle.own_heap.proofs.Clearing.{clears_nothing, clears, fields_cleared}
use Rattle.own_heap.proofs.records.Records.clear.Goals as goal

pub returns-in-Some-clause-objects : goal.returns-in-Some-clause-objects
returns-in-Some-clause-objects c = ap objects_of c.empty.ensures ∙ clears c.args.self.now.slots.items c.args.word c.in-Some.place (sym c.in-Some.ensures)

pub returns-in_default-clause-objects : goal.returns-in_default-clause-objects
returns-in_default-clause-objects c =
    let slots = c.args.self.now.slots.items in
    clears_nothing slots c.args.word (nowhere slots (start_of c.args.word) (sym c.in_default.ensures))

pub returns-in-Some-clause-fields : goal.returns-in-Some-clause-fields
returns-in-Some-clause-fields c =
    let slots = c.args.self.now.slots.items in
    subst (AreFieldsKept slots) (sym c.empty.ensures) (fields_cleared slots c.in-Some.place (c.args.word % 4))
