use Rattle.std.proofs.Common.{◌∙◌, Some, is_some, refl, ap, sym, inr}
use Rattle.std.proofs.lemmas.Bool.{both_ways}
use Rattle.std.specs.FinMap.{contains_key}
use Rattle.own_heap.specs.Records.{objects_of, value_of}
use Rattle.own_heap.proofs.Slots.{pointed_stands}
use Rattle.own_heap.proofs.ephemeron.EphemeronPair.value.Goals as goal

pub returns-in_default-value-clause-none : goal.returns-in_default-value-clause-none
returns-in_default-value-clause-none c _ =
    let objects = objects_of c.args.runtime.now.heap.records.slots.items in
    inr (ap (value_of objects) (sym c.word-word.ensures) ∙ sym c.in_default-value.ensures)

pub returns-in_default-find-clause-none : goal.returns-in_default-find-clause-none
returns-in_default-find-clause-none c _ =
    let slots = c.args.runtime.now.heap.records.slots.items in
    absurd
    (both_ways (contains_key (objects_of slots) c.in-Some-value.address) (ap is_some (c.in_default-find.ensures.none refl)) (pointed_stands slots _ c.in-Some-value.address (sym c.in-Some-value.ensures)))

pub returns-clause-value : goal.returns-clause-value
returns-clause-value c =
    let objects = objects_of c.args.runtime.now.heap.records.slots.items in
    ap (value_of objects) (sym c.word-word.ensures) ∙ sym c.in-Some-value.ensures ∙ ap Some (sym c.in-Some-find.ensures.found.0)
