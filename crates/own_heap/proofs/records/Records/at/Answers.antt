use Rattle.std.proofs.Common.{◌≡◌, None, get_or, sym, ap, ◌∙◌, rules, arith, option_map}
use Rattle.std.proofs.lemmas.Grind.{common_steps}
use Rattle.std.specs.FinMap.{get}
use Rattle.own_heap.specs.Records.{objects_of, object_of}
use Rattle.own_heap.proofs.Slots.{nowhere, slot_at, copied_object}
use Rattle.own_heap.proofs.records.Records.at.Goals as goal

pub returns-in_err-place_of : goal.returns-in_err-place_of
returns-in_err-place_of c =
    let none : get (objects_of c.args.self.now.slots.items) c.args.address ≡ None = nowhere c.args.self.now.slots.items c.args.address (sym c.in_err-place_of.ensures) in
    search rules

pub returns-in_err-get : goal.returns-in_err-get
returns-in_err-get c =
    let slots = c.args.self.now.slots.items in
    let past : get_or slots c.in_ok-place_of.field-0 None ≡ None = grind (arith, common_steps, c.in_err-get.ensures.lookup) in
    let none : get (objects_of slots) c.args.address ≡ None = slot_at slots c.args.address c.in_ok-place_of.field-0 None (sym c.in_ok-place_of.ensures) past in
    search rules

pub returns : goal.returns
returns c =
    let slots = c.args.self.now.slots.items in
    let there : get_or slots c.in_ok-place_of.field-0 None ≡ c.in_ok-get.field-0.now = grind (arith, common_steps, c.in_ok-get.ensures.lookup) in
    slot_at slots c.args.address c.in_ok-place_of.field-0 c.in_ok-get.field-0.now (sym c.in_ok-place_of.ensures) there ∙ ap (option_map object_of) (sym c.as_ref.ensures.value) ∙ copied_object c.as_ref.result
