use Rattle.std.proofs.Common.{None, set, option_map, sym, ap, ◌∙◌, arith}
use Rattle.std.proofs.lemmas.List.{set_past}
use Rattle.own_heap.specs.Records.{with_field}
use Rattle.own_heap.proofs.records.Records.set.Goals as goal

pub returns-in_default : goal.returns-in_default
returns-in_default c =
    let slots = c.args.self.now.slots.items in
    sym (set_past slots c.args.place _ (omega (arith, c.in_default.ensures.item)))

pub returns-in-Some-slot : goal.returns-in-Some-slot
returns-in-Some-slot c =
    let slots = c.args.self.now.slots.items in
    let item = c.in-Some.ensures.item in
    ap (λ s. set slots c.args.place (option_map (with_field c.args.field c.args.value) s)) (sym (sym (item.3.1 None) ∙ c.in-Some-slot.is))

pub returns-in_default-slot : goal.returns-in_default-slot
returns-in_default-slot c =
    let slots = c.args.self.now.slots.items in
    let item = c.in-Some.ensures.item in
    let none = sym (item.3.1 None) ∙ c.in_default-slot.is in
    ap (set slots c.args.place) (c.in_default-slot.is ∙ ap (option_map (with_field c.args.field c.args.value)) (sym none))
