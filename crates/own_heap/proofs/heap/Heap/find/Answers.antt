use Rattle.std.proofs.Common.{◌≡◌, ◌≤◌, None, get_or, length, sym, arith, is_some, IsTrue}
use Rattle.std.proofs.lemmas.Grind.{common_steps}
use Rattle.std.proofs.lemmas.List.{get_or_past}
use Rattle.own_heap.proofs.Slots.{nowhere, slot_at, address_at}
use Rattle.own_heap.proofs.heap.Heap.find.Goals as goal

pub returns-in_err-at-clause-none : goal.returns-in_err-at-clause-none
returns-in_err-at-clause-none c = λ _. nowhere c.args.self.now.records.slots.items c.args.address (sym c.in_err-at.ensures)

pub returns-then-at-len-clause-none : goal.returns-then-at-len-clause-none
returns-then-at-len-clause-none c = λ _.
    let slots = c.args.self.now.records.slots.items in
    let past : length slots ≤ c.in_ok-at.at = omega arith in
    slot_at slots c.args.address c.in_ok-at.at None (sym c.in_ok-at.ensures) (get_or_past slots c.in_ok-at.at None past)

pub returns-then-is_none-clause-none : goal.returns-then-is_none-clause-none
returns-then-is_none-clause-none c = λ _.
    let slots = c.args.self.now.records.slots.items in
    let free : get_or slots c.in_ok-at.at None ≡ None = grind (arith, common_steps, c.index.ensures, c.if-is_none.ensures, c.if-is_none.true) in
    slot_at slots c.args.address c.in_ok-at.at None (sym c.in_ok-at.ensures) free

pub returns-clause-found : goal.returns-clause-found
returns-clause-found c =
    let slots = c.args.self.now.records.slots.items in
    let here : IsTrue (is_some (get_or slots c.in_ok-at.at None)) = grind (arith, common_steps, c.index.ensures, c.if-is_none.ensures, c.if-is_none.false) in
    (sym (address_at c.args.address c.in_ok-at.at (sym c.in_ok-at.ensures)), here)
