use Rattle.std.proofs.Common.{◌-◌, sym, ap, ◌∙◌}
use Rattle.fz_model.specs.Memory.{points}
use Rattle.own_heap.specs.Records.{objects_of}
use Rattle.own_heap.proofs.Valued.{low_in, value_in, value_none}
use Rattle.own_heap.proofs.records.Records.value.Goals as goal

pub returns-in_default : goal.returns-in_default
returns-in_default c = sym (value_none c.args.self.now.slots.items c.args.word (sym c.in_default.ensures))

pub returns-in_default-at : goal.returns-in_default-at
returns-in_default-at c = absurd ((low_in c.args.self.now.slots.items c.args.word c.in-Some.start (sym c.in-Some.ensures)).1 c.in_default-at.ensures)

pub returns : goal.returns
returns c =
    let slots = c.args.self.now.slots.items in
    c.holder-2.ensures ∙ ap (points (objects_of slots)) c.saturating_sub.ensures ∙ ap (λ w. points (objects_of slots) (w - 4)) c.word.ensures ∙ sym (value_in slots c.args.word c.in-Some.start c.in-Some-at.read.now (sym c.in-Some.ensures) c.in-Some-at.ensures)
