use Rattle.std.proofs.Common.{sym, ap, ◌∙◌, subst}
use Rattle.own_heap.specs.Marking.{IsAmong}
use Rattle.own_heap.proofs.Slots.{pointed_among}
use Rattle.own_heap.specs.Records.{word_of, objects_of}
use Rattle.fz_model.specs.Memory.{points}
use Rattle.own_heap.proofs.records.Records.add_target.Goals as goal

pub add-requires : goal.add-requires
add-requires c =
    let slots = c.args.self.now.slots.items in
    subst (λ n. IsAmong n c.in-Some.target) (sym c.requires) (pointed_among slots (word_of c.args.field) c.in-Some.target (sym (c.in-Some.ensures ∙ ap (points (objects_of slots)) c.word.ensures)))
