use Rattle.std.proofs.Common.{ap, ◌∙◌}
use Rattle.std.specs.Bool.{then_some}
use Rattle.own_heap.specs.Records.{start_of}
use Rattle.own_heap.proofs.Slots.{held}
use Rattle.own_heap.proofs.records.Records.holder.Goals as goal

pub returns : goal.returns
returns c =
    c.then_some.ensures
    ∙ ap (λ b. then_some b (start_of c.args.word)) c.is_some.ensures
    ∙ held c.args.self.now.slots.items c.args.word c.at.result c.at.ensures
