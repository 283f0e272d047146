use Rattle.std.proofs.Common.{◌∙◌}
use Rattle.fz_machine.proofs.Gathered.{asks_alike}
use Rattle.fz_machine.proofs.going_on.asks_same.Goals as goal

pub returns-then-are_alike-clause-same : goal.returns-then-are_alike-clause-same
returns-then-are_alike-clause-same c = λ on. let alike = c.are_alike.ensures c.if-are_alike.true in asks_alike c.args.phase c.args.item.now c.args.other.now alike.0 alike.1 ∙ c.requires
