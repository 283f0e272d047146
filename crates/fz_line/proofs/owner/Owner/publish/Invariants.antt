use Rattle.std.proofs.Common.{◌≡◌, ◌++◌, take}
use Rattle.fz_line.proofs.owner.Owner.publish.Given as goal

abbrev pub invariant-loop-count : goal.invariant-loop-count
invariant-loop-count l = l.self ≡ record l.initial.self { sent = l.initial.self.sent ++ take l.count l.outbox }
