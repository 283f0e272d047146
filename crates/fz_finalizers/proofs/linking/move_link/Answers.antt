use Rattle.std.proofs.Common.{◌∙◌, ap, arith}
use Rattle.std.specs.FinMap.{len}
use Rattle.fz_links.proofs.Moved.{len_moved_to}
use Rattle.fz_finalizers.proofs.linking.move_link.Goals as goal

pub returns-clause-count : goal.returns-clause-count
returns-clause-count c = ap len c.move_within.ensures.moved ∙ len_moved_to c.args.links.now.links c.args.word c.args.to

pub move_within-requires-clause-list : goal.move_within-requires-clause-list
move_within-requires-clause-list c = omega (arith, c.requires.room)
