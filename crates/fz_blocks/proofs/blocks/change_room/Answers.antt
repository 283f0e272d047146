use Rattle.std.proofs.Common.{◌∙◌, sym, arith}
use Rattle.fz_blocks.proofs.Listed.{changes_none, changes_both}
use Rattle.fz_blocks.proofs.blocks.change_room.Goals as goal

pub returns-then-has_same_room : goal.returns-then-has_same_room
returns-then-has_same_room c = changes_none c.args.rooms.now c.args.at c.args.old.now c.args.block.now c.requires.listed (sym c.has_same_room.ensures ∙ c.if-has_same_room.true)

pub returns : goal.returns
returns c = changes_both c.args.rooms.now c.args.at c.args.old.now c.args.block.now c.requires.listed c.leave.new.rooms c.join.new.rooms c.leave.ensures c.join.ensures

pub join-requires-clause-room : goal.join-requires-clause-room
join-requires-clause-room c = λ class small. let lt = c.requires.room class small in let same = c.leave.ensures.room class in omega (arith, lt, same)
