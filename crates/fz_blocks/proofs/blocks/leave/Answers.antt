use Rattle.std.proofs.Common.{◌∙◌, ap, sym, subst, slice_set}
use Rattle.fz_blocks.specs.Classes.{class_of}
use Rattle.fz_blocks.specs.Listed.{Leaves}
use Rattle.fz_blocks.proofs.Listed.{leaves_room}
use Rattle.fz_blocks.proofs.blocks.leave.Goals as goal

pub returns-then-has_room : goal.returns-then-has_room
returns-then-has_room c =
    let on = sym c.has_room.ensures ∙ c.if-has_room.true in
    let class_is = c.class_of.ensures ∙ ap (λ n. class_of n c.args.block.now.kind) c.from.ensures in
    subst (λ s. Leaves c.args.rooms.now (slice_set c.args.rooms.now c.class_of.result s) c.args.block.now c.args.at) (sym c.remove.ensures)
    (leaves_room c.args.rooms.now c.args.block.now c.args.at on c.class_of.result class_is c.requires.classes c.index-rooms-class_of.result c.index-rooms-class_of.is)
