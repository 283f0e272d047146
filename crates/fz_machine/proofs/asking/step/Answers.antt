use Rattle.std.proofs.Common.{◌∷◌, ◌++◌, ◌∙◌, [], cond, ap}
use Rattle.fz_machine.specs.Phases.{settles}
use Rattle.fz_machine.proofs.Beside.{room_to_put, stepped_room}
use Rattle.fz_machine.proofs.asking.step.Goals as goal

pub put_off-requires : goal.put_off-requires
put_off-requires c = record { room = room_to_put (settles c.args.phase) c.args.walk.now c.pass_on.new.self c.args.item c.requires.first c.pass_on.ensures.others c.requires.room }

pub returns-clause-room : goal.returns-clause-room
returns-clause-room c =
    let old = c.args.walk.now in
    stepped_room c.args.phase c.args.item c.args.yes old c.pass_on.new.self c.put_off.new.walk c.requires.first
    (c.pass_on.ensures.kept ∙ ap (λ b. cond b (old.kept ++ c.args.item ∷ []) old.kept) c.keeps.ensures) c.pass_on.ensures.left c.pass_on.ensures.others c.put_off.ensures.off c.put_off.ensures.room c.requires.room
