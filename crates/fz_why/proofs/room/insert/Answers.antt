use Rattle.std.proofs.Common.{◌∙◌}
use Rattle.fz_why.proofs.Trails.{appended}
use Rattle.fz_why.proofs.room.insert.Goals as goal

pub returns-in-Ok : goal.returns-in-Ok
returns-in-Ok c = record {
  added = c.in-Ok.ensures.entries ∙ appended c.args.entries.now.entries c.args.object c.args.origin c.requires.new;
}
