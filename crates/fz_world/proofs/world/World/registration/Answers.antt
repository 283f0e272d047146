use Rattle.std.proofs.Common.{◌∙◌, ap}
use Rattle.std.specs.FinMap.{get}
use Rattle.fz_world.specs.World.{WorldView}
use Rattle.fz_world.proofs.world.World.registration.Goals as goal

pub returns : goal.returns
returns c =
    c.registration.ensures ∙ ap (λ (v : WorldView). get v.registrations c.args.object) c.self.view_is
