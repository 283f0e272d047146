use Rattle.std.proofs.Common.{◌∙◌, ℕ, ap}
use Rattle.std.specs.FinMap.{get}
use Rattle.fz_model.specs.Events.{links_of}
use Rattle.fz_model.specs.State.{Map}
use Rattle.fz_world.specs.World.{WorldView}
use Rattle.fz_world.proofs.Linking.{links_in_core}
use Rattle.fz_world.proofs.world.World.target.Goals as goal

pub returns : goal.returns
returns c =
    let w = c.self.inside in
    c.target.ensures ∙ ap (λ (m : Map ℕ). get m c.args.place) (links_in_core w.marked.heap w.frames w.closed w.cycle w.finalizers.state c.args.which)
    ∙ ap (λ (v : WorldView). get (links_of v.core c.args.which) c.args.place) c.self.view_is
