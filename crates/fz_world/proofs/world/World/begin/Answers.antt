use Rattle.fz_world.proofs.Does.{does_begin}
use Rattle.fz_world.proofs.world.World.begin.Goals as goal

pub returns-clause-step : goal.returns-clause-step
returns-clause-step c = does_begin c.args.self.now c.mark_anew.new.self c.in_ok-check_begin.ensures.judged c.mark_anew.ensures.core (λ a t. (c.mark_anew.ensures.begun.marked a).0 t) c.mark_anew.ensures.forgotten
