use Rattle.std.proofs.Common.{◌∙◌, Some, ap, sym}
use Rattle.fz_why.specs.declared.origin.Origin.{Origin}
use Rattle.fz_why.proofs.Back.{back_goes}
use Rattle.fz_why.proofs.reaching.path_to.Goals as goal

pub back-preserved : goal.back-preserved
back-preserved c =
    back_goes c.args.trail.now c.args.object c.back.place c.in-Some-at.here.0 c.in-After.before c.back.path.items c.push.new.path.items c.requires c.back.invariant
    (sym c.in-Some-at.ensures.here ∙ ap (λ (o : Origin). Some (c.in-Some-at.here.0, o)) c.in-After.is) c.in_ok-push.ensures.pushed
