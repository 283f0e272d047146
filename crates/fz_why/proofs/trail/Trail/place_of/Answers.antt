use Rattle.std.proofs.Common.{◌∙◌, sym, ap, subst, is_some}
use Rattle.fz_why.specs.Trail.{has, IsAt}
use Rattle.fz_why.proofs.Trails.{found_at}
use Rattle.fz_why.proofs.trail.Trail.place_of.Goals as goal

pub returns-in-Some : goal.returns-in-Some
returns-in-Some c =
    let f = c.in-Some.found in
    subst (λ es. IsAt es f.0 c.args.object) c.self.view_is (found_at c.self.inside.entries.entries c.args.object f.0 f.1.now f.2.now (sym c.in-Some.ensures.key) c.in-Some.ensures.entry)

pub returns-in-None : goal.returns-in-None
returns-in-None c = ap (λ es. has es c.args.object) (sym c.self.view_is) ∙ sym (ap is_some c.in-None.ensures.value)
