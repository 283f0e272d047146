use Rattle.std.proofs.Common.{◌≢◌, ◌∙◌, arith, sym}
use Rattle.fz_why.proofs.Adding.{adds_nothing, adds_one, adds_as}
use Rattle.fz_why.proofs.searching.add_unless.Goals as goal

pub returns-then-object-other : goal.returns-then-object-other
returns-then-object-other c = record {
  added = adds_nothing _ _ (λ o b h. h.2 (omega (arith, h.1)));
}

pub returns : goal.returns
returns c = record {
  added =
      let ne : c.args.object ≢ c.args.other = omega arith in
      adds_as _ (adds_one c.args.trail.now c.add.new.self c.args.object c.args.origin c.in_ok-add.ensures.added)
      (λ o b. (λ h. (h.0, h.1), λ h. (h.0, h.1, λ same. ne (sym h.1 ∙ same))));
}
