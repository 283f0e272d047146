use Rattle.std.proofs.lemmas.Bool.{both_ways}
use Rattle.fz_why.specs.declared.origin.Origin.TheVariants.{Itself}
use Rattle.fz_why.proofs.Adding.{adds_nothing, adds_one, adds_as}
use Rattle.fz_why.proofs.waiting.add_early.Goals as goal

pub returns-then-not-early : goal.returns-then-not-early
returns-then-not-early c = record { added = adds_nothing _ _ (λ o b h. both_ways c.args.early c.if-not-early.true h.1) }

pub returns : goal.returns
returns c = record {
  added =
      adds_as _ (adds_one c.args.trail.now c.add.new.self c.args.object Itself c.in_ok-add.ensures.added) (λ o b. (λ h. (h.0, h.2), λ h. (h.0, c.if-not-early.false, h.1)));
}
