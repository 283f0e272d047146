use Rattle.std.proofs.Common.{bit_and, w64, not, ap, ◌∙◌}
use Rattle.std.proofs.lemmas.Bool.{both_ways, eq-eqb}
use Rattle.std.specs.Int.{bit_not}
use Rattle.fz_blocks.proofs.Chosen.{some_chosen, some_others}
use Rattle.fz_blocks.proofs.block.Block.stays_alike_without.Goals as goal
use Rattle.fz_blocks.proofs.block.Block.stays_alike_without.Goals.{then-not-is_full, else-not-is_full}

pub returns-then-self-places-ne0-clause-gone : goal.returns-then-self-places-ne0-clause-gone
returns-then-self-places-ne0-clause-gone c = λ _.
    some_chosen c.args.self.now c.args.places
    (λ zero.
    elim c.if-not-is_full.branch [
      | then-not-is_full w ↦ both_ways _ (w.value-is ∙ ap not (eq-eqb (bit_and c.args.self.now.objects c.args.places) 0 zero)) c.if-self-places-ne0.true
      | else-not-is_full w ↦ both_ways _ (w.value-is ∙ ap not w.if-not-is_full.false) c.if-self-places-ne0.true
    ])

pub returns-then-self-places-ne0-clause-left : goal.returns-then-self-places-ne0-clause-left
returns-then-self-places-ne0-clause-left c = λ on. some_others c.args.self.now c.args.places c.ranges.places.fits (λ zero. both_ways _ (ap not (eq-eqb (bit_and c.args.self.now.objects (bit_not w64 c.args.places)) 0 zero)) on)
