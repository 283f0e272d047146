use Rattle.std.proofs.Common.{◌≡◌, None, MatchOption, refl, sym, subst, length}
use Rattle.fz_model.specs.Allocation.{place_in}
use Rattle.fz_blocks.specs.Claims.{IsClaimed}
use Rattle.fz_blocks.specs.Layout.{extents_in}
use Rattle.fz_blocks.proofs.Claiming.{nowhere}
use Rattle.fz_blocks.proofs.claims.claim_place.Goals as goal

pub returns-in_err-at : goal.returns-in_err-at
returns-in_err-at c =
    subst (λ r. MatchOption r ((place_in (extents_in c.args.blocks.now) (length c.args.blocks.now) c.args.size c.args.kind ≡ None) × (c.args.blocks.now ≡ c.args.blocks.now)) (λ start. IsClaimed c.args.blocks.now c.args.blocks.now c.args.size c.args.kind start))
    (sym c.from_residual.ensures) (nowhere c.args.blocks.now c.requires.runs c.args.size c.args.kind c.requires.sized c.in_default.ensures c.in_err-at.ensures, refl)
