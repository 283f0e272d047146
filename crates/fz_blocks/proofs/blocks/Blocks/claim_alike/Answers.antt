use Rattle.std.proofs.Common.{◌≡◌, ◌<◌, List, Some, refl, length, slice_get, slice_set, sym, ap, subst, arith}
use Rattle.std.proofs.lemmas.Option.{slice_get_read}
use Rattle.std.specs.Int.Count.{ones}
use Rattle.fz_blocks.specs.declared.block.Block.{Block}
use Rattle.fz_blocks.specs.Listed.{IsListedAlike}
use Rattle.fz_blocks.proofs.Alike.{stays_listed}
use Rattle.fz_blocks.proofs.Condemned.{waiting_set}
use Rattle.fz_blocks.proofs.blocks.Blocks.claim_alike.Goals as goal

none : ones 0 ≡ 0
unfolding ones
none = refl

pub invariant_of-self : goal.invariant_of-self
invariant_of-self c =
    let blocks = c.self.inside.blocks.items in
    let was = c.index_mut-block.result.now in
    let now = c.claim_least.new.self in
    let within = subst (λ (bs : List Block). c.args.at < length bs) (sym c.self.view_is) c.requires.within in
    let here = slice_get_read blocks (length blocks) c.args.at was refl within c.index_mut-block.ensures.value in
    let is = subst (λ bs. IsListedAlike bs c.args.at now) (sym c.self.view_is) (c.requires.alike was now c.claim_least.result (subst (λ (bs : List Block). slice_get bs c.args.at ≡ Some was) c.self.view_is here) c.claim_least.ensures) in
    let sum = waiting_set blocks c.args.at was now within here in
    let swept = ap ones c.claim_least.ensures.swept in
    (stays_listed blocks c.self.inside.bare c.self.inside.rooms.items c.self.invariant.0 c.args.at now is, omega (arith, sum, swept, none, c.self.invariant.1, c.waiting.ensures))

pub returns : goal.returns
returns c =
    let blocks = c.self.inside.blocks.items in
    let was = c.index_mut-block.result.now in
    let within = subst (λ (bs : List Block). c.args.at < length bs) (sym c.self.view_is) c.requires.within in
    let here = slice_get_read blocks (length blocks) c.args.at was refl within c.index_mut-block.ensures.value in
    record {
      was = was;
      now = c.claim_least.new.self;
      here = subst (λ (bs : List Block). slice_get bs c.args.at ≡ Some was) c.self.view_is here;
      claims = c.claim_least.ensures;
      new_is = ap (λ bs. slice_set bs c.args.at c.claim_least.new.self) c.self.view_is;
    }
