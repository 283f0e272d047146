use Rattle.std.proofs.Common.{◌≡◌, ◌<◌, List, Some, refl, length, slice_get, slice_set, sym, ap, subst, arith}
use Rattle.std.proofs.lemmas.Option.{slice_get_read}
use Rattle.fz_blocks.specs.declared.block.Block.{Block}
use Rattle.fz_blocks.specs.Listed.{IsListedAlike}
use Rattle.fz_blocks.proofs.Alike.{stays_listed}
use Rattle.fz_blocks.proofs.Condemned.{waiting_set, few_waiting, few_condemned}
use Rattle.fz_blocks.proofs.blocks.Blocks.condemn_alike.Goals as goal

pub overflow_add-self : goal.overflow_add-self
overflow_add-self c =
    let few = few_waiting c.self.inside.blocks.items in
    let less = few_condemned c.condemn-count.new.self in
    omega (arith, few, less, c.self.invariant.0.few, c.self.invariant.1, c.condemn-count.ensures.count)

pub invariant_of-self : goal.invariant_of-self
invariant_of-self c =
    let blocks = c.self.inside.blocks.items in
    let now = c.index_mut.result.now in
    let left = c.condemn-count.new.self in
    let within = subst (λ (bs : List Block). c.args.at < length bs) (sym c.self.view_is) c.requires.within in
    let here = slice_get_read blocks (length blocks) c.args.at now refl within c.index_mut.ensures.value in
    let is = subst (λ bs. IsListedAlike bs c.args.at left) (sym c.self.view_is) (c.requires.alike now left (subst (λ (bs : List Block). slice_get bs c.args.at ≡ Some now) c.self.view_is here) c.condemn-count.ensures.condemns) in
    let sum = waiting_set blocks c.args.at now left within here in
    (stays_listed blocks c.self.inside.bare c.self.inside.rooms.items c.self.invariant.0 c.args.at left is, omega (arith, sum, c.self.invariant.1, c.condemn-count.ensures.count))

pub returns : goal.returns
returns c =
    let blocks = c.self.inside.blocks.items in
    let now = c.index_mut.result.now in
    let within = subst (λ (bs : List Block). c.args.at < length bs) (sym c.self.view_is) c.requires.within in
    let here = slice_get_read blocks (length blocks) c.args.at now refl within c.index_mut.ensures.value in
    record {
      was = now;
      left = c.condemn-count.new.self;
      here = subst (λ (bs : List Block). slice_get bs c.args.at ≡ Some now) c.self.view_is here;
      all = c.condemn-count.ensures.condemns;
      count = c.condemn-count.ensures.count;
      new_is = ap (λ bs. slice_set bs c.args.at c.condemn-count.new.self) c.self.view_is;
    }
