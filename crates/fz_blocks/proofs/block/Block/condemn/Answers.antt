use Rattle.std.proofs.Common.{◌∙◌, arith, refl, sym}
use Rattle.fz_blocks.proofs.Chosen.{kept_bit, added_bit, kept_are, added_are, kept_separate, kept_none, chosen_count, chosen_none, chosen_some}
use Rattle.fz_blocks.proofs.block.Block.condemn.Goals as goal

pub invariant_of-self : goal.invariant_of-self
invariant_of-self c =
    let block = c.args.self.now in
    record {
      sized = block.sized;
      cells_are = block.cells_are;
      objects_are = kept_are block c.args.places;
      condemned_are = added_are block c.args.places;
      separate = kept_separate block c.args.places;
      none_later = kept_none block c.args.places;
    }

pub returns-clause-condemns : goal.returns-clause-condemns
returns-clause-condemns c = record { alike = record { cells = refl; size = refl; back = refl; kind = refl }; gone = kept_bit c.args.self.now c.args.places; condemned = added_bit c.args.self.now c.args.places }

pub returns-clause-count : goal.returns-clause-count
returns-clause-count c = let is = c.from.ensures in let sum = chosen_count c.args.self.now c.args.places in omega (arith, is, sum)

pub returns-clause-none : goal.returns-clause-none
returns-clause-none c = λ none. chosen_none c.args.self.now c.args.places (sym c.from.ensures ∙ none)

pub returns-clause-some : goal.returns-clause-some
returns-clause-some c = λ some. let is = c.from.ensures in chosen_some c.args.self.now c.args.places (omega (arith, some, is))
