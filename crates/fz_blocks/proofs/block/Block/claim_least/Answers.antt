use Rattle.std.proofs.Common.{arith, refl, sym, ap, ◌∙◌, ◌||◌, ◌==◌, ◌≡◌, true, subst, bit_and, w64, ⊎_elim}
use Rattle.std.proofs.lemmas.Bool.{cases_Bool, eqb-true, both_ways}
use Rattle.std.specs.Int.{bit_not, trailing_zeros}
use Rattle.fz_model.specs.Bits.{has_bit}
use Rattle.fz_blocks.specs.Blocks.{Claims}
use Rattle.fz_blocks.proofs.Bits.{set_bit}
use Rattle.fz_model.proofs.Bits.{no_bits}
use Rattle.fz_blocks.proofs.Objects.{least_within, least_cell, least_free, before_least}
use Rattle.fz_blocks.proofs.block.Block.claim_least.Goals as goal

pub overflow_shl-self : goal.overflow_shl-self
overflow_shl-self c = least_within c.args.self.now c.requires.room _ refl

pub invariant_of-self : goal.invariant_of-self
invariant_of-self c =
    let block = c.args.self.now in
    let within = least_within block c.requires.room _ refl in
    let cell = least_cell block c.requires.room _ refl in
    record {
      sized = block.sized;
      cells_are = block.cells_are;
      objects_are = λ place on.
          ⊎_elim
          (λ is. subst (λ p. has_bit block.cells p ≡ true) (sym (eqb-true place _ is)) cell)
          (λ ne. block.objects_are place (ap (λ t. t || has_bit block.objects place) (sym ne) ∙ sym (set_bit block.objects _ place within) ∙ on))
          (cases_Bool (place == trailing_zeros w64 (bit_and block.cells (bit_not w64 block.objects))));
      condemned_are = λ place on. absurd (both_ways _ (no_bits place) on);
      separate = λ place on. no_bits place;
      none_later = λ later. let own = c.requires.own in absurd (omega (arith, later, own));
    }

pub returns : goal.returns
returns c =
    let block = c.args.self.now in
    let within = least_within block c.requires.room _ refl in
    let cell = least_cell block c.requires.room _ refl in
    subst (Claims block _) (sym c.from.ensures) (record {
      alike = record { cells = refl; size = refl; back = refl; kind = refl };
      swept = refl;
      cell = sym (block.cells_are _) ∙ cell;
      free = least_free block c.requires.room _ refl;
      least = before_least block c.requires.room _ refl;
      claimed = λ place. set_bit block.objects _ place within;
    })
