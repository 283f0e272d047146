use Rattle.std.proofs.Common.{refl, length, sym, subst, arith}
use Rattle.std.proofs.lemmas.Option.{slice_get_within, slice_get_read}
use Rattle.fz_blocks.specs.Listed.{IsListedAlike}
use Rattle.fz_blocks.proofs.Alike.{stays_listed}
use Rattle.fz_blocks.proofs.Condemned.{waiting_set, few_waiting, few_condemned}
use Rattle.fz_blocks.proofs.blocks.Blocks.put_alike.Goals as goal

pub overflow_add-self : goal.overflow_add-self
overflow_add-self c =
    let few = few_waiting c.self.inside.blocks.items in
    let less = few_condemned c.args.block in
    omega (arith, few, less, c.self.invariant.0.few, c.self.invariant.1, c.waiting.ensures)

pub invariant_of-self : goal.invariant_of-self
invariant_of-self c =
    let blocks = c.self.inside.blocks.items in
    let is = subst (λ bs. IsListedAlike bs c.args.at c.args.block) (sym c.self.view_is) c.requires.alike in
    let within = slice_get_within blocks c.args.at is.was is.here in
    let here = slice_get_read blocks (length blocks) c.args.at c.index.result.now refl within c.index.ensures in
    let sum = waiting_set blocks c.args.at c.index.result.now c.args.block within here in
    (stays_listed blocks c.self.inside.bare c.self.inside.rooms.items c.self.invariant.0 c.args.at c.args.block is, omega (arith, sum, c.self.invariant.1, c.waiting.ensures, c.waiting-2.ensures))
