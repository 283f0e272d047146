use Rattle.std.proofs.Common.{◌≡◌, ◌<◌, ◌∙◌, List, ℕ, length, length-set, set, ap, arith}
use Rattle.std.proofs.lemmas.Bool.Decides.{nat_tests}
use Rattle.std.proofs.lemmas.List.Elements.{All-set}
use Rattle.fz_model.specs.declared.limits.TheConstants.{SLOTS}
use Rattle.fz_world.proofs.frames.Frames.set.Goals as goal

pub invariant_of-self : goal.invariant_of-self
invariant_of-self c =
    let row = c.index_mut-row.result.now in
    let there : c.args.slot.frame < length c.self.inside.rows.items = grind (arith, nat_tests) in
    All-set (λ (row : List ℕ). length row ≡ SLOTS) c.self.inside.rows.items c.args.slot.frame (set row c.args.slot.slot c.args.word)
    (length-set row c.args.slot.slot c.args.word ∙ ap length c.index_mut-row.ensures.value ∙ c.self.invariant c.args.slot.frame row there) c.self.invariant
