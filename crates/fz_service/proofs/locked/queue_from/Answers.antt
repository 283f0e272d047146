-- What is behind the forgotten entries, and then behind the others before the number.
use Rattle.std.proofs.Common.{◌≡◌, ◌+◌, ◌-◌, drop, ap, ◌∙◌, arith}
use Rattle.std.proofs.lemmas.List.{take_rest, drop-drop}
use Rattle.fz_service.proofs.locked.queue_from.Goals as goal

pub returns-clause-queue : goal.returns-clause-queue
returns-clause-queue c =
    let n = c.args.number - c.forgotten.result in
    let world = c.args.world.now in
    let whole : world.forgotten + n ≡ c.args.number = omega (arith, c.forgotten.ensures, c.requires.0) in
    take_rest c.queue.result.now n ∙ ap (drop n) c.queue.ensures.queue ∙ drop-drop n world.forgotten world.queue ∙ ap (λ k. drop k world.queue) whole
