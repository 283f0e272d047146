use Rattle.std.proofs.Common.{◌≡◌, sym, IsFalse}
use Rattle.fz_model.specs.Memory.{lacks_slot, slot_word}
use Rattle.fz_world.specs.Registering.{RegistersFinalizer}
use Rattle.fz_world.proofs.Addresses.{by_slot}
use Rattle.fz_world.proofs.world.World.register_finalizer.Goals as goal

pub returns : goal.returns
returns c =
    let e = c.register_at.ensures in
    let there : IsFalse (lacks_slot c.args.self.now.frames c.args.slot) = rw (← c.self.view_is) c.in_ok-word.ensures.there in
    let at : slot_word c.args.self.now.frames c.args.slot ≡ c.in_ok-word.word = rw (← c.self.view_is) (sym c.in_ok-word.ensures.word) in
    by_slot _ _ _ (λ old slot new. RegistersFinalizer old slot c.args.finalizer c.register_at.result new) e.by e.slots c.args.slot there at
