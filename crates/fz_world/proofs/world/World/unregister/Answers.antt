use Rattle.std.proofs.Common.{◌≡◌, sym, IsFalse}
use Rattle.fz_model.specs.Memory.{lacks_slot, slot_word}
use Rattle.fz_model.specs.Places.{slot_at}
use Rattle.fz_world.specs.Addresses.{Unregisters}
use Rattle.fz_world.proofs.Addresses.{by_slot}
use Rattle.fz_world.proofs.world.World.unregister.Goals as goal

pub returns-clause-step : goal.returns-clause-step
returns-clause-step c =
    let e = c.unregister_at.ensures in
    let slot = slot_at c.args.frame c.args.slot in
    let there : IsFalse (lacks_slot c.args.self.now.frames slot) = rw (← c.self.view_is) c.in_ok-word.ensures.there in
    let at : slot_word c.args.self.now.frames slot ≡ c.in_ok-word.word = rw (← c.self.view_is) (sym c.in_ok-word.ensures.word) in
    (by_slot _ _ _ (Unregisters c.unregister_at.result) e.by e.slots slot there at).0

pub returns-clause-caused : goal.returns-clause-caused
returns-clause-caused c =
    let e = c.unregister_at.ensures in
    let slot = slot_at c.args.frame c.args.slot in
    let there : IsFalse (lacks_slot c.args.self.now.frames slot) = rw (← c.self.view_is) c.in_ok-word.ensures.there in
    let at : slot_word c.args.self.now.frames slot ≡ c.in_ok-word.word = rw (← c.self.view_is) (sym c.in_ok-word.ensures.word) in
    (by_slot _ _ _ (Unregisters c.unregister_at.result) e.by e.slots slot there at).1
