use Rattle.std.proofs.Common.{◌≡◌, sym, IsFalse}
use Rattle.fz_model.specs.Memory.{lacks_slot, slot_word}
use Rattle.fz_model.specs.Places.{slot_at}
use Rattle.fz_world.specs.Addresses.{Unlinks}
use Rattle.fz_world.proofs.Addresses.{by_slot}
use Rattle.fz_world.proofs.world.World.unlink.Goals as goal

pub returns-clause-step : goal.returns-clause-step
returns-clause-step c =
    let e = c.unlink_at.ensures in
    let place_slot = slot_at c.args.frame c.args.slot in
    let place : IsFalse (lacks_slot c.args.self.now.frames place_slot) = rw (← c.self.view_is) c.in_ok-word.ensures.there in
    let at_place : slot_word c.args.self.now.frames place_slot ≡ c.in_ok-word.word = rw (← c.self.view_is) (sym c.in_ok-word.ensures.word) in
    (by_slot _ _ _ (Unlinks c.args.which c.args.offset c.unlink_at.result) e.by e.slots place_slot place at_place).0

pub returns-clause-caused : goal.returns-clause-caused
returns-clause-caused c =
    let e = c.unlink_at.ensures in
    let place_slot = slot_at c.args.frame c.args.slot in
    let place : IsFalse (lacks_slot c.args.self.now.frames place_slot) = rw (← c.self.view_is) c.in_ok-word.ensures.there in
    let at_place : slot_word c.args.self.now.frames place_slot ≡ c.in_ok-word.word = rw (← c.self.view_is) (sym c.in_ok-word.ensures.word) in
    (by_slot _ _ _ (Unlinks c.args.which c.args.offset c.unlink_at.result) e.by e.slots place_slot place at_place).1
