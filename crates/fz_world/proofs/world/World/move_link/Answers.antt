use Rattle.std.proofs.Common.{◌≡◌, sym, IsFalse}
use Rattle.fz_model.specs.Memory.{lacks_slot, slot_word}
use Rattle.fz_model.specs.Places.{slot_at}
use Rattle.fz_world.specs.Addresses.{Moves}
use Rattle.fz_world.proofs.Addresses.{by_slots}
use Rattle.fz_world.proofs.world.World.move_link.Goals as goal

pub returns-clause-step : goal.returns-clause-step
returns-clause-step c =
    let e = c.move_link_at.ensures in
    let place_slot = slot_at c.args.frame c.args.slot in
    let place : IsFalse (lacks_slot c.args.self.now.frames place_slot) = rw (← c.self.view_is) c.in_ok-word.ensures.there in
    let at_place : slot_word c.args.self.now.frames place_slot ≡ c.in_ok-word.word = rw (← c.self.view_is) (sym c.in_ok-word.ensures.word) in
    let to_slot = slot_at c.args.to_frame c.args.to_slot in
    let to : IsFalse (lacks_slot c.args.self.now.frames to_slot) = rw (← c.self.view_is) c.in_ok-to.ensures.there in
    let at_to : slot_word c.args.self.now.frames to_slot ≡ c.in_ok-to.to = rw (← c.self.view_is) (sym c.in_ok-to.ensures.word) in
    (by_slots _ _ _ _ (Moves c.args.which c.args.offset c.args.to_offset c.move_link_at.result) e.by e.slots place_slot to_slot place at_place to at_to).0

pub returns-clause-caused : goal.returns-clause-caused
returns-clause-caused c =
    let e = c.move_link_at.ensures in
    let place_slot = slot_at c.args.frame c.args.slot in
    let place : IsFalse (lacks_slot c.args.self.now.frames place_slot) = rw (← c.self.view_is) c.in_ok-word.ensures.there in
    let at_place : slot_word c.args.self.now.frames place_slot ≡ c.in_ok-word.word = rw (← c.self.view_is) (sym c.in_ok-word.ensures.word) in
    let to_slot = slot_at c.args.to_frame c.args.to_slot in
    let to : IsFalse (lacks_slot c.args.self.now.frames to_slot) = rw (← c.self.view_is) c.in_ok-to.ensures.there in
    let at_to : slot_word c.args.self.now.frames to_slot ≡ c.in_ok-to.to = rw (← c.self.view_is) (sym c.in_ok-to.ensures.word) in
    (by_slots _ _ _ _ (Moves c.args.which c.args.offset c.args.to_offset c.move_link_at.result) e.by e.slots place_slot to_slot place at_place to at_to).1
