use Rattle.std.proofs.Common.{◌≡◌, sym, IsFalse}
use Rattle.fz_model.specs.Memory.{lacks_slot, slot_word}
use Rattle.fz_model.specs.Places.{slot_at}
use Rattle.fz_world.specs.Addresses.{Links}
use Rattle.fz_world.proofs.Addresses.{by_slots}
use Rattle.fz_world.proofs.world.World.link.Goals as goal

pub returns-clause-step : goal.returns-clause-step
returns-clause-step c =
    let e = c.link_at.ensures in
    let place_slot = slot_at c.args.frame c.args.slot in
    let place : IsFalse (lacks_slot c.args.self.now.frames place_slot) = rw (← c.self.view_is) c.in_ok-word.ensures.there in
    let at_place : slot_word c.args.self.now.frames place_slot ≡ c.in_ok-word.word = rw (← c.self.view_is) (sym c.in_ok-word.ensures.word) in
    let target_slot = slot_at c.args.target_frame c.args.target_slot in
    let target : IsFalse (lacks_slot c.args.self.now.frames target_slot) = rw (← c.self.view_is) c.in_ok-target.ensures.there in
    let at_target : slot_word c.args.self.now.frames target_slot ≡ c.in_ok-target.target = rw (← c.self.view_is) (sym c.in_ok-target.ensures.word) in
    (by_slots _ _ _ _ (Links c.args.which c.args.offset c.link_at.result) e.by e.slots place_slot target_slot place at_place target at_target).0

pub returns-clause-caused : goal.returns-clause-caused
returns-clause-caused c =
    let e = c.link_at.ensures in
    let place_slot = slot_at c.args.frame c.args.slot in
    let place : IsFalse (lacks_slot c.args.self.now.frames place_slot) = rw (← c.self.view_is) c.in_ok-word.ensures.there in
    let at_place : slot_word c.args.self.now.frames place_slot ≡ c.in_ok-word.word = rw (← c.self.view_is) (sym c.in_ok-word.ensures.word) in
    let target_slot = slot_at c.args.target_frame c.args.target_slot in
    let target : IsFalse (lacks_slot c.args.self.now.frames target_slot) = rw (← c.self.view_is) c.in_ok-target.ensures.there in
    let at_target : slot_word c.args.self.now.frames target_slot ≡ c.in_ok-target.target = rw (← c.self.view_is) (sym c.in_ok-target.ensures.word) in
    (by_slots _ _ _ _ (Links c.args.which c.args.offset c.link_at.result) e.by e.slots place_slot target_slot place at_place target at_target).1
