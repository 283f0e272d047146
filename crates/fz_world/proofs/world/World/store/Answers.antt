use Rattle.std.proofs.Common.{◌≡◌, ◌++◌, Some, None, sym, ap, ◌∙◌}
use Rattle.fz_model.specs.Memory.{slot_word}
use Rattle.fz_model.specs.Causes.{Causes, first_cause, slot_causes, place_causes}
use Rattle.fz_model.specs.declared.call.Call.TheVariants.{Store}
use Rattle.fz_model.specs.Places.{slot_at, place_at}
use Rattle.fz_model.specs.Events.{Make, causes}
use Rattle.fz_model.proofs.Judged.{judged_more}
use Rattle.fz_world.proofs.Does.{judged_on}
use Rattle.fz_world.proofs.world.World.store.Goals as goal

pub returns-in_err-write-clause-caused : goal.returns-in_err-write-clause-caused
returns-in_err-write-clause-caused c =
    let heap = c.self.inside.marked.heap in
    let first : Causes = slot_causes c.self.inside.frames (slot_at c.args.frame c.args.slot) in
    let second : Causes = slot_causes c.self.inside.frames (slot_at c.args.from_frame c.args.from_slot) in
    let place : Causes = place_causes heap.objects c.in_ok-word.word c.args.offset in
    let there : first_cause first ≡ None = c.in_ok-word.ensures.judged in
    let also_there : first_cause second ≡ None = c.in_ok-value.ensures.judged in
    let refused : first_cause place ≡ Some c.in_err-write.field-0.0 = c.in_err-write.ensures.judged in
    let here : first_cause (causes c.args.self.now.core (Make (Store (place_at c.args.frame c.args.slot c.args.offset) (slot_at c.args.from_frame c.args.from_slot)))) ≡ Some c.in_err-write.field-0.0 =
    rw (← c.self.view_is)
    (judged_more first (second ++ place_causes heap.objects (slot_word c.self.inside.frames (slot_at c.args.frame c.args.slot)) c.args.offset) there
    ∙ judged_more second (place_causes heap.objects (slot_word c.self.inside.frames (slot_at c.args.frame c.args.slot)) c.args.offset) also_there
    ∙ ap (λ word. first_cause (place_causes heap.objects word c.args.offset)) (sym c.in_ok-word.ensures.word)
    ∙ refused) in
    judged_on (causes c.args.self.now.core (Make (Store (place_at c.args.frame c.args.slot c.args.offset) (slot_at c.args.from_frame c.args.from_slot)))) _ _ here c.from_residual-in_err-write.ensures.1
