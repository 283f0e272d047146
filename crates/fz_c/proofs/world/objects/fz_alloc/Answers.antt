-- The session's world allocates the object, and the handle gets the session back.
use Rattle.std.proofs.Common.{subst}
use Rattle.fz_model.specs.declared.call.Call.TheVariants.{Alloc}
use Rattle.fz_model.specs.declared.kinds.ObjKind.{ObjKind}
use Rattle.fz_model.specs.Events.{Event, Make}
use Rattle.fz_model.specs.Places.{slot_at}
use Rattle.fz_world.specs.Does.{Does}
use Rattle.fz_c.specs.Told.{IsCausedBy}
use Rattle.fz_c.specs.Places.{kind_of}
use Rattle.fz_c.proofs.Told.{called}
use Rattle.fz_c.proofs.world.objects.fz_alloc.Goals as goal

pub returns : goal.returns
returns c =
    let did = c.alloc-reply.ensures in
    let event : ObjKind → Event = λ k. Make (Alloc (slot_at c.args.slot.frame c.args.slot.slot) c.args.size k) in
    called (event (kind_of c.args.atomic)) _ _ _ _ _ _ c.alloc-reply.result c.deref_mut.ensures.value c.in-Some.ensures.taken c.put.ensures
    (subst (λ (k : ObjKind). Does c.deref_mut.result.now.world (event k) c.alloc-reply.result c.alloc-reply.new.self) c.kind_for.ensures did.step)
    (subst (λ (k : ObjKind). IsCausedBy c.deref_mut.result.now.world (event k) c.alloc-reply.result) c.kind_for.ensures did.caused) did.refused c.tell_made.ensures
