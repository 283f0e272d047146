-- The session's world makes the link, and the handle gets the session back.
use Rattle.std.proofs.Common.{subst}
use Rattle.fz_model.specs.declared.call.Call.TheVariants.{Link}
use Rattle.fz_model.specs.declared.kinds.LinkKind.{LinkKind}
use Rattle.fz_model.specs.Events.{Event, Make}
use Rattle.fz_model.specs.Places.{place_at, slot_at}
use Rattle.fz_world.specs.Does.{Does}
use Rattle.fz_c.specs.Told.{IsCausedBy}
use Rattle.fz_c.specs.Values.{link_kind_of}
use Rattle.fz_c.proofs.Told.{called}
use Rattle.fz_c.proofs.world.links.fz_link.Goals as goal

pub returns : goal.returns
returns c =
    let did = c.link-reply.ensures in
    let event : LinkKind → Event = λ k. Make (Link k (place_at c.args.slot.frame c.args.slot.slot c.args.offset) (slot_at c.args.target.frame c.args.target.slot)) in
    called (event (link_kind_of c.args.is_long)) _ _ _ _ _ _ c.link-reply.result c.deref_mut.ensures.value c.in-Some.ensures.taken c.put.ensures
    (subst (λ (k : LinkKind). Does c.deref_mut.result.now.world (event k) c.link-reply.result c.link-reply.new.self) c.kind_for.ensures did.step)
    (subst (λ (k : LinkKind). IsCausedBy c.deref_mut.result.now.world (event k) c.link-reply.result) c.kind_for.ensures (did.caused, did.growth)) did.refused c.tell_link_answer.ensures
