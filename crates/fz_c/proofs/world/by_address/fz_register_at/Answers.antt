-- The session's world registers the object at the address, and the handle gets the session back.
use Rattle.std.proofs.Common.{ap, subst, ◌∙◌}
use Rattle.fz_model.specs.declared.finalizer.Finalizer.{Finalizer}
use Rattle.fz_model.specs.declared.kinds.RegKind.{RegKind}
use Rattle.fz_model.specs.Places.{finalizer_of}
use Rattle.fz_world.specs.Registering.{RegistersFinalizer}
use Rattle.fz_c.specs.Told.{by_one}
use Rattle.fz_c.specs.Values.{reg_kind_of}
use Rattle.fz_c.proofs.Told.{changed}
use Rattle.fz_c.proofs.world.by_address.fz_register_at.Goals as goal

pub returns : goal.returns
returns c =
    let did = c.register_at-reply.ensures in
    let finalizer = c.new-finalizer.ensures ∙ ap (λ (k : RegKind). finalizer_of k c.args.proc c.args.cd c.args.rank) c.reg_kind_for.ensures in
    changed (by_one c.args.address (λ reply old slot new. RegistersFinalizer old slot (finalizer_of (reg_kind_of c.args.kind) c.args.proc c.args.cd c.args.rank) reply new)) _ _ _ _ _ _ c.register_at-reply.result c.deref_mut.ensures.value c.in-Some.ensures.taken c.put.ensures
    (subst (λ (f : Finalizer). by_one c.args.address (λ reply old slot new. RegistersFinalizer old slot f reply new) c.deref_mut.result.now.world c.register_at-reply.result c.register_at-reply.new.self) finalizer (did.by, did.slots)) did.refused c.tell_registered.ensures
