-- The session's world moves the link between the two addresses, and the handle gets the session back.
use Rattle.std.proofs.Common.{subst}
use Rattle.fz_model.specs.declared.kinds.LinkKind.{LinkKind}
use Rattle.fz_world.specs.Addresses.{Moves}
use Rattle.fz_c.specs.Told.{by_two}
use Rattle.fz_c.specs.Values.{link_kind_of}
use Rattle.fz_c.proofs.Told.{changed}
use Rattle.fz_c.proofs.world.by_address.fz_move_link_at.Goals as goal

pub returns : goal.returns
returns c =
    let did = c.move_link_at-reply.ensures in
    changed (by_two c.args.address c.args.to (Moves (link_kind_of c.args.is_long) c.args.offset c.args.to_offset)) _ _ _ _ _ _ c.move_link_at-reply.result c.deref_mut.ensures.value c.in-Some.ensures.taken c.put.ensures
    (subst (λ (k : LinkKind). by_two c.args.address c.args.to (Moves k c.args.offset c.args.to_offset) c.deref_mut.result.now.world c.move_link_at-reply.result c.move_link_at-reply.new.self) c.kind_for.ensures (did.by, did.slots)) did.refused c.tell_moved.ensures
