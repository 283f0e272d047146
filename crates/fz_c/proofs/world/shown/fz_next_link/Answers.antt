-- The session is looked at, and the handle gets it back.
use Rattle.std.proofs.Common.{subst}
use Rattle.fz_model.specs.declared.kinds.LinkKind.{LinkKind}
use Rattle.fz_c.specs.Shows.{IsNextLink}
use Rattle.fz_c.proofs.Looking.{finds}
use Rattle.fz_c.proofs.world.shown.fz_next_link.Goals as goal

pub returns : goal.returns
returns c = finds _ _ _ _ c.in-Some.it.value c.deref.result.now c.next_link-reply.result c.deref.ensures c.in-Some.ensures.taken c.put.ensures (subst (λ (k : LinkKind). IsNextLink c.deref.result.now.world k c.args.from c.next_link-reply.result) c.kind_for.ensures (c.next_link-reply.ensures.first, c.next_link-reply.ensures.target)) c.tell_linked.ensures
