use Rattle.std.proofs.Common.{◌⊎◌, ◌↔◌, ℕ, IsTrue, subst, sym}
use Rattle.std.specs.FinSet.{contains}
use Rattle.fz_model.specs.Reachability.{Leads}
use Rattle.fz_marker.specs.Marking.{Marking, IsClosed}
use Rattle.fz_marker.proofs.marker.Marker.trace.Goals as goal

pub add_closed-requires-clause-closed : goal.add_closed-requires-clause-closed
add_closed-requires-clause-closed c = subst (λ (m : Marking). IsClosed c.args.heap.now.objects m.traced) (sym c.self.view_is) c.requires.closed

pub returns-clause-traced : goal.returns-clause-traced
returns-clause-traced c =
    subst (λ (m : Marking). (a : ℕ) → IsTrue (contains c.add_closed.new.self.members a) ↔ (IsTrue (contains m.traced a) ⊎ Leads c.args.heap.now.objects c.args.start a)) c.self.view_is c.add_closed.ensures.members
