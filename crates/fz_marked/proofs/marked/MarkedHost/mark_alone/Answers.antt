use Rattle.std.proofs.Common.{◌≡◌, sym, ap, subst}
use Rattle.std.specs.FinSet.{contains}
use Rattle.fz_bits.specs.Flags.{Set}
use Rattle.fz_marker.specs.Marking.{Marking}
use Rattle.fz_pass.specs.Marks.{Marks}
use Rattle.fz_marked.proofs.Traced.{marks_alone}
use Rattle.fz_marked.proofs.marked.MarkedHost.mark_alone.Goals as goal

pub returns-then-is_some-clause-marked : goal.returns-then-is_some-clause-marked
returns-then-is_some-clause-marked c =
    let objects = c.args.self.now.heap.objects in
    let before = c.args.self.now.marker.traced in
    subst (λ (after : Set). Marks (Unit {0}) objects (contains before) (contains after) (λ a. a ≡ c.args.object)) (sym (ap (λ (m : Marking). m.traced) c.trace_alone.ensures)) (marks_alone objects (Unit {0}) before c.args.object c.requires.closed c.requires.last)
