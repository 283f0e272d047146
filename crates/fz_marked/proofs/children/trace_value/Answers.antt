use Rattle.std.proofs.Common.{◌≡◌, ◌∙◌, Some, refl, sym, ap, subst, inl, ⊎_elim, IsTrue}
use Rattle.std.proofs.lemmas.Option.{same_Some}
use Rattle.std.specs.FinSet.{contains}
use Rattle.fz_model.specs.Memory.{points}
use Rattle.fz_model.specs.Reachability.{Leads}
use Rattle.fz_pass.proofs.Marking.{closed_leads}
use Rattle.fz_marked.specs.Traces.{value_at}
use Rattle.fz_marked.proofs.Traced.{traces_one, traces_as}
use Rattle.fz_marked.proofs.children.trace_value.Goals as goal

pub returns-then-traced-clause-traces : goal.returns-then-traced-clause-traces
returns-then-traced-clause-traces c =
    let objects = c.args.heap.now.objects in
    let old = c.args.marker.now in
    let pointed : value_at objects c.args.address ≡ Some c.in-Some.object = ap (points objects) (sym c.word_at.ensures) ∙ sym c.in-Some.ensures.points in
    let on : IsTrue (contains old.traced c.in-Some.object) = sym c.traced.ensures ∙ c.if-traced.true in
    record {
      same = refl;
      closed = c.requires.closed;
      members = λ a. (
        inl,
        ⊎_elim (λ was. was) (λ (first, also, leads).
            closed_leads ⊥ objects (contains old.traced) (λ x y h child. c.requires.closed x h y child) c.in-Some.object a on (subst (λ x. Leads objects x a) (same_Some first c.in-Some.object (sym also ∙ pointed)) leads)),
      );
    }

pub returns-clause-traces : goal.returns-clause-traces
returns-clause-traces c =
    let objects = c.args.heap.now.objects in
    let pointed : value_at objects c.args.address ≡ Some c.in-Some.object = ap (points objects) (sym c.word_at.ensures) ∙ sym c.in-Some.ensures.points in
    traces_as objects c.args.marker.now c.trace.new.self _ _
    (λ a. (λ leads. (c.in-Some.object, pointed, leads), λ (first, also, leads). subst (λ x. Leads objects x a) (same_Some first c.in-Some.object (sym also ∙ pointed)) leads))
    (traces_one objects c.args.marker.now c.trace.new.self c.in-Some.object c.requires.closed c.trace.ensures.same c.trace.ensures.traced)
