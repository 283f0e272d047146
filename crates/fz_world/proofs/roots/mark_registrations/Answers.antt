use Rattle.std.proofs.Common.{◌≡◌, ◌++◌, ◌∷◌, [], ◌∙◌, ℕ, List, sym, ap, subst, refl, append_assoc, append-nil, IsTrue, is_some}
use Rattle.std.specs.FinMap.{get}
use Rattle.fz_model.specs.declared.answers.Registration.{Registration}
use Rattle.fz_model.specs.State.{Map}
use Rattle.fz_marker.specs.Marking.{Marking}
use Rattle.fz_world.specs.Roots.{Marks, SomeOf, IsRegistered, IsRootOfRegistration}
use Rattle.fz_world.proofs.Marking.{marks_none, marks_more, marks_as, registered, yielded_among}
use Rattle.fz_model.proofs.KeyedEntries.{got}
use Rattle.fz_world.proofs.roots.mark_registrations.Goals as goal

pub loop-object-init : goal.loop-object-init
loop-object-init c = (marks_none (IsRootOfRegistration c.args.heap.now.objects (IsTrue c.args.closed)) c.args.marker.now, refl)

pub mark_registration-requires-clause-size : goal.mark_registration-requires-clause-size
mark_registration-requires-clause-size c = ap (λ (m : Marking). m.size) c.loop-object.invariant.0.same ∙ c.requires.size

pub mark_registration-requires-clause-here : goal.mark_registration-requires-clause-here
mark_registration-requires-clause-here c =
    let e : ℕ × Registration = (c.in-Some.object, c.in-Some.registration) in
    let es = c.iter-object-items.result in
    let all : c.loop-object.yielded ++ e ∷ c.next.new.self ≡ es = ap (λ (rest : List (ℕ × Registration)). c.loop-object.yielded ++ rest) (sym c.in-Some.ensures.steps) ∙ c.loop-object.invariant.1 ∙ c.into_iter-object-iterator.ensures.into_iter_gives in
    let here = got es c.in-Some.object c.in-Some.registration c.iter-object-items.ensures.all.1 (yielded_among c.loop-object.yielded e c.next.new.self es all) in
    c.requires.here c.in-Some.object (ap is_some (sym (ap (λ (m : Map Registration). get m c.in-Some.object) c.iter-object-items.ensures.all.0) ∙ here))

pub loop-object-preserved : goal.loop-object-preserved
loop-object-preserved c =
    let e : ℕ × Registration = (c.in-Some.object, c.in-Some.registration) in (
      marks_more (IsRootOfRegistration c.args.heap.now.objects (IsTrue c.args.closed)) c.args.marker.now c.loop-object.marker c.mark_registration.new.marker c.loop-object.yielded e c.loop-object.invariant.0 c.mark_registration.ensures,
      append_assoc c.loop-object.yielded (e ∷ []) c.next.new.self ∙ ap (λ (es : List (ℕ × Registration)). c.loop-object.yielded ++ es) (sym c.in-Some.ensures.steps) ∙ c.loop-object.invariant.1,
    )

pub returns : goal.returns
returns c =
    let objects = c.args.heap.now.objects in
    let Closed = IsTrue c.args.closed in
    let es = c.iter-object-items.result in
    let all : c.loop-object.yielded ≡ es =
    sym (append-nil c.loop-object.yielded) ∙ ap (λ (rest : List (ℕ × Registration)). c.loop-object.yielded ++ rest) (sym c.in-None.ensures.steps.0) ∙ c.loop-object.invariant.1 ∙ c.into_iter-object-iterator.ensures.into_iter_gives in
    let marked = subst (λ (ys : List (ℕ × Registration)). Marks c.args.marker.now c.loop-object.marker (SomeOf (IsRootOfRegistration objects Closed) ys)) all c.loop-object.invariant.0 in
    marks_as c.args.marker.now c.loop-object.marker (SomeOf (IsRootOfRegistration objects Closed) es) (IsRegistered objects Closed c.args.finalizers.now.registrations)
    (registered objects Closed es c.args.finalizers.now.registrations c.iter-object-items.ensures.all.1
    (λ object. ap (λ (m : Map Registration). get m object) c.iter-object-items.ensures.all.0)) marked
