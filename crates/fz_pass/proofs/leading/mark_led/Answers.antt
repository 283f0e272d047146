use Rattle.std.proofs.Common.{◌≡◌, ◌∙◌, ℕ, List, [], not, sym, ap, refl, subst, IsTrue}
use Rattle.std.specs.FinMap.{contains_key}
use Rattle.fz_model.specs.State.{Map, Object}
use Rattle.fz_model.specs.declared.answers.Registration.{Registration}
use Rattle.fz_model.proofs.KeyedEntries.{got}
use Rattle.fz_pass.specs.Leading.{AnyOf, IsLeading, AreLeading, is_unreachable}
use Rattle.fz_pass.proofs.AnyOf.{LeadsIf, any_none}
use Rattle.fz_pass.specs.Marks.{IsClosed, Marks, AreRegistered}
use Rattle.fz_pass.proofs.Marking.{marks_none, marks_as, marks_more, unreachable_entries}
use Rattle.fz_pass.proofs.Walking.{in_middle, one_on, all_of}
use Rattle.fz_pass.proofs.leading.mark_led.Goals as goal

pub loop-object-init : goal.loop-object-init
loop-object-init g c =
    let E = g.H.Host.is_exact in
    let objects = g.H.Host.objects c.args.host.now in
    let marked = g.H.Host.marked c.args.host.now in
    let P = LeadsIf objects (λ a. not (marked a)) in
    record {
      objects = refl;
      marked = marks_none E objects marked (AnyOf [] P) c.requires.closed (λ a any. absurd (any_none P a any));
      same = g.met.H.Host.reflexive c.args.host.now;
      rest = refl;
    }

pub mark_if_unmarked-requires-clause-object : goal.mark_if_unmarked-requires-clause-object
mark_if_unmarked-requires-clause-object g c =
    let e : ℕ × Registration = (c.in-Some.object, c.in-Some.registration) in
    let es = c.iter-object-items.result in
    let is_in = in_middle c.loop-object.yielded c.loop-object.object-iterator es c.next.new.self e (c.loop-object.invariant.rest ∙ c.into_iter-object-iterator.ensures.into_iter_gives) c.in-Some.ensures.steps in
    let here = got es e.0 e.1 c.iter-object-items.ensures.once is_in in
    ap (λ (m : Map Object). contains_key m e.0) c.loop-object.invariant.objects
    ∙ subst (λ (m : Map Registration). AreRegistered (g.H.Host.objects c.args.host.now) m) (sym c.iter-object-items.ensures.all) c.requires.registered e.0 e.1 here

pub mark_if_unmarked-requires-clause-closed : goal.mark_if_unmarked-requires-clause-closed
mark_if_unmarked-requires-clause-closed g c =
    subst (λ (m : Map Object). IsClosed m (g.H.Host.marked c.loop-object.host)) (sym c.loop-object.invariant.objects) c.loop-object.invariant.marked.closed

pub loop-object-preserved : goal.loop-object-preserved
loop-object-preserved g c =
    let t = g.H.Host in
    let E = t.is_exact in
    let objects = t.objects c.args.host.now in
    let old = t.marked c.args.host.now in
    let mid = t.marked c.loop-object.host in
    let new = t.marked c.mark_if_unmarked.new.host in
    let inv = c.loop-object.invariant in
    let e : ℕ × Registration = (c.in-Some.object, c.in-Some.registration) in
    record {
      objects = c.mark_if_unmarked.ensures.objects ∙ inv.objects;
      marked = marks_more E objects old mid new c.loop-object.yielded e inv.marked
          (subst (λ (m : Map Object). Marks E m mid new (λ a. IsTrue (not (mid e.0)) × IsLeading m e.0 e.1.kind a)) inv.objects c.mark_if_unmarked.ensures.marked);
      same = g.met.H.Host.transitive c.args.host.now c.loop-object.host c.mark_if_unmarked.new.host inv.same c.mark_if_unmarked.ensures.same;
      rest = one_on c.loop-object.yielded c.loop-object.object-iterator _ c.next.new.self e inv.rest c.in-Some.ensures.steps;
    }

pub returns-clause-marked : goal.returns-clause-marked
returns-clause-marked g c =
    let E = g.H.Host.is_exact in
    let objects = g.H.Host.objects c.args.host.now in
    let old = g.H.Host.marked c.args.host.now in
    let new = g.H.Host.marked c.loop-object.host in
    let es = c.iter-object-items.result in
    let P = LeadsIf objects (λ a. not (old a)) in
    let all : c.loop-object.yielded ≡ es = all_of c.loop-object.yielded _ es (c.loop-object.invariant.rest ∙ c.into_iter-object-iterator.ensures.into_iter_gives) c.in-None.ensures.steps.0 in
    let led = subst (λ (ys : List (ℕ × Registration)). Marks E objects old new (AnyOf ys P)) all c.loop-object.invariant.marked in
    let registered = subst (λ (m : Map Registration). AreRegistered objects m) (sym c.iter-object-items.ensures.all) c.requires.registered in
    subst (λ (m : Map Registration). Marks E objects old new (AreLeading objects m (is_unreachable objects m old))) c.iter-object-items.ensures.all
    (marks_as E objects old new (AnyOf es P) _ (unreachable_entries E objects old es c.iter-object-items.ensures.once registered) led)
