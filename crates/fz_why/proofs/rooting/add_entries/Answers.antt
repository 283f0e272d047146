use Rattle.std.proofs.Common.{◌≡◌, ◌++◌, ◌∷◌, [], ◌∙◌, List, refl, ap, subst}
use Rattle.fz_model.specs.declared.answers.Entry.{Entry}
use Rattle.fz_finalizers.specs.Walks.{somes}
use Rattle.fz_pass.proofs.Walking.{one_on, all_of}
use Rattle.fz_why.specs.Trail.{Adds}
use Rattle.fz_why.proofs.Adding.{adds_nothing, adds_on}
use Rattle.fz_why.proofs.Looping.{ByAny, ByHeld, any_none, any_more}
use Rattle.fz_why.proofs.rooting.add_entries.Goals as goal

pub loop-entry-init : goal.loop-entry-init
loop-entry-init g c =
    let R = ByHeld (g.H.Paths.objects c.args.host.now) in
    record { added = adds_nothing (ByAny [] R) _ (any_none R); rest = refl }

pub loop-entry-preserved : goal.loop-entry-preserved
loop-entry-preserved g c =
    let R = ByHeld (g.H.Paths.objects c.args.host.now) in
    let inv = c.loop-entry.invariant in
    let both = adds_on (R c.in-Some.entry) c.in_ok-add_root.ensures.added c.in_ok-add_root-2.ensures.added (λ o b. (λ h. h, λ h. h)) in
    record {
      added = adds_on (ByAny (c.loop-entry.yielded ++ c.in-Some.entry ∷ []) R) inv.added both (any_more R c.loop-entry.yielded c.in-Some.entry);
      rest = one_on c.loop-entry.yielded (somes c.loop-entry.entry-iterator) _ (somes c.next.new.self) c.in-Some.entry inv.rest c.in-Some.ensures.steps;
    }

pub returns : goal.returns
returns g c = record {
  added =
      let objects = g.H.Paths.objects c.args.host.now in
      let words = somes c.entries-entry-items.result in
      let all : c.loop-entry.yielded ≡ words = all_of c.loop-entry.yielded _ words (c.loop-entry.invariant.rest ∙ ap somes c.into_iter-entry-iterator.ensures.into_iter_gives) c.in-None.ensures.steps.0 in
      subst (λ (ys : List Entry). Adds (ByAny ys (ByHeld objects)) c.args.trail.now c.loop-entry.trail) (all ∙ c.entries-entry-items.ensures.all) c.loop-entry.invariant.added;
}
