use Rattle.std.proofs.Common.{◌≢◌, Some, arith, sym, subst, ◌∙◌}
use Rattle.std.proofs.lemmas.Bool.{both_ways}
use Rattle.fz_model.specs.declared.kinds.RegKind.{RegKind}
use Rattle.fz_why.specs.Trail.{has, is_cut, Adds, IsByFirst, IsByUnfound}
use Rattle.fz_why.proofs.Adding.{adds_nothing, adds_on}
use Rattle.fz_why.proofs.waiting.add_other.Goals as goal

pub returns-then-from-object : goal.returns-then-from-object
returns-then-from-object g c = record {
  added = adds_nothing _ _ (λ o b h. h.0 (omega arith));
}

pub returns-then-contains : goal.returns-then-contains
returns-then-contains g c = record {
  added = adds_nothing _ _ (λ o b h. both_ways (has c.args.found.now c.args.from) h.1 (sym c.contains.ensures ∙ c.if-contains.true));
}

pub returns : goal.returns
returns g c = record {
  added =
      let ne : c.args.from ≢ c.args.object = omega arith in
      let objects = g.H.Paths.objects c.args.host.now in
      let cut = is_cut (g.H.Paths.link c.args.host.now) c.args.finalizers.now.state (Some c.args.found.now) in
      let pointers = g.H.Paths.pointers c.args.host.now c.args.from in
      let first = subst (λ (k : RegKind). Adds (IsByFirst objects cut pointers c.args.from k) c.args.trail.now c.add_first_steps.new.trail) c.kind_toward-counted.ensures c.in_ok-add_first_steps.ensures.added in
      adds_on (IsByUnfound objects cut pointers c.args.found.now c.args.object c.args.from c.args.early c.args.kind) first c.in_ok-add_early.ensures.added
      (λ o b. (λ h. h.2, λ h. (ne, sym c.contains.ensures ∙ c.if-contains.false, h)));
}
