use Rattle.std.proofs.Common.{◌≡◌, ◌++◌, ◌∷◌, [], ◌∙◌, ℕ, List, refl, subst}
use Rattle.std.specs.Option.{option_copied}
use Rattle.fz_pass.proofs.Walking.{one_on, all_of}
use Rattle.fz_pass.specs.Keyed.{of_kind}
use Rattle.fz_why.specs.Trail.{Rows, either, AddsValues, IsRowOf, IsRowOne}
use Rattle.fz_why.proofs.Gaining.{ByListed, listed_all, listed_none, listed_on, values_as, values_none, values_on}
use Rattle.fz_why.proofs.valuing.add_values_of.Goals as goal

pub loop-each-init : goal.loop-each-init
loop-each-init g c =
    let R : ℕ × ℕ → Rows = λ e. IsRowOne (g.H.Paths.place c.args.host.now) (g.H.Paths.value c.args.host.now) (g.H.Paths.link c.args.host.now) (g.H.Paths.objects c.args.host.now) c.args.finalizers.now.state (option_copied c.args.found) c.args.kind e.0 e.1 in
    record { added = values_none (either (option_copied c.args.found) (option_copied c.args.own)) (ByListed [] R) c.args.trail.now (λ key holder b row both one. listed_none R key holder b row); rest = refl }

pub loop-each-preserved : goal.loop-each-preserved
loop-each-preserved g c =
    let R : ℕ × ℕ → Rows = λ e. IsRowOne (g.H.Paths.place c.args.host.now) (g.H.Paths.value c.args.host.now) (g.H.Paths.link c.args.host.now) (g.H.Paths.objects c.args.host.now) c.args.finalizers.now.state (option_copied c.args.found) c.args.kind e.0 e.1 in
    let inv = c.loop-each.invariant in
    let e = c.in-Some.each in
    record {
      added = values_on (either (option_copied c.args.found) (option_copied c.args.own)) (ByListed c.loop-each.yielded R) (R e) (ByListed (c.loop-each.yielded ++ e ∷ []) R) c.args.trail.now c.loop-each.trail c.add_counted.new.trail
          (listed_on R c.loop-each.yielded e) inv.added c.in_ok-add_counted.ensures.added;
      rest = one_on c.loop-each.yielded c.loop-each.each-iterator _ c.next.new.self e inv.rest c.in-Some.ensures.steps;
    }

pub returns : goal.returns
returns g c = record {
  added =
      let R : ℕ × ℕ → Rows = λ e. IsRowOne (g.H.Paths.place c.args.host.now) (g.H.Paths.value c.args.host.now) (g.H.Paths.link c.args.host.now) (g.H.Paths.objects c.args.host.now) c.args.finalizers.now.state (option_copied c.args.found) c.args.kind e.0 e.1 in
      let Of = IsRowOf (g.H.Paths.place c.args.host.now) (g.H.Paths.value c.args.host.now) (g.H.Paths.link c.args.host.now) (g.H.Paths.objects c.args.host.now) c.args.finalizers.now.state (option_copied c.args.found) c.args.kind in
      let behind = either (option_copied c.args.found) (option_copied c.args.own) in
      let es = c.iter_ephemerons-each-items.result in
      let all : c.loop-each.yielded ≡ es = all_of c.loop-each.yielded _ es (c.loop-each.invariant.rest ∙ c.into_iter-each-iterator.ensures.into_iter_gives) c.in-None.ensures.steps.0 in
      values_as behind (ByListed es R) Of c.args.trail.now c.loop-each.trail
      (listed_all R (of_kind c.args.finalizers.now.state.ephemerons c.args.kind) es c.iter_ephemerons-each-items.ensures.all c.iter_ephemerons-each-items.ensures.once)
      (subst (λ (ys : List (ℕ × ℕ)). AddsValues (ByListed ys R) behind c.args.trail.now c.loop-each.trail) all c.loop-each.invariant.added);
}
