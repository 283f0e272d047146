use Rattle.std.proofs.Common.{◌≡◌, ◌∙◌, ap, subst}
use Rattle.fz_model.specs.declared.kinds.LinkKind.TheVariants.{Short, Long}
use Rattle.fz_finalizers.specs.Cleanups.{is_due}
use Rattle.fz_finalizers.specs.Follows.{Cleans, next_pass}
use Rattle.fz_finalizers.specs.Passed.{DecidesWholeFor}
use Rattle.fz_finalizers.specs.States.{State, View}
use Rattle.fz_finalizers.proofs.finalizers.Finalizers.pass_found.Goals as goal

pub returns-clause-passes : goal.returns-clause-passes
returns-clause-passes g c =
    let t = g.H.Host in
    let old = c.args.self.now.state in
    let begun = c.clean.new.self.state in
    let passed = c.decide.new.self.state in
    let host = c.decide.new.host in
    let number : c.saturating_add-pass.result ≡ next_pass old.passes = c.saturating_add-pass.ensures ∙ ap (λ (v : View). next_pass v.passes) c.self.view_is in
    let same : begun.passes ≡ old.passes = ap (λ (s : State). s.passes) c.clean.ensures.cleaned.2 in
    record {
      begun = begun;
      passed = passed;
      short = subst (λ n. Cleans n (is_due Short (t.marked c.args.host.now)) old begun) number c.clean.ensures.cleaned;
      decided = subst (λ n. DecidesWholeFor t.is_exact t.place g.H.Values.value (next_pass n) begun (t.objects c.args.host.now) (t.marked c.args.host.now) passed (t.objects host) (t.marked host)) same c.decide.ensures.decided;
      follows = c.decide.ensures.follows;
      long = subst (λ n. Cleans n (is_due Long (t.marked host)) passed c.clean-2.new.self.state) number c.clean-2.ensures.cleaned;
    }
