use Rattle.std.proofs.Common.{◌≡◌, ◌∙◌, [], Bool, List, take, refl, sym, ap, subst}
use Rattle.fz_finalizers.specs.Follows.{next_pass}
use Rattle.fz_machine.specs.Asks.{bits_of}
use Rattle.fz_machine.specs.Going.{AreFewer}
use Rattle.fz_machine.specs.Graph.{graph_of}
use Rattle.fz_machine.specs.Machines.{Answers, next_of}
use Rattle.fz_machine.specs.Runs.{AreHonest, Begun, Goes}
use Rattle.fz_machine.proofs.Askable.{asks_on}
use Rattle.fz_machine.proofs.Asked.{fewer_twice}
use Rattle.fz_machine.proofs.Ran.{none_old}
use Rattle.fz_machine.proofs.Truly.{IsAlone, fits_asked, fits_begun, goes_alone, itself_alone, leaves_less, made_flags, made_single, pass_ends}
use Rattle.fz_machine.proofs.machine.Machine.pass_over.Goals as goal

pub loop-step-init : goal.loop-step-init
loop-step-init g c =
    let old = c.args.self.now in
    let before = graph_of (g.H.Host.objects c.args.host.now) (g.H.Host.marked c.args.host.now) in
    let begun = c.begin.new.self in
    let is = c.in_ok-begin.ensures.begun in
    let goes = c.in_ok-step.ensures.goes in
    let none : take begun.asked (bits_of 0) ≡ [] = ap (λ n. take n (bits_of 0)) is.asked in
    record {
      begun = (
        begun,
        is,
        Goes (Answers (take begun.asked (bits_of 0))) goes Begun
            (subst (λ (xs : List Bool). AreHonest g.H.Host.is_exact g.H.Host.place g.H.Values.value goes.phase xs begun.walk.left before before) (sym none) refl),
      );
      tells = goes.tells;
      before = goes.before ∙ is.before;
      fits = fits_asked old.finalizers.state begun c.next_bits.new.self (take begun.asked (bits_of 0)) (next_of c.in_ok-step.step c.next_bits.new.about) none (fits_begun old.finalizers.state 0 old begun refl is) goes;
      alone = goes_alone _ begun c.next_bits.new.self (Answers (take begun.asked (bits_of 0))) (next_of c.in_ok-step.step c.next_bits.new.about) goes (subst (IsAlone (record old.finalizers.state { passes = next_pass old.finalizers.passes })) (sym is.finalizers) (itself_alone _));
      regions = (goes.by ∙ is.same.0, goes.noted ∙ is.same.1, subst (λ ns. AreFewer ns c.next_bits.new.self.tabled) is.same.2 goes.tabled);
      same = g.met.H.Host.reflexive c.args.host.now;
    }

pub answer-requires-clause-askable : goal.answer-requires-clause-askable
answer-requires-clause-askable g c phase at =
    let old = c.args.self.now.finalizers.state in
    let first = graph_of (g.H.Host.objects c.args.host.now) (g.H.Host.marked c.args.host.now) in
    let (begun, is, runs) = c.loop-step.invariant.begun in
    asks_on g.H.Host.is_exact 0 g.H.Host.place g.H.Values.value c.args.self.now begun c.loop-step.self (graph_of (g.H.Host.objects c.args.host.now) (g.H.Host.marked c.args.host.now))
    (graph_of (g.H.Host.objects c.loop-step.host) (g.H.Host.marked c.loop-step.host)) phase (made_flags old c.requires.reached) (made_single old c.requires.reached) is c.requires.begin (none_old old first) runs at

pub loop-step-smaller : goal.loop-step-smaller
loop-step-smaller g c =
    let r = c.in_ok-step-in-Asks.ensures.responds in
    (leaves_less c.args.self.now.finalizers.state c.loop-step.self c.answer.new.self r.heard (next_of c.in_ok-step-in-Asks.step c.answer.new.about) (next_of c.loop-step.step c.loop-step.about) c.loop-step.invariant.tells c.loop-step.invariant.fits r.goes r.advances).less

pub loop-step-preserved : goal.loop-step-preserved
loop-step-preserved g c =
    let (begun, is, runs) = c.loop-step.invariant.begun in
    let r = c.in_ok-step-in-Asks.ensures.responds in
    record {
      begun = (begun, is, Goes r.heard r.goes runs r.honest);
      tells = r.goes.tells;
      before = r.goes.before ∙ c.loop-step.invariant.before;
      fits = (leaves_less c.args.self.now.finalizers.state c.loop-step.self c.answer.new.self r.heard (next_of c.in_ok-step-in-Asks.step c.answer.new.about) (next_of c.loop-step.step c.loop-step.about) c.loop-step.invariant.tells c.loop-step.invariant.fits r.goes r.advances).fits;
      alone = goes_alone _ c.loop-step.self c.answer.new.self r.heard (next_of c.in_ok-step-in-Asks.step c.answer.new.about) r.goes c.loop-step.invariant.alone;
      regions =
          let so_far = c.loop-step.invariant.regions in
          (r.goes.by ∙ so_far.0, r.goes.noted ∙ so_far.1, fewer_twice c.args.self.now.tabled c.loop-step.self.tabled c.answer.new.self.tabled so_far.2 r.goes.tabled);
      same = g.met.H.Host.transitive c.args.host.now c.loop-step.host c.answer.new.host c.loop-step.invariant.same c.answer.ensures.same;
    }

pub returns-in-Ended-clause-passes : goal.returns-in-Ended-clause-passes
returns-in-Ended-clause-passes g c =
    (pass_ends g.H.Host.is_exact g.H.Host.place g.H.Values.value c.args.self.now c.loop-step.invariant.begun.0 c.loop-step.self (graph_of (g.H.Host.objects c.args.host.now) (g.H.Host.marked c.args.host.now)) (graph_of (g.H.Host.objects c.loop-step.host) (g.H.Host.marked c.loop-step.host))
    c.loop-step.step c.in-Ended.passed c.loop-step.about c.requires.reached c.loop-step.invariant.begun.1 c.requires.begin c.loop-step.invariant.begun.2 c.in-Ended.is c.loop-step.invariant.tells c.loop-step.invariant.before c.loop-step.invariant.alone).passes

pub returns-in-Ended-clause-idle : goal.returns-in-Ended-clause-idle
returns-in-Ended-clause-idle g c =
    (pass_ends g.H.Host.is_exact g.H.Host.place g.H.Values.value c.args.self.now c.loop-step.invariant.begun.0 c.loop-step.self (graph_of (g.H.Host.objects c.args.host.now) (g.H.Host.marked c.args.host.now)) (graph_of (g.H.Host.objects c.loop-step.host) (g.H.Host.marked c.loop-step.host))
    c.loop-step.step c.in-Ended.passed c.loop-step.about c.requires.reached c.loop-step.invariant.begun.1 c.requires.begin c.loop-step.invariant.begun.2 c.in-Ended.is c.loop-step.invariant.tells c.loop-step.invariant.before c.loop-step.invariant.alone).idle

pub returns-in-Ended-clause-pass : goal.returns-in-Ended-clause-pass
returns-in-Ended-clause-pass g c =
    (pass_ends g.H.Host.is_exact g.H.Host.place g.H.Values.value c.args.self.now c.loop-step.invariant.begun.0 c.loop-step.self (graph_of (g.H.Host.objects c.args.host.now) (g.H.Host.marked c.args.host.now)) (graph_of (g.H.Host.objects c.loop-step.host) (g.H.Host.marked c.loop-step.host))
    c.loop-step.step c.in-Ended.passed c.loop-step.about c.requires.reached c.loop-step.invariant.begun.1 c.requires.begin c.loop-step.invariant.begun.2 c.in-Ended.is c.loop-step.invariant.tells c.loop-step.invariant.before c.loop-step.invariant.alone).pass

pub returns-in-Ended-clause-picked : goal.returns-in-Ended-clause-picked
returns-in-Ended-clause-picked g c =
    (pass_ends g.H.Host.is_exact g.H.Host.place g.H.Values.value c.args.self.now c.loop-step.invariant.begun.0 c.loop-step.self (graph_of (g.H.Host.objects c.args.host.now) (g.H.Host.marked c.args.host.now)) (graph_of (g.H.Host.objects c.loop-step.host) (g.H.Host.marked c.loop-step.host))
    c.loop-step.step c.in-Ended.passed c.loop-step.about c.requires.reached c.loop-step.invariant.begun.1 c.requires.begin c.loop-step.invariant.begun.2 c.in-Ended.is c.loop-step.invariant.tells c.loop-step.invariant.before c.loop-step.invariant.alone).picked

pub returns-in-Ended-clause-marks : goal.returns-in-Ended-clause-marks
returns-in-Ended-clause-marks g c =
    (pass_ends g.H.Host.is_exact g.H.Host.place g.H.Values.value c.args.self.now c.loop-step.invariant.begun.0 c.loop-step.self (graph_of (g.H.Host.objects c.args.host.now) (g.H.Host.marked c.args.host.now)) (graph_of (g.H.Host.objects c.loop-step.host) (g.H.Host.marked c.loop-step.host))
    c.loop-step.step c.in-Ended.passed c.loop-step.about c.requires.reached c.loop-step.invariant.begun.1 c.requires.begin c.loop-step.invariant.begun.2 c.in-Ended.is c.loop-step.invariant.tells c.loop-step.invariant.before c.loop-step.invariant.alone).marks

pub returns-in-Ended-clause-closed : goal.returns-in-Ended-clause-closed
returns-in-Ended-clause-closed g c =
    (pass_ends g.H.Host.is_exact g.H.Host.place g.H.Values.value c.args.self.now c.loop-step.invariant.begun.0 c.loop-step.self (graph_of (g.H.Host.objects c.args.host.now) (g.H.Host.marked c.args.host.now)) (graph_of (g.H.Host.objects c.loop-step.host) (g.H.Host.marked c.loop-step.host))
    c.loop-step.step c.in-Ended.passed c.loop-step.about c.requires.reached c.loop-step.invariant.begun.1 c.requires.begin c.loop-step.invariant.begun.2 c.in-Ended.is c.loop-step.invariant.tells c.loop-step.invariant.before c.loop-step.invariant.alone).closed
