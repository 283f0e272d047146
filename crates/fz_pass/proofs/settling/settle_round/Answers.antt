use Rattle.std.proofs.Common.{◌≡◌, ◌∙◌, ◌+◌, ◌||◌, ℕ, false, length, vec_len, sym, ap, refl, subst, arith}
use Rattle.std.proofs.lemmas.Bool.{true≢false}
use Rattle.fz_model.specs.State.{Map, Object}
use Rattle.fz_pass.specs.Marks.{IsClosed}
use Rattle.fz_pass.specs.Settling.{Rounds, SettlesOne}
use Rattle.fz_pass.proofs.Settled.{round_begins, one_more, one_fewer}
use Rattle.fz_pass.proofs.settling.settle_round.Goals as goal

pub loop-word-init : goal.loop-word-init
loop-word-init g c =
    let t = g.H.Host in
    let R = Rounds t.is_exact t.place g.H.Values.value (t.objects c.args.host.now) c.args.waiting.now.items (t.marked c.args.host.now) c.args.waiting.now.items in
    let none : vec_len c.args.rest.now ≡ 0 = (let ok = c.args.rest.now.ok in let none = ap length c.requires.empty in omega (arith, ok, none)) in
    record {
      objects = refl;
      rounds = subst (λ ys. R ys (t.marked c.args.host.now) false) (sym c.requires.empty) (round_begins t.is_exact t.place g.H.Values.value (t.objects c.args.host.now) c.args.waiting.now.items (t.marked c.args.host.now) c.requires.closed);
      count = omega (arith, none);
      fewer = λ no. absurd (true≢false (sym no));
      waiting = omega arith;
      rest = omega arith;
      same = g.met.H.Host.reflexive c.args.host.now;
    }

pub settle_one-marked-requires-clause-closed : goal.settle_one-marked-requires-clause-closed
settle_one-marked-requires-clause-closed g c = subst (λ (m : Map Object). IsClosed m (g.H.Host.marked c.loop-word.host)) (sym c.loop-word.invariant.objects) c.loop-word.invariant.rounds.closed

pub loop-word-preserved-then-again : goal.loop-word-preserved-then-again
loop-word-preserved-then-again g c =
    let t = g.H.Host in
    let value = g.H.Values.value in
    let objects = t.objects c.args.host.now in
    let start = c.args.waiting.now.items in
    let old = t.marked c.args.host.now in
    let now = t.marked c.loop-word.host in
    let new = t.marked c.settle_one-marked.new.host in
    let x : ℕ × ℕ = (c.in-Some.word, c.in-Some.key) in
    let left = c.pop.new.self.items in
    let rest = c.loop-word.rest.items in
    let new_rest = c.settle_one-marked.new.rest.items in
    let inv = c.loop-word.invariant in
    let marked = c.settle_one-marked.result in
    let r = subst (λ ys. Rounds t.is_exact t.place value objects start old ys rest now c.loop-word.again) c.in-Some.ensures.items inv.rounds in
    let one = subst (λ (m : Map Object). SettlesOne t.is_exact t.place value m x now new rest new_rest marked) inv.objects c.settle_one-marked.ensures.settled in
    let on = one_more t.is_exact t.place value objects start old now new left rest new_rest x c.loop-word.again marked r one in
    let fewer = one_fewer t.is_exact t.place value objects x now new rest new_rest marked one in
    let popped : vec_len c.pop.new.self + 1 ≡ vec_len c.loop-word.waiting = c.in-Some.ensures.cases in
    let most = fewer.0 in
    let rest_ok = c.loop-word.rest.ok.0 in
    let new_ok = c.settle_one-marked.new.rest.ok.0 in
    let count = inv.count in
    record {
      objects = c.settle_one-marked.ensures.objects ∙ inv.objects;
      rounds = subst (Rounds t.is_exact t.place value objects start old left new_rest new) (ap (λ b. b || marked) c.if-again.true ∙ sym c.if-again.true) on;
      count = omega (arith, most, count, popped, rest_ok, new_ok);
      fewer = λ yes. let less = inv.fewer yes in omega (arith, most, less, popped, rest_ok, new_ok);
      waiting = let kept = inv.waiting in let same = c.in-Some.ensures.capacity in omega (arith, kept, same);
      rest = let kept = inv.rest in let same = c.settle_one-marked.ensures.capacity in omega (arith, kept, same);
      same = g.met.H.Host.transitive c.args.host.now c.loop-word.host c.settle_one-marked.new.host inv.same c.settle_one-marked.ensures.same;
    }

pub loop-word-preserved : goal.loop-word-preserved
loop-word-preserved g c =
    let t = g.H.Host in
    let value = g.H.Values.value in
    let objects = t.objects c.args.host.now in
    let start = c.args.waiting.now.items in
    let old = t.marked c.args.host.now in
    let now = t.marked c.loop-word.host in
    let new = t.marked c.settle_one-marked.new.host in
    let x : ℕ × ℕ = (c.in-Some.word, c.in-Some.key) in
    let left = c.pop.new.self.items in
    let rest = c.loop-word.rest.items in
    let new_rest = c.settle_one-marked.new.rest.items in
    let inv = c.loop-word.invariant in
    let marked = c.settle_one-marked.result in
    let r = subst (λ ys. Rounds t.is_exact t.place value objects start old ys rest now c.loop-word.again) c.in-Some.ensures.items inv.rounds in
    let one = subst (λ (m : Map Object). SettlesOne t.is_exact t.place value m x now new rest new_rest marked) inv.objects c.settle_one-marked.ensures.settled in
    let on = one_more t.is_exact t.place value objects start old now new left rest new_rest x c.loop-word.again marked r one in
    let fewer = one_fewer t.is_exact t.place value objects x now new rest new_rest marked one in
    let popped : vec_len c.pop.new.self + 1 ≡ vec_len c.loop-word.waiting = c.in-Some.ensures.cases in
    let most = fewer.0 in
    let rest_ok = c.loop-word.rest.ok.0 in
    let new_ok = c.settle_one-marked.new.rest.ok.0 in
    let count = inv.count in
    record {
      objects = c.settle_one-marked.ensures.objects ∙ inv.objects;
      rounds = subst (Rounds t.is_exact t.place value objects start old left new_rest new) (ap (λ b. b || marked) c.if-again.false) on;
      count = omega (arith, most, count, popped, rest_ok, new_ok);
      fewer = λ yes. let kept = fewer.1 yes in omega (arith, kept, count, popped, rest_ok, new_ok);
      waiting = let kept = inv.waiting in let same = c.in-Some.ensures.capacity in omega (arith, kept, same);
      rest = let kept = inv.rest in let same = c.settle_one-marked.ensures.capacity in omega (arith, kept, same);
      same = g.met.H.Host.transitive c.args.host.now c.loop-word.host c.settle_one-marked.new.host inv.same c.settle_one-marked.ensures.same;
    }
