use Rattle.std.proofs.Common.{◌≡◌, List, length, map, sym, subst, arith}
use Rattle.std.proofs.lemmas.List.FromFn.{length-map-range_with_len, take-map-range_with_len}
use Rattle.std.specs.List.{range_with_len}
use Rattle.fz_model.specs.Bits.{has_bit}
use Rattle.fz_machine.specs.declared.item.Item.{Item}
use Rattle.fz_machine.specs.declared.phase.Phase.{Phase}
use Rattle.fz_machine.specs.Graph.{graph_of}
use Rattle.fz_machine.specs.Responds.{IsAbout}
use Rattle.fz_machine.specs.Runs.{AreHonest}
use Rattle.fz_machine.proofs.Truly.{IsMore, bits_on, honest_on, may_ask, with_no, with_yes}
use Rattle.fz_machine.proofs.over.answers.Goals as goal
use Rattle.fz_machine.proofs.over.answers.Goals.{then-respond_with_values, else-respond_with_values}

pub respond_with_values-requires : goal.respond_with_values-requires
respond_with_values-requires g c =
    let first = graph_of (g.H.Host.objects c.args.host.now) (g.H.Host.marked c.args.host.now) in
    let (phase, items, of) = c.requires.asked in
    may_ask g.H.Host.is_exact g.H.Host.place g.H.Values.value phase c.args.ask c.args.about.now items first of c.loop-index.index c.loop-index-test.true
    (graph_of (g.H.Host.objects c.loop-index.host) (g.H.Host.marked c.loop-index.host)) (c.loop-index.invariant.askable phase items of)

pub loop-index-preserved : goal.loop-index-preserved
loop-index-preserved g c =
    let first = graph_of (g.H.Host.objects c.args.host.now) (g.H.Host.marked c.args.host.now) in
    let now = graph_of (g.H.Host.objects c.loop-index.host) (g.H.Host.marked c.loop-index.host) in
    let new = graph_of (g.H.Host.objects c.respond_with_values.new.host) (g.H.Host.marked c.respond_with_values.new.host) in
    let bits = c.loop-index.bits in
    let i = c.loop-index.index in
    let lt = c.loop-index-test.true in
    let answer = c.respond_with_values.result in
    let so_far = map (has_bit bits) (range_with_len 0 i) in
    let more : IsMore bits i answer c.if-respond_with_values.bits = elim c.if-respond_with_values.branch [
      | then-respond_with_values w ↦ subst (λ b. IsMore bits i b c.if-respond_with_values.bits) (sym w.if-respond_with_values.true) (with_yes bits i c.loop-index.invariant.rest c.if-respond_with_values.bits w.bit-bits.result w.bits-is w.bit-bits.ensures)
      | else-respond_with_values w ↦ subst (λ b. IsMore bits i b c.if-respond_with_values.bits) (sym w.if-respond_with_values.false) (with_no bits i c.loop-index.invariant.rest c.if-respond_with_values.bits w.bits-is)
    ] in
    let on = λ (phase : Phase) (items : List Item) (of : IsAbout g.H.Host.is_exact g.H.Host.place g.H.Values.value phase c.args.ask c.args.about.now items first).
    honest_on g.H.Host.is_exact g.H.Host.place g.H.Values.value phase c.args.ask c.args.about.now items first of i lt now new so_far answer (length-map-range_with_len (has_bit bits) 0 i)
    (c.loop-index.invariant.honest phase items of) (c.loop-index.invariant.askable phase items of) c.respond_with_values.ensures.honest in
    record {
      few = omega (arith, lt);
      rest = more.rest;
      honest = λ phase items of. subst (λ xs. AreHonest g.H.Host.is_exact g.H.Host.place g.H.Values.value phase xs items first new) (sym (bits_on bits c.if-respond_with_values.bits i answer more.before more.here)) (on phase items of).0;
      askable = λ phase items of. (on phase items of).1;
      same = g.met.H.Host.transitive c.args.host.now c.loop-index.host c.respond_with_values.new.host c.loop-index.invariant.same c.respond_with_values.ensures.same;
    }

pub returns-clause-honest : goal.returns-clause-honest
returns-clause-honest g c phase items of =
    let about = c.args.about.now in
    let few = c.requires.few in
    let least = c.loop-index.invariant.few in
    let over = c.loop-index-test.false in
    let all : c.loop-index.index ≡ length about = omega (arith, least, over) in
    let bits = c.loop-index.bits in
    subst (λ xs. AreHonest g.H.Host.is_exact g.H.Host.place g.H.Values.value phase xs items (graph_of (g.H.Host.objects c.args.host.now) (g.H.Host.marked c.args.host.now)) (graph_of (g.H.Host.objects c.loop-index.host) (g.H.Host.marked c.loop-index.host)))
    (sym (take-map-range_with_len (has_bit bits) 0 64 (length about) few))
    (subst (λ n. AreHonest g.H.Host.is_exact g.H.Host.place g.H.Values.value phase (map (has_bit bits) (range_with_len 0 n)) items (graph_of (g.H.Host.objects c.args.host.now) (g.H.Host.marked c.args.host.now)) (graph_of (g.H.Host.objects c.loop-index.host) (g.H.Host.marked c.loop-index.host)))
    all (c.loop-index.invariant.honest phase items of))
