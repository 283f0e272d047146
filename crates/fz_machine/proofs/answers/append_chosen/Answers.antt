use Rattle.std.proofs.Common.{◌∙◌, ◌++◌, ◌∷◌, [], cond, false, get_or, length, take, ap, sym, append-nil, arith}
use Rattle.std.proofs.lemmas.List.{length-append, take_all}
use Rattle.std.proofs.lemmas.Option.{slice_get-get_or}
use Rattle.fz_finalizers.specs.declared.kinds.Kind.TheVariants.{Normal}
use Rattle.fz_machine.specs.declared.item.Item.{Item}
use Rattle.fz_machine.specs.Asks.{bits_of}
use Rattle.fz_machine.specs.Sifts.{chosen}
use Rattle.fz_machine.proofs.Masked.{appended_more, bits_taken, chosen_long, chosen_none}
use Rattle.fz_machine.proofs.answers.append_chosen.Goals as goal

pub loop-index-init : goal.loop-index-init
loop-index-init c = record {
  few = omega arith;
  appended = sym (ap (λ xs. c.args.list.now.items ++ xs) (chosen_none c.args.items.now) ∙ append-nil c.args.list.now.items);
  grown = omega arith;
}

pub put_chosen-requires : goal.put_chosen-requires
put_chosen-requires c =
    let inv = c.loop-index.invariant in
    let i = c.loop-index.index in
    let bits = take (length c.args.items.now) (bits_of c.args.bits) in
    let long = ap length inv.appended ∙ length-append c.args.list.now.items (chosen (take i bits) c.args.items.now) in
    let most = chosen_long i bits c.args.items.now in
    let room = c.requires.room in
    let grown = inv.grown in
    let lt = c.loop-index-test.true in
    let ok = c.loop-index.list.ok.0 in
    let was = c.args.list.now.ok.0 in
    record { room = omega (arith, long, most, room, grown, lt, ok, was) }

pub loop-index-preserved : goal.loop-index-preserved
loop-index-preserved c =
    let inv = c.loop-index.invariant in
    let i = c.loop-index.index in
    let lt = c.loop-index-test.true in
    let items = c.args.items.now in
    let none : Item = record { object = 0; word = 0; kind = Normal; turn = 0; known = false } in
    let grown = inv.grown in
    let more = c.put_chosen.ensures.room in
    record {
      few = omega (arith, lt);
      appended = c.put_chosen.ensures.listed ∙ ap (λ xs. xs ++ cond c.has_bit.result (get_or items i none ∷ []) []) inv.appended ∙ appended_more c.args.bits (length items) c.requires.few i lt items (get_or items i none) (slice_get-get_or items i none lt) c.has_bit.result c.has_bit.ensures c.args.list.now.items;
      grown = omega (arith, grown, more);
    }

pub returns-clause-appended : goal.returns-clause-appended
returns-clause-appended c =
    let past = c.loop-index-test.false in
    let few = c.loop-index.invariant.few in
    let long = bits_taken c.args.bits (length c.args.items.now) c.requires.few in
    c.loop-index.invariant.appended
    ∙ ap (λ bs. c.args.list.now.items ++ chosen bs c.args.items.now) (take_all c.loop-index.index (take (length c.args.items.now) (bits_of c.args.bits)) (omega (arith, past, few, long)))
