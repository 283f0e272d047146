use Rattle.std.proofs.Common.{◌≡◌, ◌∙◌, ◌≤◌, ◌<◌, ◌+◌, ◌++◌, Bool, true, false, drop, get_or, length, take, ap, sym, subst, refl, append-nil, arith}
use Rattle.std.proofs.lemmas.List.{length-set, take_all}
use Rattle.std.proofs.lemmas.Option.{slice_get-get_or}
use Rattle.std.specs.Int.{from_bool}
use Rattle.fz_finalizers.specs.declared.kinds.Kind.TheVariants.{Normal}
use Rattle.fz_machine.specs.Asks.{bits_of}
use Rattle.fz_machine.specs.Sifts.{chosen}
use Rattle.fz_machine.proofs.Masked.{bit_taken, bits_taken, chosen_none, kept_moved, left_moved}
use Rattle.fz_machine.proofs.answers.choose.Goals as goal

pub loop-index-init : goal.loop-index-init
loop-index-init c =
    let order = c.requires.order in
    let before = take c.args.kept c.args.items.now in
    record {
      few = (omega arith, omega (arith, order));
      long = refl;
      kept = sym (ap (λ xs. before ++ xs) (chosen_none (drop c.args.place c.args.items.now)) ∙ append-nil before);
      left = refl;
    }

from_bool-le : (b : Bool) → from_bool b ≤ 1
from_bool-le true = omega arith
from_bool-le false = omega arith

pub loop-index-preserved : goal.loop-index-preserved
loop-index-preserved c =
    let inv = c.loop-index.invariant in
    let i = c.loop-index.index in
    let lt = c.loop-index-test.true in
    let within = c.requires.within in
    let es = c.loop-index.items in
    let were = c.args.items.now in
    let place = c.args.place in
    let bits = take c.args.count (bits_of c.args.bits) in
    let le = inv.few.1 in
    let long = inv.long in
    let enough = within.1 in
    let here : place + i < length es = omega (arith, lt, long, enough) in
    let item = get_or es (place + i) (record { object = 0; word = 0; kind = Normal; turn = 0; known = false }) in
    let at = slice_get-get_or es (place + i) (record { object = 0; word = 0; kind = Normal; turn = 0; known = false }) here in
    let taken = bits_taken c.args.bits c.args.count within.0 in
    let bit = bit_taken c.args.bits c.args.count within.0 i lt ∙ sym c.has_bit.ensures in
    let most = from_bool-le c.has_bit.result in
    let one = c.from-end.ensures in
    record {
      few = (omega (arith, lt), omega (arith, le, most, one));
      long = length-set es c.loop-index.end item ∙ long;
      kept = kept_moved es were c.loop-index.end place i item le inv.left at bits c.has_bit.result bit (omega (arith, lt, taken)) (take c.args.kept were) (c.loop-index.end + c.from-end.result) (omega (arith, le, here)) (ap (λ n. c.loop-index.end + n) one) inv.kept;
      left = left_moved es were c.loop-index.end place i item le inv.left;
    }

pub returns-clause-kept : goal.returns-clause-kept
returns-clause-kept c =
    let past = c.loop-index-test.false in
    let few = c.loop-index.invariant.few.0 in
    let long = bits_taken c.args.bits c.args.count c.requires.within.0 in
    c.loop-index.invariant.kept
    ∙ ap (λ bs. take c.args.kept c.args.items.now ++ chosen bs (drop c.args.place c.args.items.now)) (take_all c.loop-index.index (take c.args.count (bits_of c.args.bits)) (omega (arith, past, few, long)))

pub returns-clause-left : goal.returns-clause-left
returns-clause-left c =
    let past = c.loop-index-test.false in
    let few = c.loop-index.invariant.few.0 in
    let same : c.loop-index.index ≡ c.args.count = omega (arith, past, few) in
    subst (λ k. drop (c.args.place + k) c.loop-index.items ≡ drop (c.args.place + k) c.args.items.now) same c.loop-index.invariant.left
