use Rattle.std.proofs.Common.{◌≡◌, ◌∙◌, ◌+◌, ◌++◌, List, drop, length, min, take, ap, sym, subst, arith}
use Rattle.std.proofs.lemmas.List.{drop-drop, drop_min, length-drop}
use Rattle.fz_machine.specs.declared.item.Item.{Item}
use Rattle.fz_machine.specs.Asks.{bits_of}
use Rattle.fz_machine.specs.Sifts.{chosen}
use Rattle.fz_machine.specs.Walks.{Walk}
use Rattle.fz_machine.proofs.Index.{written_whole}
use Rattle.fz_machine.proofs.Masked.{chosen_few, kept_whole}
use Rattle.fz_machine.proofs.walk.Walk.sift.Goals as goal

module _ (c : goal.After-self-4-1) where
  abbrev was : List Item
  was = c.self.inside.items.items

  abbrev now : List Item
  now = c.choose-kept.new.items

  value : c.deref_mut.result.now ≡ was
  value = c.deref_mut.ensures.value

  long : length now ≡ length was
  long = c.choose-kept.ensures.long ∙ ap length value

  back : take c.self.inside.items.len (now ++ drop (length now) was) ≡ now
  back = let len = c.self.inside.items.ok.0 in let same = long in written_whole c.self.inside.items.len now (drop (length now) was) (omega (arith, len, same))

  few : c.min-few.result ≡ min c.args.count (length (drop c.self.inside.place was))
  few = let is = c.min-few.ensures in let len = c.self.inside.items.ok.0 in let dropped = length-drop c.self.inside.place was in omega (arith, is, len, dropped)

pub invariant_of-self-2 : goal.invariant_of-self-2
invariant_of-self-2 c =
    let at_most = c.choose-kept.ensures.few in
    let within = few c in
    let dropped = length-drop c.self.inside.place (was c) in
    let now_long = ap length (back c) in
    let same = long c in
    let place = c.self.invariant.1 in
    (at_most, omega (arith, within, dropped, now_long, same, place))

pub returns-clause-kept : goal.returns-clause-kept
returns-clause-kept c =
    let i = c.self.inside in
    let bits = bits_of c.args.bits in
    let chose = subst (λ (xs : List Item). take c.choose-kept.result (now c) ≡ take i.kept xs ++ chosen (take c.min-few.result bits) (drop i.place xs)) (value c) c.choose-kept.ensures.kept in
    ap (take c.choose-kept.result) (back c) ∙ chose ∙ ap (λ xs. take i.kept (was c) ++ xs) (chosen_few bits (drop i.place (was c)) c.args.count c.min-few.result (few c)) ∙ ap (λ (w : Walk). w.kept ++ chosen (take c.args.count bits) w.left) c.self.view_is

pub returns-clause-left : goal.returns-clause-left
returns-clause-left c =
    let i = c.self.inside in
    let stays = subst (λ (xs : List Item). drop (i.place + c.min-few.result) (now c) ≡ drop (i.place + c.min-few.result) xs) (value c) c.choose-kept.ensures.left in
    ap (drop (i.place + c.min-few.result)) (back c) ∙ stays ∙ sym (drop-drop c.min-few.result i.place (was c)) ∙ ap (λ n. drop n (drop i.place (was c))) (few c) ∙ drop_min c.args.count (drop i.place (was c)) ∙ ap (λ (w : Walk). drop c.args.count w.left) c.self.view_is

pub returns-then-self-clause-kept : goal.returns-then-self-clause-kept
returns-then-self-clause-kept c =
    let i = c.self.inside in
    let items = i.items.items in
    let is = c.min-few.ensures in
    let len = i.items.ok.0 in
    let dropped = length-drop i.place items in
    kept_whole c.args.bits c.args.count c.min-few.result i.kept i.place items c.if-bits.true c.requires c.if-self.true (omega (arith, is, len, dropped))
    ∙ ap (λ (w : Walk). w.kept ++ chosen (take c.args.count (bits_of c.args.bits)) w.left) c.self.view_is
