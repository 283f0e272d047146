use Rattle.std.proofs.Common.{◌≡◌, ◌∙◌, ◌++◌, ◌≤◌, List, drop, length, min, take, zip, Option, Some, ap, sym, subst, refl, arith}
use Rattle.fz_machine.specs.declared.phase.Phase.{Phase}
use Rattle.fz_machine.specs.Going.{AreAlike, AreTables, AsksNone, IsInOrder, Lacks, asked_in, going, left_in, questions_by, told_in}
use Rattle.fz_machine.specs.Machines.{GoesTo, Machine, Words, next_of, questions_left}
use Rattle.fz_machine.specs.Regions.{Regions as Table}
use Rattle.fz_machine.proofs.Asked.{after_heard, alike_complete, alike_lacks, alike_lengths, are_complete, heard_fewer, heard_no_more, rewritten, words_on}
use Rattle.fz_machine.proofs.Turned.{lengths}
use Rattle.fz_machine.proofs.machine.Machine.next_marks.Goals as goal

pub invariant_of-self : goal.invariant_of-self
invariant_of-self c =
    let i = c.self.inside in
    let old = i.tables.items in
    let new = c.hear.new.tables in
    let alike : AreAlike old new = subst (λ (ts : List Table). AreAlike ts new) c.deref_mut.ensures.value c.hear.ensures.same in
    let whole = rewritten i.tables.len old new (let ok = i.tables.ok.0 in omega (arith, ok)) alike.count in
    let order = c.self.invariant.0 in
    let are : AreTables i.finalizers.state new (Some c.in-Some.phase) =
    c.hear.ensures.heard i.finalizers.state (subst (λ (ts : List Table). AreTables i.finalizers.state ts (Some c.in-Some.phase)) (sym c.deref_mut.ensures.value) (subst (λ (o : Option Phase). AreTables i.finalizers.state old o) c.in-Some.is order.tables)) in
    subst (λ (ts : List Table). IsInOrder i.finalizers.state i.walk ts i.phase × AsksNone i.phase i.asked × Lacks i.phase ts) (sym whole)
    (record { room = order.room; room_off = order.room_off; tables = subst (λ (o : Option Phase). AreTables i.finalizers.state new o) (sym c.in-Some.is) are }, c.self.invariant.1, alike_lacks i.phase old new alike c.self.invariant.2)

module _ (c : goal.After-ask) where
  abbrev old : List Table
  old = c.self.inside.tables.items

  abbrev new : List Table
  new = c.hear.new.tables

  alike : AreAlike old new
  alike = subst (λ (ts : List Table). AreAlike ts new) c.deref_mut.ensures.value c.hear.ensures.same

  whole : take c.self.inside.tables.len (new ++ drop (length new) old) ≡ new
  whole = rewritten c.self.inside.tables.len old new (let ok = c.self.inside.tables.ok.0 in omega (arith, ok)) alike.count

  many : length old ≡ 7
  many = c.self.invariant.0.tables.count

  left : left_in new (Some c.in-Some.phase) ≡ drop (min (asked_in old (Some c.in-Some.phase)) 64) (left_in old (Some c.in-Some.phase))
  left = c.hear.ensures.left ∙ ap (λ (ts : List Table). drop (min (asked_in ts (Some c.in-Some.phase)) 64) (left_in ts (Some c.in-Some.phase))) c.deref_mut.ensures.value

  told : told_in new (Some c.in-Some.phase) ≡ told_in old (Some c.in-Some.phase) ++ zip (take (asked_in old (Some c.in-Some.phase)) (left_in old (Some c.in-Some.phase))) c.args.words.now
  told = c.hear.ensures.told ∙ ap (λ (ts : List Table). told_in ts (Some c.in-Some.phase) ++ zip (take (asked_in ts (Some c.in-Some.phase)) (left_in ts (Some c.in-Some.phase))) c.args.words.now) c.deref_mut.ensures.value

pub returns-clause-goes : goal.returns-clause-goes
returns-clause-goes c =
    let i = c.self.inside in
    let at = c.in-Some.is in
    subst (λ (m : Machine). GoesTo m (Words c.args.words.now) c.ask.new.self (next_of c.ask.result c.ask.new.about)) c.self.view_is
    (after_heard _ _ _ (Words c.args.words.now) c.in-Some.phase _ at refl
    (ap (λ (ts : List Table). going i.finalizers i.walk (told_in ts i.phase)) (whole c) ∙ words_on i.finalizers i.walk (old c) (new c) c.args.words.now i.phase c.in-Some.phase at (told c))
    refl refl refl (ap are_complete (whole c) ∙ alike_complete (old c) (new c) (many c) (alike c)) (ap lengths (whole c) ∙ alike_lengths (old c) (new c) (many c) (alike c))
    (subst (λ (ts : List Table). questions_by i.phase ts ≤ questions_by i.phase (old c)) (sym (whole c)) (subst (λ (o : Option Phase). questions_by o (new c) ≤ questions_by o (old c)) (sym at) (heard_no_more (old c) (new c) c.in-Some.phase (many c) (alike c) (left c)))) c.ask.ensures.goes)

pub returns-clause-over : goal.returns-clause-over
returns-clause-over c = λ phase question asks.
    let i = c.self.inside in
    let at = c.in-Some.is in
    let fewer = c.ask.ensures.goes.fewer in
    let mid = ap (λ (ts : List Table). questions_by i.phase ts) (whole c) ∙ ap (λ (o : Option Phase). questions_by o (new c)) at in
    let regions = ap (λ (m : Machine). length m.regions) c.self.view_is ∙ asks.count ∙ asks.most ∙ ap (λ (m : Machine). min 64 m.remaining) (sym c.self.view_is) in
    let most = subst (λ (o : Option Phase). length (take (asked_in (old c) o) (left_in (old c) o)) ≡ min 64 (length (left_in (old c) o))) at regions in
    let count = asks.most ∙ ap (λ (m : Machine). min 64 m.remaining) (sym c.self.view_is) ∙ ap (λ (o : Option Phase). min 64 (length (left_in (old c) o))) at in
    let one = asks.some in
    let less = heard_fewer (old c) (new c) c.in-Some.phase (many c) (alike c) (left c) most (omega (arith, count, one)) in
    let was = ap (λ (o : Option Phase). questions_by o (old c)) (sym at) ∙ ap questions_left c.self.view_is in
    omega (arith, fewer, mid, less, was)
