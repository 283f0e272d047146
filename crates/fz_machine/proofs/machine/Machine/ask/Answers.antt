use Rattle.std.proofs.Common.{All, min, ◌≡◌, ◌∙◌, ◌++◌, ◌<◌, ◌-◌, List, drop, take, length, Option, Some, inl, inr, ap, sym, subst, refl, arith}
use Rattle.std.specs.Option.{IfSome}
use Rattle.fz_machine.specs.declared.item.Item.{Item}
use Rattle.fz_machine.specs.declared.phase.Phase.{Phase}
use Rattle.fz_machine.specs.declared.phase.Phase.TheVariants.{Regions}
use Rattle.fz_machine.specs.declared.phase.Sweep.{Sweep}
use Rattle.fz_machine.specs.Going.{AreAlike, AreTables, AsksNone, Changes, HasAsk, IsInOrder, Lacks, left_in, told_in}
use Rattle.fz_machine.specs.Machines.{AsksRegions}
use Rattle.fz_machine.specs.Regions.{Regions as Table, place_in, table_at}
use Rattle.fz_machine.specs.Steps.{IsQuestion}
use Rattle.fz_machine.proofs.Asked.{asked_alike, asked_tables, asks_items, asks_regions, no_asks, no_lacks, region_left, shown, went, went_on, whole_once, whole_twice}
use Rattle.fz_machine.proofs.Turned.{no_sweep}
use Rattle.fz_machine.proofs.machine.Machine.ask.Goals as goal

pub returns-in_default-clause-goes : goal.returns-in_default-clause-goes
returns-in_default-clause-goes c =
    let i = c.self.inside in
    let o = c.go_on-self-inside in
    went c.args.self.now i.finalizers o.new.finalizers i.walk o.new.walk i.tables.items o.new.tables c.deref_mut.result.now i.phase o.result c.args.phase i.asked i.before i.from i.tables.len i.by c.self.view_is c.requires c.deref_mut.ensures.value
    o.ensures.goes o.ensures.more o.ensures.fewer c.self.invariant.0.tables.count o.ensures.order.tables.count (let ok = i.tables.ok.0 in omega (arith, ok)) 0 _ (c.in_default.is, c.passes.ensures, c.saturating_sub.ensures ∙ ap (λ n. n - i.before) c.queued.ensures)

module _ (c : goal.After-ask) where
  abbrev sweep : Sweep
  sweep = c.in-Regions.sweep

  abbrev tables1 : List Table
  tables1 = c.go_on-self-inside.new.tables

  abbrev tables2 : List Table
  tables2 = c.ask-count.new.tables

  at : c.go_on-self-inside.result ≡ Some (Regions sweep)
  at = c.in-Some.is ∙ ap Some c.in-Regions.is

  once : take c.self.inside.tables.len (tables1 ++ drop (length tables1) c.self.inside.tables.items) ≡ tables1
  once =
      let i = c.self.inside in
      let o = c.go_on-self-inside in
      whole_once c.args.self.now i.finalizers o.new.finalizers i.walk o.new.walk i.tables.items o.new.tables c.deref_mut.result.now i.phase o.result c.args.phase i.asked i.before i.from i.tables.len i.by c.self.view_is c.requires c.deref_mut.ensures.value
      o.ensures.goes o.ensures.more o.ensures.fewer c.self.invariant.0.tables.count o.ensures.order.tables.count (let ok = i.tables.ok.0 in omega (arith, ok))

  mid : c.deref_mut-in-Regions.result.now ≡ tables1
  mid = c.deref_mut-in-Regions.ensures.value ∙ once

  are : AreTables c.go_on-self-inside.new.finalizers.state tables1 (Some (Regions sweep))
  are = subst (λ (o : Option Phase). AreTables c.go_on-self-inside.new.finalizers.state tables1 o) at c.go_on-self-inside.ensures.order.tables

  changes : Changes sweep tables1 tables2
  changes = subst (λ (ts : List Table). Changes sweep ts tables2) mid c.ask-count.ensures.changes

  some : 0 < length (table_at tables1 sweep).left
  some = region_left c.in-Some.phase sweep c.go_on-self-inside.new.walk.left tables1 c.in-Regions.is (subst (λ (o : Option Phase). IfSome o (λ (p : Phase). HasAsk p c.go_on-self-inside.new.walk.left (left_in tables1 (Some p)))) c.in-Some.is c.go_on-self-inside.ensures.some)

  count : c.ask-count.result ≡ min 64 (length (table_at tables1 sweep).left)
  count = c.ask-count.ensures.count ∙ ap (λ (ts : List Table). min 64 (length (table_at ts sweep).left)) mid

  asked : table_at tables2 sweep ≡ record (table_at tables1 sweep) { asked = c.ask-count.result }
  asked = c.ask-count.ensures.asked ∙ ap (λ (ts : List Table). record (table_at ts sweep) { asked = c.ask-count.result }) mid

  about : take c.ask-count.result c.ask-count.new.about ≡ take c.ask-count.result (table_at tables1 sweep).left
  about = c.ask-count.ensures.about ∙ ap (λ (ts : List Table). take c.ask-count.result (table_at ts sweep).left) mid

  begin : All (λ region. place_in region ≡ 0) (take c.ask-count.result (table_at tables1 sweep).left)
  begin = subst (λ (ts : List Table). All (λ region. place_in region ≡ 0) (take c.ask-count.result (table_at ts sweep).left)) mid c.ask-count.ensures.begin

  alike : AreAlike tables1 tables2
  alike = asked_alike c.go_on-self-inside.new.finalizers c.go_on-self-inside.new.walk tables1 tables2 sweep 0 c.self.inside.before c.self.inside.from c.ask-count.result c.self.inside.by c.ask-count.new.about are changes count asked about begin some refl

  twice : take c.self.inside.tables.len (tables2 ++ drop (length tables2) (take c.self.inside.tables.len (tables1 ++ drop (length tables1) c.self.inside.tables.items))) ≡ tables2
  twice =
      let i = c.self.inside in
      let o = c.go_on-self-inside in
      whole_twice c.args.self.now i.finalizers o.new.finalizers i.walk o.new.walk i.tables.items o.new.tables c.deref_mut.result.now i.phase o.result c.args.phase i.asked i.before i.from i.tables.len i.by c.self.view_is c.requires c.deref_mut.ensures.value
      o.ensures.goes o.ensures.more o.ensures.fewer c.self.invariant.0.tables.count o.ensures.order.tables.count (let ok = i.tables.ok.0 in omega (arith, ok)) tables2 alike

pub invariant_of-self-in-Regions : goal.invariant_of-self-in-Regions
invariant_of-self-in-Regions c =
    let o = c.go_on-self-inside in
    subst (λ (ts : List Table). IsInOrder o.new.finalizers.state o.new.walk ts o.result × AsksNone o.result 0 × Lacks o.result ts) (sym (twice c))
    ((
      record {
        room = o.ensures.order.room;
        room_off = o.ensures.order.room_off;
        tables = subst (λ (p : Option Phase). AreTables o.new.finalizers.state (tables2 c) p) (sym (at c))
            (asked_tables o.new.finalizers o.new.walk (tables1 c) (tables2 c) (sweep c) 0 c.self.inside.before c.self.inside.from c.ask-count.result c.self.inside.by c.ask-count.new.about (are c) (changes c) (count c) (asked c) (about c) (begin c) (some c) refl);
      },
      no_asks (sweep c) o.result (at c),
      no_lacks (sweep c) o.result (tables2 c) (at c),
    ))

pub returns-in-Regions-clause-goes : goal.returns-in-Regions-clause-goes
returns-in-Regions-clause-goes c =
    let i = c.self.inside in
    let o = c.go_on-self-inside in
    let asks =
    asks_regions o.new.finalizers o.new.walk (tables1 c) (tables2 c) (sweep c) 0 c.self.inside.before c.self.inside.from c.ask-count.result c.self.inside.by c.ask-count.new.about (are c) (changes c) (count c) (asked c) (about c) (begin c) (some c) refl
    c.ask.result c.ask.ensures in
    went_on c.args.self.now i.finalizers o.new.finalizers i.walk o.new.walk i.tables.items o.new.tables c.deref_mut.result.now i.phase o.result c.args.phase i.asked i.before i.from i.tables.len i.by c.self.view_is c.requires c.deref_mut.ensures.value
    o.ensures.goes o.ensures.more o.ensures.fewer c.self.invariant.0.tables.count o.ensures.order.tables.count (let ok = i.tables.ok.0 in omega (arith, ok)) (tables2 c) (alike c) _
    (ap (told_in (tables2 c)) (at c) ∙ ap (λ (t : Table). t.told) (asked c) ∙ sym (ap (told_in (tables1 c)) (at c)))
    (ap (left_in (tables2 c)) (at c) ∙ ap (λ (t : Table). t.left) (asked c) ∙ sym (ap (left_in (tables1 c)) (at c)))
    (Regions (sweep c), at c, inr (subst (λ (p : Option Phase). AsksRegions (shown o.new.finalizers o.new.walk (tables2 c) p 0 i.before i.from i.by) (Regions (sweep c)) (record { ask = c.ask.result; about = c.ask-count.new.about; count = c.ask-count.result })) (sym (at c)) asks))

pub returns : goal.returns
returns c =
    let i = c.self.inside in
    let o = c.go_on-self-inside in
    record {
      goes = went c.args.self.now i.finalizers o.new.finalizers i.walk o.new.walk i.tables.items o.new.tables c.deref_mut.result.now i.phase o.result c.args.phase i.asked i.before i.from i.tables.len i.by c.self.view_is c.requires c.deref_mut.ensures.value
          o.ensures.goes o.ensures.more o.ensures.fewer c.self.invariant.0.tables.count o.ensures.order.tables.count (let ok = i.tables.ok.0 in omega (arith, ok)) c.question-ask.result.1 _ (
            c.in-Some.phase,
            c.in-Some.is,
            inl
                (asks_items o.new.finalizers o.new.walk o.new.tables c.in-Some.phase o.result c.question-ask.result.1 i.before i.from i.by c.in-Some.is (no_sweep c.in-Some.phase c.in_default-phase.not-Regions) o.ensures.order.tables.count o.ensures.lacks
                (record { ask = c.question-ask.result.0; about = c.question-ask.new.about; count = c.question-ask.result.1 }) refl
                (subst (λ (xs : List Item). IsQuestion c.in-Some.phase xs (record { ask = c.question-ask.result.0; about = c.question-ask.new.about; count = c.question-ask.result.1 })) c.left.ensures c.question-ask.ensures)),
          );
      written = tt;
    }
