use Rattle.std.proofs.Common.{◌≡◌, ◌∙◌, [], List, None, ap, length, subst, sym}
use Rattle.std.specs.Vec.{with_items}
use Rattle.std.proofs.lemmas.List.{with_items_is}
use Rattle.fz_machine.specs.declared.phase.Sweep.{Sweep}
use Rattle.fz_machine.specs.Causes.{first_of}
use Rattle.fz_machine.specs.Going.{AreTables}
use Rattle.fz_machine.specs.Machines.{Machine, of_links}
use Rattle.fz_machine.specs.Regions.{Regions as Table, KeepsTable, table_at, targets}
use Rattle.fz_machine.proofs.Remaining.{IsThere, IsWell, anew, completes, idle_tables, keeps_each, keeps_more, linked_comes, linked_tables, machines_note, noted_tables, sizes, there_still, unopened}
use Rattle.fz_machine.proofs.machine.Machine.link.Goals as goal

pub invariant_of-self : goal.invariant_of-self
invariant_of-self c =
    let s = c.self.inside.finalizers.state in
    let walk = c.self.inside.walk in
    let idle = unopened c.self.inside.phase [] (ap (λ (m : Machine). first_of m.phase []) c.self.view_is ∙ c.in_ok-check.ensures) in
    let are = idle_tables s walk c.self.inside.tables.items c.self.inside.phase c.self.inside.asked c.self.invariant idle in
    let t = c.link.new.finalizers.state in
    let old = c.deref_mut.result.now in
    let mid = c.note.new.tables in
    let last = c.deref_mut-2.result.now in
    let new = c.note-2.new.tables in
    let first_count = c.note.ensures.changes.count ∙ c.deref_mut.ensures.len in
    let mid_is = with_items_is c.self.inside.tables mid first_count in
    let same : last ≡ mid = c.deref_mut-2.ensures.value ∙ mid_is in
    let first = keeps_each old mid c.targets.result c.note.ensures.changes c.note.ensures.keeps in
    let second = keeps_each last new c.holders.result c.note-2.ensures.changes c.note-2.ensures.keeps in
    let keeps = keeps_more old last new (subst (λ (ts : List Table). (sweep : Sweep) → KeepsTable (table_at old sweep) (table_at ts sweep)) (sym same) first) second in
    let there = subst (λ (ts : List Table). IsThere ts (targets c.args.kind) c.args.target) (sym same) (subst (λ (o : Sweep). IsThere mid o c.args.target) c.targets.ensures c.note.ensures.noted) in
    let to = there_still last new second (targets c.args.kind) c.args.target there in
    let at = subst (λ (o : Sweep). IsThere new o c.args.word) c.holders.ensures c.note-2.ensures.noted in
    let comes = linked_comes s t new c.link.result c.link.ensures.refused c.args.kind c.args.word c.args.target to at c.link.ensures.follows in
    let count = c.note-2.ensures.changes.count ∙ ap (λ (ts : List Table). length ts) same ∙ c.note.ensures.changes.count in
    let tables = noted_tables s t old new (subst (λ (ts : List Table). AreTables s ts None) (sym c.deref_mut.ensures.value) are) keeps count comes in
    let new_is = with_items_is (with_items c.self.inside.tables mid) new (count ∙ c.deref_mut.ensures.len) in
    subst (λ (ts : List Table). IsWell t c.link.new.walk ts c.self.inside.phase c.self.inside.asked) (sym new_is)
    (anew s walk c.self.inside.tables.items c.self.inside.phase c.self.inside.asked c.self.invariant idle t c.link.new.walk new c.link.ensures.room tables)

pub returns-clause-regions : goal.returns-clause-regions
returns-clause-regions c =
    let idle = unopened c.self.inside.phase [] (ap (λ (m : Machine). first_of m.phase []) c.self.view_is ∙ c.in_ok-check.ensures) in
    let are = idle_tables c.self.inside.finalizers.state c.self.inside.walk c.self.inside.tables.items c.self.inside.phase c.self.inside.asked c.self.invariant idle in
    let old = c.deref_mut.result.now in
    let mid = c.note.new.tables in
    let new = c.note-2.new.tables in
    let value = c.deref_mut.ensures.value in
    let mid_is = with_items_is c.self.inside.tables mid (c.note.ensures.changes.count ∙ c.deref_mut.ensures.len) in
    let same = c.deref_mut-2.ensures.value ∙ mid_is in
    let count : length new ≡ length old = c.note-2.ensures.changes.count ∙ ap (λ (ts : List Table). length ts) same ∙ c.note.ensures.changes.count in
    let many : length old ≡ 7 = ap (λ (ts : List Table). length ts) value ∙ are.count in
    let new_is = with_items_is (with_items c.self.inside.tables mid) new (count ∙ c.deref_mut.ensures.len) in
    let last = (with_items (with_items c.self.inside.tables mid) new).items in
    let changes = linked_tables c.args.kind c.targets.result c.holders.result c.targets.ensures c.holders.ensures old mid c.deref_mut-2.result.now new same
    c.note.ensures.changes c.note.ensures.keeps c.note.ensures.tabled c.note-2.ensures.changes c.note-2.ensures.keeps c.note-2.ensures.tabled in (
      ap (λ (m : Machine). m.by) c.self.view_is,
      machines_note (of_links c.args.kind) c.args.self.now (record c.args.self.now { noted = completes last; tabled = sizes last }) old new many (count ∙ many) (sym (ap (λ (m : Machine). m.noted) c.self.view_is) ∙ ap completes (sym value)) (sym (ap (λ (m : Machine). m.tabled) c.self.view_is) ∙ ap sizes (sym value))
          (ap completes new_is) (ap sizes new_is) changes,
    )
