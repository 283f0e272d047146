use Rattle.std.proofs.Common.{◌∙◌, [], List, None, ap, subst, sym}
use Rattle.std.proofs.lemmas.List.{with_items_is}
use Rattle.fz_machine.specs.declared.phase.Sweep.{Sweep}
use Rattle.fz_machine.specs.Causes.{first_of}
use Rattle.fz_machine.specs.Going.{AreTables}
use Rattle.fz_machine.specs.Machines.{Machine}
use Rattle.fz_machine.specs.Regions.{Regions as Table}
use Rattle.fz_machine.proofs.Remaining.{IsThere, IsWell, added_comes, anew, idle_tables, keeps_each, noted_tables, unopened}
use Rattle.fz_machine.proofs.machine.Machine.add_cleanup.Goals as goal

pub invariant_of-self : goal.invariant_of-self
invariant_of-self c =
    let s = c.self.inside.finalizers.state in
    let walk = c.self.inside.walk in
    let idle = unopened c.self.inside.phase [] (ap (λ (m : Machine). first_of m.phase []) c.self.view_is ∙ c.in_ok-check.ensures) in
    let are = idle_tables s walk c.self.inside.tables.items c.self.inside.phase c.self.inside.asked c.self.invariant idle in
    let value = c.deref_mut.ensures.value in
    let t = c.add_cleanup.new.finalizers.state in
    let old = c.deref_mut.result.now in
    let new = c.note.new.tables in
    let keeps = keeps_each old new c.attached.result c.note.ensures.changes c.note.ensures.keeps in
    let comes = added_comes s t new c.add_cleanup.result c.add_cleanup.ensures.refused c.args.object c.args.cleanup (subst (λ (o : Sweep). IsThere new o c.args.object) c.attached.ensures c.note.ensures.noted) c.add_cleanup.ensures.follows in
    let tables = noted_tables s t old new (subst (λ (ts : List Table). AreTables s ts None) (sym value) are) keeps c.note.ensures.changes.count comes in
    subst (λ (ts : List Table). IsWell t c.add_cleanup.new.walk ts c.self.inside.phase c.self.inside.asked) (sym (with_items_is c.self.inside.tables new (c.note.ensures.changes.count ∙ c.deref_mut.ensures.len)))
    (anew s walk c.self.inside.tables.items c.self.inside.phase c.self.inside.asked c.self.invariant idle t c.add_cleanup.new.walk new c.add_cleanup.ensures.room tables)
