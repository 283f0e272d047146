use Rattle.std.proofs.Common.{◌∙◌, [], IsTrue, List, None, ap, false, slice_index_or, subst, sym}
use Rattle.std.proofs.lemmas.List.{with_items_is}
use Rattle.std.specs.FinMap.{contains_key}
use Rattle.fz_machine.specs.declared.phase.Sweep.TheVariants.{Objects}
use Rattle.fz_machine.specs.Causes.{first_of}
use Rattle.fz_machine.specs.Going.{AreTables}
use Rattle.fz_machine.specs.Machines.{Machine, is_noted}
use Rattle.fz_machine.specs.Regions.{Regions as Table, index_of, table_at}
use Rattle.fz_machine.proofs.Remaining.{IsWell, anew, complete_still, completes, idle_tables, keeps_each, noted_stays, noted_tables, registered_comes, unopened}
use Rattle.fz_machine.proofs.machine.Machine.register.Goals as goal

pub invariant_of-self : goal.invariant_of-self
invariant_of-self c =
    let s = c.self.inside.finalizers.state in
    let walk = c.self.inside.walk in
    let idle = unopened c.self.inside.phase [] (ap (λ (m : Machine). first_of m.phase []) c.self.view_is ∙ c.in_ok-check.ensures) in
    let are = idle_tables s walk c.self.inside.tables.items c.self.inside.phase c.self.inside.asked c.self.invariant idle in
    let value = c.deref_mut.ensures.value in
    let t = c.register.new.finalizers.state in
    let old = c.deref_mut.result.now in
    let new = c.note.new.tables in
    let keeps = keeps_each old new Objects c.note.ensures.changes c.note.ensures.keeps in
    let comes = registered_comes s t new c.register.result c.register.ensures.refused c.args.object c.args.finalizer c.note.ensures.noted c.register.ensures.follows in
    let tables = noted_tables s t old new (subst (λ (ts : List Table). AreTables s ts None) (sym value) are) keeps c.note.ensures.changes.count comes in
    subst (λ (ts : List Table). IsWell t c.register.new.walk ts c.self.inside.phase c.self.inside.asked) (sym (with_items_is c.self.inside.tables new (c.note.ensures.changes.count ∙ c.deref_mut.ensures.len)))
    (anew s walk c.self.inside.tables.items c.self.inside.phase c.self.inside.asked c.self.invariant idle t c.register.new.walk new c.register.ensures.room tables)

pub returns-clause-stays : goal.returns-clause-stays
returns-clause-stays c = λ there.
    let idle = unopened c.self.inside.phase [] (ap (λ (m : Machine). first_of m.phase []) c.self.view_is ∙ c.in_ok-check.ensures) in
    let are = idle_tables c.self.inside.finalizers.state c.self.inside.walk c.self.inside.tables.items c.self.inside.phase c.self.inside.asked c.self.invariant idle in
    let old = c.deref_mut.result.now in
    let new = c.note.new.tables in
    let were : AreTables c.self.inside.finalizers.state old None = subst (λ (ts : List Table). AreTables c.self.inside.finalizers.state ts None) (sym c.deref_mut.ensures.value) are in
    let here = subst (λ (m : Machine). IsTrue (contains_key m.finalizers.state.registrations c.args.object)) (sym c.self.view_is) there in
    let same = noted_stays c.self.inside.finalizers.state Objects c.args.object (table_at old Objects) (table_at new Objects) (were.each Objects) c.note.ensures.keeps c.note.ensures.stays here in
    ap (λ (ts : List Table). slice_index_or (completes ts) (index_of Objects) false) (with_items_is c.self.inside.tables new (c.note.ensures.changes.count ∙ c.deref_mut.ensures.len))
    ∙ complete_still old new were.count (c.note.ensures.changes.count ∙ were.count) Objects same
    ∙ ap (λ (ts : List Table). slice_index_or (completes ts) (index_of Objects) false) c.deref_mut.ensures.value ∙ ap (is_noted Objects) c.self.view_is
