use Rattle.std.proofs.Common.{◌∙◌, [], List, None, ap, subst, sym}
use Rattle.std.proofs.lemmas.List.{with_items_is}
use Rattle.fz_machine.specs.Causes.{first_of}
use Rattle.fz_machine.specs.Going.{AreTables}
use Rattle.fz_machine.specs.Machines.{Machine}
use Rattle.fz_machine.specs.Regions.{Regions as Table}
use Rattle.fz_machine.proofs.Remaining.{IsWell, anew, idle_tables, renewed_tables, unopened}
use Rattle.fz_machine.proofs.machine.Machine.shrink.Goals as goal

pub invariant_of-self : goal.invariant_of-self
invariant_of-self c =
    let s = c.self.inside.finalizers.state in
    let walk = c.self.inside.walk in
    let idle = unopened c.self.inside.phase [] (ap (λ (m : Machine). first_of m.phase []) c.self.view_is ∙ c.in_ok-check.ensures) in
    let are = idle_tables s walk c.self.inside.tables.items c.self.inside.phase c.self.inside.asked c.self.invariant idle in
    let t = c.shrink.new.finalizers.state in
    let old = c.deref_mut.result.now in
    let new = c.renew.new.tables in
    let tables = renewed_tables c.self.inside.by s t old new c.shrink.ensures.state (subst (λ (ts : List Table). AreTables s ts None) (sym c.deref_mut.ensures.value) are) c.renew.ensures in
    subst (λ (ts : List Table). IsWell t c.shrink.new.walk ts c.self.inside.phase c.self.inside.asked) (sym (with_items_is c.self.inside.tables new (c.renew.ensures.count ∙ c.deref_mut.ensures.len)))
    (anew s walk c.self.inside.tables.items c.self.inside.phase c.self.inside.asked c.self.invariant idle t c.shrink.new.walk new c.shrink.ensures.room tables)
