use Rattle.std.proofs.Common.{◌∙◌, [], List, None, ap, subst, sym}
use Rattle.std.proofs.lemmas.List.{with_items_is}
use Rattle.fz_machine.specs.declared.phase.Sweep.{Sweep}
use Rattle.fz_machine.specs.Causes.{first_of}
use Rattle.fz_machine.specs.Going.{AreTables}
use Rattle.fz_machine.specs.Machines.{Machine}
use Rattle.fz_machine.specs.Regions.{Regions as Table}
use Rattle.fz_machine.proofs.Remaining.{IsThere, IsWell, anew, idle_rooms, idle_tables, keeps_each, moved_comes, noted_tables, unopened}
use Rattle.fz_machine.proofs.Rooms.{moved_or_not, moved_keyed, rooms_same}
use Rattle.fz_machine.proofs.machine.Machine.move_link.Goals as goal

pub invariant_of-self : goal.invariant_of-self
invariant_of-self c =
    let s = c.self.inside.finalizers.state in
    let walk = c.self.inside.walk in
    let idle = unopened c.self.inside.phase [] (ap (λ (m : Machine). first_of m.phase []) c.self.view_is ∙ c.in_ok-check.ensures) in
    let rooms = idle_rooms s walk c.self.inside.tables.items c.self.inside.phase c.self.inside.asked c.self.invariant idle in
    let are = idle_tables s walk c.self.inside.tables.items c.self.inside.phase c.self.inside.asked c.self.invariant idle in
    let t = c.move_link.new.self.state in
    let old = c.deref_mut.result.now in
    let new = c.note.new.tables in
    let keeps = keeps_each old new c.holders.result c.note.ensures.changes c.note.ensures.keeps in
    let comes = moved_comes s t new c.move_link.result c.move_link.ensures.refused c.args.kind c.args.word c.args.to (subst (λ (o : Sweep). IsThere new o c.args.to) c.holders.ensures c.note.ensures.noted) c.move_link.ensures.follows in
    let tables = noted_tables s t old new (subst (λ (ts : List Table). AreTables s ts None) (sym c.deref_mut.ensures.value) are) keeps c.note.ensures.changes.count comes in
    let room = moved_or_not s walk.room rooms.main c.args.kind c.args.word c.args.to t c.move_link.result c.move_link.ensures.refused c.move_link.ensures.follows in
    let keyed = moved_keyed s c.args.kind c.args.word c.args.to t c.move_link.result c.move_link.ensures.refused c.move_link.ensures.follows in
    subst (λ (ts : List Table). IsWell t walk ts c.self.inside.phase c.self.inside.asked) (sym (with_items_is c.self.inside.tables new (c.note.ensures.changes.count ∙ c.deref_mut.ensures.len)))
    (anew s walk c.self.inside.tables.items c.self.inside.phase c.self.inside.asked c.self.invariant idle t walk new (rooms_same s walk rooms t room keyed) tables)
