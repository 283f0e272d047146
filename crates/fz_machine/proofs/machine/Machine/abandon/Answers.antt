use Rattle.std.proofs.Common.{◌≡◌, ◌∙◌, ◌++◌, List, drop, take, length, Option, Some, None, is_some, ap, sym, subst, refl, arith}
use Rattle.std.proofs.lemmas.Option.{none-some}
use Rattle.fz_machine.specs.Going.{AreAlike, AreTables, HaveRoom}
use Rattle.fz_machine.specs.Machines.{Machine}
use Rattle.fz_machine.specs.Phases.{settles, settles_in, swept}
use Rattle.fz_machine.specs.Regions.{Regions as Table}
use Rattle.fz_machine.specs.declared.phase.Phase.{Phase}
use Rattle.fz_machine.proofs.Asked.{alike_complete, alike_lengths, are_complete, rewritten, stopped_rooms}
use Rattle.fz_machine.proofs.Turned.{lengths}
use Rattle.fz_machine.proofs.machine.Machine.abandon.Goals as goal

module _ (c : goal.After-self-3-1) where
  abbrev old : List Table
  old = c.self.inside.tables.items

  abbrev new : List Table
  new = c.stop-2.new.tables

  given : c.deref_mut.result.now ≡ old
  given = c.deref_mut.ensures.value

  before : AreTables c.self.inside.finalizers.state old (Some c.in-Some.phase)
  before = subst (λ (o : Option Phase). AreTables c.self.inside.finalizers.state old o) c.in-Some.is c.self.invariant.0.tables

  alike : AreAlike old new
  alike = subst (λ (ts : List Table). AreAlike ts new) given c.stop-2.ensures.same

  whole : take c.self.inside.tables.len (new ++ drop (length new) old) ≡ new
  whole = rewritten c.self.inside.tables.len old new (let ok = c.self.inside.tables.ok.0 in omega (arith, ok)) alike.count

pub invariant_of-self : goal.invariant_of-self
invariant_of-self c = (
  record {
    room = stopped_rooms (settles c.in-Some.phase) c.self.inside.finalizers.state c.self.inside.walk c.stop.new.self c.stop.ensures.main c.stop.ensures.rows c.stop.ensures.off
        (subst (λ (o : Option Phase). HaveRoom (settles_in o) c.self.inside.finalizers.state c.self.inside.walk) c.in-Some.is c.self.invariant.0.room);
    room_off = tt;
    tables = subst (λ (ts : List Table). AreTables c.self.inside.finalizers.state ts None) (sym (whole c))
        (c.stop-2.ensures.ended c.self.inside.finalizers.state (subst (λ (ts : List Table). AreTables c.self.inside.finalizers.state ts (Some c.in-Some.phase)) (sym (given c)) (before c)));
  },
  tt,
  λ sweep is. absurd (none-some (swept sweep) is),
)

pub returns-clause-abandoned : goal.returns-clause-abandoned
returns-clause-abandoned c =
    let count = c.self.invariant.0.tables.count in
    record {
      was = ap (λ (m : Machine). is_some m.phase) (sym c.self.view_is) ∙ ap is_some c.in-Some.is;
      idle = refl;
      same = ap (λ (m : Machine). m.finalizers) c.self.view_is;
      regions = (
        ap (λ (m : Machine). m.by) c.self.view_is,
        ap are_complete (whole c) ∙ alike_complete (old c) (new c) count (alike c) ∙ ap (λ (m : Machine). m.noted) c.self.view_is,
        ap lengths (whole c) ∙ alike_lengths (old c) (new c) count (alike c) ∙ ap (λ (m : Machine). m.tabled) c.self.view_is,
      );
    }
