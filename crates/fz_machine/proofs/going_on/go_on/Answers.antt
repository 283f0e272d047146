use Rattle.std.proofs.Common.{◌≡◌, ◌∙◌, ℕ, List, Some, None, true≢false, false, is_some, slice_get, ap, sym, subst, arith}
use Rattle.fz_machine.specs.declared.phase.Phase.{Phase}
use Rattle.fz_machine.specs.declared.phase.Phase.TheVariants.{LongCleanups}
use Rattle.fz_machine.specs.Going.{HasRoomOff, HaveRoom, going, told_in}
use Rattle.fz_machine.specs.Off.{looks_again}
use Rattle.std.proofs.lemmas.Option.{none-some, same_Some}
use Rattle.fz_machine.specs.Phases.{next_phase, settles, swept}
use Rattle.fz_machine.specs.Regions.{table_at}
use Rattle.fz_machine.specs.Steps.{Begins, Going, GoesOn}
use Rattle.fz_machine.proofs.Ending.{ends_on, fewer_left, follows_on, left_skipped, phases_left, turns_on}
use Rattle.fz_machine.proofs.Turned.{ended_tables, is_sweep, known_behind, known_or_not, last_phase, more_twice, none_to_come, plain_told, ready_for, same_more, told_still, turned}
use Rattle.fz_machine.proofs.going_on.go_on.Goals as goal

pub loop-phase-init : goal.loop-phase-init
loop-phase-init c = record {
  goes = λ last k rest. rest;
  order = c.requires.order;
  known = λ sweep is complete. absurd (true≢false (sym complete ∙ c.requires.lacks sweep (ap Some is)));
  more = same_more c.args.tables.now;
  fewer = omega arith;
}

pub returns-then-stays-clause-lacks : goal.returns-then-stays-clause-lacks
returns-then-stays-clause-lacks c = λ sweep is.
    let at = same_Some c.loop-phase.phase (swept sweep) is in
    known_or_not (table_at c.loop-phase.tables sweep).complete (λ complete. true≢false (sym c.if-stays.true ∙ c.stays.ensures.known sweep at (c.loop-phase.invariant.known sweep at complete)))

pub returns-in_default-clause-lacks : goal.returns-in_default-clause-lacks
returns-in_default-clause-lacks c = λ sweep is. absurd (none-some (swept sweep) is)

pub returns-then-stays-clause-goes : goal.returns-then-stays-clause-goes
returns-then-stays-clause-goes c = c.loop-phase.invariant.goes (Some c.loop-phase.phase) _ (c.stays.ensures.asks c.if-stays.true c.args.from)

module _ (c : goal.In_default) where
  abbrev told : List (ℕ × ℕ)
  told = told_in c.loop-phase.tables (Some c.loop-phase.phase)

  ends : next_phase c.loop-phase.phase (looks_again c.stays.new.walk.off) ≡ None
  ends = ap (next_phase c.loop-phase.phase) (sym c.looks_again.ensures) ∙ sym c.next.ensures ∙ c.in_default.is

  last : c.loop-phase.phase ≡ LongCleanups
  last = last_phase c.loop-phase.phase (looks_again c.stays.new.walk.off) ends

  not_sweep : is_sweep c.loop-phase.phase ≡ false
  not_sweep = ap is_sweep last

pub returns-in_default-clause-goes : goal.returns-in_default-clause-goes
returns-in_default-clause-goes c =
    let g = going c.loop-phase.finalizers c.loop-phase.walk (told c) in
    let k = going c.stays.new.finalizers c.stays.new.walk (told c) in
    let none = ap (λ xs. is_some (slice_get xs 0)) (c.stays.ensures.none c.if-stays.false).0 in
    subst (λ (t : List (ℕ × ℕ)). GoesOn c.args.from c.args.phase (going c.args.finalizers.now c.args.walk.now (told_in c.args.tables.now (Some c.args.phase))) None (going c.stays.new.finalizers c.stays.new.walk t)) (plain_told c.loop-phase.tables c.loop-phase.phase (not_sweep c))
    (c.loop-phase.invariant.goes None k (ends_on c.loop-phase.phase g k (c.stays.ensures.skipped c.if-stays.false) none (ends c)))

pub returns-in_default-clause-order : goal.returns-in_default-clause-order
returns-in_default-clause-order c = record {
  room = subst (λ (p : Phase). HaveRoom (settles p) c.stays.new.finalizers.state c.stays.new.walk) (last c) c.stays.ensures.order.room;
  room_off = tt;
  tables = ended_tables c.stays.new.finalizers.state c.loop-phase.tables c.loop-phase.phase (not_sweep c) c.stays.ensures.order.tables;
}

pub returns-in_default-clause-fewer : goal.returns-in_default-clause-fewer
returns-in_default-clause-fewer c = let none = none_to_come c.loop-phase.tables c.stays.ensures.order.tables.count in omega (arith, none)

module _ (c : goal.After-begin_by-arg-in-loop-phase-1) where
  follows : next_phase c.loop-phase.phase (looks_again c.stays.new.walk.off) ≡ Some c.in-Some.next
  follows = ap (next_phase c.loop-phase.phase) (sym c.looks_again.ensures) ∙ sym c.next.ensures ∙ c.in-Some.is

pub begin_by-requires-clause-ready : goal.begin_by-requires-clause-ready
begin_by-requires-clause-ready c =
    ready_for c.stays.new.finalizers.state c.loop-phase.tables (looks_again c.stays.new.walk.off) c.in-Some.next c.loop-phase.phase c.stays.ensures.order.tables (c.stays.ensures.none c.if-stays.false).1 (follows c)

pub begin_by-requires-clause-room : goal.begin_by-requires-clause-room
begin_by-requires-clause-room c = subst (λ b. HaveRoom b c.stays.new.finalizers.state c.stays.new.walk) (sym (follows_on c.loop-phase.phase c.in-Some.next (looks_again c.stays.new.walk.off) (follows c))) c.stays.ensures.order.room

pub begin_by-requires-clause-off : goal.begin_by-requires-clause-off
begin_by-requires-clause-off c = subst (λ b. HasRoomOff b c.stays.new.walk) (sym (follows_on c.loop-phase.phase c.in-Some.next (looks_again c.stays.new.walk.off) (follows c))) c.stays.ensures.order.room_off

module _ (c : goal.After-tables-1) where
  abbrev was : List (ℕ × ℕ)
  was = told_in c.loop-phase.tables (Some c.loop-phase.phase)

  abbrev g : Going
  g = going c.loop-phase.finalizers c.loop-phase.walk was

  abbrev k : Going
  k = going c.stays.new.finalizers c.stays.new.walk was

  turns : next_phase c.loop-phase.phase (looks_again c.stays.new.walk.off) ≡ Some c.in-Some.next
  turns = ap (next_phase c.loop-phase.phase) (sym c.looks_again.ensures) ∙ sym c.next.ensures ∙ c.in-Some.is

pub loop-phase-smaller : goal.loop-phase-smaller
loop-phase-smaller c =
    let less = fewer_left c.loop-phase.phase c.in-Some.next c.stays.new.walk.off (turns c) in
    let begun = ap (phases_left c.in-Some.next) c.begin_by.ensures.begins.off in
    let same = ap (λ (x : Going). phases_left c.loop-phase.phase x.off) (c.stays.ensures.skipped c.if-stays.false) in
    let kept = left_skipped c.loop-phase.phase (g c) in
    omega (arith, less, begun, same, kept)

pub loop-phase-preserved : goal.loop-phase-preserved
loop-phase-preserved c =
    let h = going c.stays.new.finalizers c.begin_by.new.walk (told_in c.begin_by.new.tables (Some c.in-Some.next)) in
    let ended = c.stays.ensures.none c.if-stays.false in
    let none = ap (λ xs. is_some (slice_get xs 0)) ended.0 in
    let more = looks_again c.stays.new.walk.off in
    let begins = subst (λ (t : List (ℕ × ℕ)). Begins c.args.from c.in-Some.next (going c.stays.new.finalizers c.stays.new.walk t) h) (sym (told_still c.stays.new.finalizers.state c.loop-phase.tables more c.in-Some.next c.loop-phase.phase (turns c))) c.begin_by.ensures.begins in
    let fewer = turned c.stays.new.finalizers.state c.loop-phase.tables c.begin_by.new.tables c.begin_by.ensures.more c.stays.ensures.order.tables.count more c.in-Some.next c.begin_by.ensures.order.tables c.loop-phase.phase ended.1 (turns c) in
    let so_far = c.loop-phase.invariant.fewer in
    record {
      goes = λ last m rest. c.loop-phase.invariant.goes last m (turns_on c.loop-phase.phase (g c) (k c) (c.stays.ensures.skipped c.if-stays.false) c.in-Some.next h none (turns c) begins last m rest);
      order = c.begin_by.ensures.order;
      known = λ sweep is complete.
          let ready = ready_for c.stays.new.finalizers.state c.loop-phase.tables more c.in-Some.next c.loop-phase.phase c.stays.ensures.order.tables ended.1 (turns c) in
          known_behind c.args.from c.stays.new.finalizers.state c.loop-phase.tables c.in-Some.next sweep is c.begin_by.new.walk.left _ c.begin_by.ensures.begins.lists (ready.told sweep is) (sym (c.begin_by.ensures.more.complete sweep) ∙ complete);
      more = more_twice c.args.tables.now c.loop-phase.tables c.begin_by.new.tables c.loop-phase.invariant.more c.begin_by.ensures.more;
      fewer = omega (arith, fewer, so_far);
    }
