use Rattle.std.proofs.Common.{◌≡◌, ◌∙◌, [], ℕ, List, Some, is_some, sym, ap, subst}
use Rattle.fz_machine.specs.declared.phase.Phase.{Phase}
use Rattle.fz_machine.specs.declared.phase.Sweep.{Sweep}
use Rattle.std.specs.Option.{IfSome}
use Rattle.fz_machine.specs.Going.{AreReady, AreTables, HaveRoom, HasRoomOff, follows_settling, going, told_for, told_in}
use Rattle.fz_machine.specs.Phases.{settles, swept}
use Rattle.fz_machine.specs.Steps.{Begins}
use Rattle.fz_machine.proofs.Turned.{no_sweep, nothing_told, plain_tables, plain_told, same_more, swept_before, swept_begins, swept_more, swept_room, swept_room_off, swept_tables, swept_told}
use Rattle.fz_machine.proofs.going_on.begin_by.Goals as goal

pub returns-in_default-sweep : goal.returns-in_default-sweep
returns-in_default-sweep c =
    let phase = c.args.phase in
    let tables = c.args.tables.now in
    let ready = c.requires.ready in
    let not = no_sweep phase c.in_default.not-Regions in
    let off = sym c.sweep.ensures.swept ∙ ap is_some c.in_default-sweep.is in
    record {
      begins = subst (λ (told : List (ℕ × ℕ)). Begins c.args.from phase (going c.args.finalizers.now c.args.walk.now told) (going c.args.finalizers.now c.begin.new.walk (told_in tables (Some phase)))) (sym (nothing_told tables phase off))
          (subst (λ (told : List (ℕ × ℕ)). Begins c.args.from phase (going c.args.finalizers.now c.args.walk.now []) (going c.args.finalizers.now c.begin.new.walk told)) (sym (plain_told tables phase not)) (c.begin.ensures.begins c.args.from));
      order = record {
        room = c.begin.ensures.room;
        room_off = c.begin.ensures.off;
        tables = plain_tables c.args.finalizers.now.state tables phase not ready.noted (λ sweep. ready.untold sweep (swept_before phase off sweep)) ready.count;
      };
      more = same_more tables;
    }

pub returns : goal.returns
returns c =
    let sweep = c.in-Some.sweep in
    let is : c.args.phase ≡ swept sweep = subst (λ o. IfSome o (λ (w : Sweep). c.args.phase ≡ swept w)) c.in-Some.is c.sweep.ensures.some in
    let s = c.args.finalizers.now.state in
    let f = c.args.finalizers.now in
    let walk = c.args.walk.now in
    let new = c.begin_swept.new.walk in
    let tables = c.args.tables.now in
    let after = c.begin_swept.new.tables in
    let ready : AreReady s tables (swept sweep) = subst (AreReady s tables) is c.requires.ready in
    record {
      begins = subst (λ (p : Phase). Begins c.args.from p (going f walk (told_for tables p)) (going f new (told_in after (Some p)))) (sym is)
          (subst (λ (told : List (ℕ × ℕ)). Begins c.args.from (swept sweep) (going f walk (told_for tables (swept sweep))) (going f new told)) (sym (swept_told after sweep)) (swept_begins c.args.from f walk new c.begin_swept.ensures.others sweep tables c.begin_swept.ensures.listed));
      order = record {
        room = subst (λ (p : Phase). HaveRoom (settles p) s new) (sym is) (swept_room c.args.from f walk new c.begin_swept.ensures.others s sweep (subst (λ (p : Phase). HaveRoom (follows_settling p) s walk) is c.requires.room));
        room_off = subst (λ (p : Phase). HasRoomOff (settles p) new) (sym is) (swept_room_off c.args.from f walk new c.begin_swept.ensures.others sweep (subst (λ (p : Phase). HasRoomOff (follows_settling p) walk) is c.requires.off));
        tables = subst (λ (p : Phase). AreTables s after (Some p)) (sym is) (swept_tables s tables after sweep ready c.begin_swept.ensures.changes c.begin_swept.ensures.renoted);
      };
      more = swept_more s tables after sweep ready c.begin_swept.ensures.changes c.begin_swept.ensures.renoted;
    }
