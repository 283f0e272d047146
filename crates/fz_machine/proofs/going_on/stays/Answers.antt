use Rattle.std.proofs.Common.{◌≡◌, ◌∙◌, [], ℕ, List, Some, is_some, slice_get, sym, ap, subst}
use Rattle.fz_finalizers.specs.States.{State}
use Rattle.fz_machine.specs.Going.{going, left_in, told_in}
use Rattle.fz_machine.specs.Phases.{settles}
use Rattle.fz_machine.specs.Steps.{Going, skip}
use Rattle.fz_machine.proofs.Ending.{asks_on, no_left}
use Rattle.fz_machine.proofs.Less.{less_same, skip_less}
use Rattle.fz_machine.specs.Regions.{IsOfSweep}
use Rattle.fz_machine.proofs.Rooms.{rooms_as, rooms_of, skip_rooms}
use Rattle.fz_machine.proofs.Turned.{has_first, no_region_behind, no_regions_left, skip_known, skip_told, sweeps_on, tables_less}
use Rattle.fz_machine.proofs.going_on.stays.Goals as goal

pub returns-then-has_left-clause-asks : goal.returns-then-has_left-clause-asks
returns-then-has_left-clause-asks c = λ on from.
    sweeps_on c.args.tables.now c.args.phase (sym c.has_left.ensures ∙ c.if-has_left.true) from (going c.args.finalizers.now c.args.walk.now (told_in c.args.tables.now (Some c.args.phase)))

module _ (c : goal.After-is_some) where
  abbrev told : List (ℕ × ℕ)
  told = told_in c.args.tables.now (Some c.args.phase)

  abbrev before : Going
  before = going c.args.finalizers.now c.args.walk.now []

  skips : going c.skip.new.finalizers c.skip.new.walk told ≡ skip c.args.phase (going c.args.finalizers.now c.args.walk.now told)
  skips = ap (λ (g : Going). record g { told = told }) c.skip.ensures.skipped ∙ sym (skip_told c.args.phase told before)

pub returns-clause-asks : goal.returns-clause-asks
returns-clause-asks c = λ on from.
    asks_on c.args.phase (going c.args.finalizers.now c.args.walk.now (told c)) (going c.skip.new.finalizers c.skip.new.walk (told c)) (skips c) (ap is_some (sym c.first.ensures) ∙ sym c.is_some.ensures ∙ on)

pub returns-clause-skipped : goal.returns-clause-skipped
returns-clause-skipped c = λ off. skips c

pub returns-clause-none : goal.returns-clause-none
returns-clause-none c = λ off. (no_left c.skip.new.walk.left (ap is_some (sym c.first.ensures) ∙ sym c.is_some.ensures ∙ off), no_regions_left (left_in c.args.tables.now (Some c.args.phase)) (sym c.has_left.ensures ∙ c.if-has_left.false))

pub returns-clause-some : goal.returns-clause-some
returns-clause-some c = λ on.
    has_first c.args.phase before_skip c.skip.new.walk.left (left_in c.args.tables.now (Some c.args.phase)) (ap (λ (g : Going). g.left) c.skip.ensures.skipped) (ap is_some (sym c.first.ensures) ∙ sym c.is_some.ensures ∙ on)
  where
    before_skip : Going
    before_skip = going c.args.finalizers.now c.args.walk.now []

pub returns-clause-order : goal.returns-clause-order
returns-clause-order c =
    let g = going c.args.finalizers.now c.args.walk.now [] in
    let same = ap (λ (k : Going). k.finalizers) c.skip.ensures.skipped in
    record {
      room = rooms_as (settles c.args.phase) c.skip.new.finalizers.state c.args.walk.now c.skip.new.walk c.skip.ensures.same
          (rooms_of (settles c.args.phase) (skip c.args.phase g).finalizers c.skip.new.finalizers.state c.args.walk.now same (skip_rooms (settles c.args.phase) c.args.walk.now c.args.phase g c.requires.order.room));
      room_off = c.skip.ensures.room;
      tables = tables_less c.args.finalizers.now.state c.skip.new.finalizers.state c.args.tables.now (Some c.args.phase) (λ sweep n is. skip_less c.args.finalizers.now.state c.args.phase g (less_same c.args.finalizers.now.state) sweep n (subst (λ (s : State). IsOfSweep sweep s n) same is)) c.requires.order.tables;
    }

pub returns-then-has_left-clause-known : goal.returns-then-has_left-clause-known
returns-then-has_left-clause-known c = λ sweep is all.
    sym (sym (c.has_left.ensures ∙ ap (λ xs. is_some (slice_get xs 0)) (no_region_behind c.args.tables.now c.args.phase sweep is)) ∙ c.if-has_left.true)

pub returns-clause-known : goal.returns-clause-known
returns-clause-known c = λ sweep is all.
    c.is_some.ensures ∙ ap is_some c.first.ensures ∙ ap (λ xs. is_some (slice_get xs 0)) (ap (λ (g : Going). g.left) c.skip.ensures.skipped ∙ skip_known c.args.phase sweep (going c.args.finalizers.now c.args.walk.now []) is all)
