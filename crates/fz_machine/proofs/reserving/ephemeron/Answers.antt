use Rattle.std.proofs.Common.{◌≡◌, ◌∙◌, true, false, is_some, sym, ap, subst}
use Rattle.fz_pass.specs.Keyed.{ephemeron_at, with_ephemeron}
use Rattle.fz_finalizers.specs.States.{State}
use Rattle.fz_machine.specs.Going.{HaveRoom}
use Rattle.fz_machine.proofs.Rowed.{comes_and_goes, have_more, have_room, known_few}
use Rattle.fz_machine.proofs.reserving.ephemeron.Goals as goal

pub returns-then-known-clause-room : goal.returns-then-known-clause-room
returns-then-known-clause-room c =
    let s = c.args.finalizers.now.state in
    let known : is_some (ephemeron_at s.ephemerons c.args.word) ≡ true = ap is_some (sym c.key.ensures) ∙ sym c.is_some-known.ensures ∙ c.if-known.true in
    subst (λ (t : State). HaveRoom false t c.args.walk.now) (sym c.in_ok-answer.ensures.follows)
    (have_room s c.args.walk.now (with_ephemeron s.ephemerons c.args.kind c.args.word c.args.key) (known_few s.ephemerons c.args.kind c.args.word c.args.key known) c.requires)

pub returns-clause-refused : goal.returns-clause-refused
returns-clause-refused c =
    let s = c.args.finalizers.now.state in
    let none : is_some (ephemeron_at s.ephemerons c.args.word) ≡ false = ap is_some (sym c.key.ensures) ∙ sym c.is_some-known.ensures ∙ c.if-known.false in
    comes_and_goes s c.ephemeron.new.self.state c.end_ephemeron.new.self.state c.args.kind c.args.word c.args.key none c.in_ok-answer.ensures.follows c.end_ephemeron.ensures.follows

pub returns-clause-room : goal.returns-clause-room
returns-clause-room c =
    let s = c.args.finalizers.now.state in
    let kept = c.reserve_rows.ensures.kept in
    subst (λ (t : State). HaveRoom false t c.reserve_rows.new.self) (sym (returns-clause-refused c)) (have_more s c.args.walk.now c.reserve_rows.new.self kept.0 kept.1 kept.2 c.requires)
