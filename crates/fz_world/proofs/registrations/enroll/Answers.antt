use Rattle.std.proofs.Common.{subst}
use Rattle.fz_finalizers.specs.declared.kinds.Finalizer.{Finalizer}
use Rattle.fz_finalizers.specs.Follows.{Follows, Register}
use Rattle.fz_world.proofs.Plain.{registers_ok, registers_err, same_ok}
use Rattle.fz_world.proofs.registrations.enroll.Goals as goal

pub returns-in_default-clause-registers : goal.returns-in_default-clause-registers
returns-in_default-clause-registers c =
    let s = c.args.finalizers.now.state in
    let e = c.in_default.ensures in
    let r = c.in_default.field-0 in
    registers_err s c.register.new.self.state c.args.object c.args.finalizer c.requires.none c.in_ok-check_limits.ensures r c.requires.object
    e.judged e.fresh e.refused

pub returns-clause-registers : goal.returns-clause-registers
returns-clause-registers c =
    let s = c.args.finalizers.now.state in
    let e = c.in-Ok.ensures in
    registers_ok s c.register.new.self.state c.args.object c.args.finalizer c.requires.none c.in_ok-check_limits.ensures c.in-Ok.answer e.number e.replaced
    (subst (λ (f : Finalizer). Follows s (Register c.args.object f) c.register.new.self.state) c.entered.ensures e.follows)

pub returns-clause-same : goal.returns-clause-same
returns-clause-same c =
    let s = c.args.finalizers.now.state in
    same_ok s c.register.new.self.state c.args.object c.args.finalizer c.requires.none c.in_ok-check_limits.ensures
    (subst (λ (f : Finalizer). Follows s (Register c.args.object f) c.register.new.self.state) c.entered.ensures c.in-Ok.ensures.follows)
