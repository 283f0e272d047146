use Rattle.std.proofs.Common.{◌≡◌, ◌∙◌, true, false, not, is_some, sym, ap, arith}
use Rattle.fz_model.specs.Causes.{full}
use Rattle.fz_world.proofs.Plain.{at_limit, is_full, is_known, has_room}
use Rattle.fz_world.proofs.registrations.check_limits.Goals.{else-registrations-ge-TABLE_LIMIT-via-then-registrations-ge-TABLE_LIMIT+else-is_none, else-registrations-ge-TABLE_LIMIT-via-else-registrations-ge-TABLE_LIMIT}
use Rattle.fz_world.proofs.registrations.check_limits.Goals as goal

pub returns-then-is_none : goal.returns-then-is_none
returns-then-is_none c =
    let s = c.args.finalizers.now.state in
    let count = c.registrations.ensures in
    let known = c.registration.ensures in
    at_limit s.registrations s.next_number c.args.object true (omega (arith, c.next_number.ensures, c.if-next_number-ge-COUNT_LIMIT.false))
    (is_full s.registrations c.args.object (ap is_some (sym known) ∙ c.is_none.ensures ∙ ap not c.if-is_none.true) (omega (arith, count, c.if-registrations-ge-TABLE_LIMIT.true)))

pub returns : goal.returns
returns c =
    let s = c.args.finalizers.now.state in
    let count = c.registrations.ensures in
    let low = c.if-next_number-ge-COUNT_LIMIT.false in
    let free : (full s.registrations c.args.object).0 ≡ false = elim c.else-registrations-ge-TABLE_LIMIT.branch [
      | else-registrations-ge-TABLE_LIMIT-via-then-registrations-ge-TABLE_LIMIT+else-is_none w ↦
          is_known s.registrations c.args.object (ap is_some (sym (w.registration.ensures)) ∙ w.is_none.ensures ∙ ap not w.if-is_none.false)
      | else-registrations-ge-TABLE_LIMIT-via-else-registrations-ge-TABLE_LIMIT w ↦ let few = w.if-registrations-ge-TABLE_LIMIT.false in has_room s.registrations c.args.object (omega (arith, count, few))
    ] in
    at_limit s.registrations s.next_number c.args.object false (omega (arith, c.next_number.ensures, low)) free
