use Rattle.std.proofs.Common.{◌≡◌, ◌∷◌, [], ◌∙◌, ap, sym, rules}
use Rattle.fz_bits.specs.Flags.{members_left}
use Rattle.fz_bits.proofs.InOrder.{no_more, one_member, left_after}
use Rattle.fz_bits.proofs.members.MembersIterator.next.Goals as goal

pub returns-in_err-member-clause-steps : goal.returns-in_err-member-clause-steps
returns-in_err-member-clause-steps g c =
    let none : c.args.self.now ≡ [] = sym c.self.view_is ∙ ap (members_left g.row.FIRST c.self.inside.flags.now) c.in_ok-self.was
    ∙ no_more g.row.FIRST c.self.inside.flags.now c.in_ok-self.field-0 c.in_err-member.ensures.next in
    rw c.from_residual-in_err-member.ensures (search rules)

pub returns-clause-steps : goal.returns-clause-steps
returns-clause-steps g c =
    sym c.self.view_is ∙ ap (members_left g.row.FIRST c.self.inside.flags.now) c.in_ok-self.was
    ∙ one_member g.row.FIRST c.self.inside.flags.now c.in_ok-self.field-0 c.in_ok-member.member c.in_ok-member.ensures.next c.in_ok-member.ensures.within
    ∙ ap (λ rest. c.in_ok-member.member ∷ rest) (sym (left_after g.row.FIRST c.self.inside.flags.now c.in_ok-member.member c.checked_add-self-inside.result c.in_ok-member.ensures.fits c.checked_add-self-inside.ensures))

pub returns-clause-goes : goal.returns-clause-goes
returns-clause-goes g c = rw (returns-clause-steps g c) (search rules)
