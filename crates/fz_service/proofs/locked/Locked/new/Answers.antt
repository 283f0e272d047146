use Rattle.std.proofs.Common.{ap, sym, subst, ◌∙◌, []}
use Rattle.fz_line.specs.States.{OwnerState, owner_state}
use Rattle.fz_service.specs.States.{locked_state, line_room, IsInOrder}
use Rattle.fz_service.proofs.Keeps.{opened}
use Rattle.fz_service.proofs.locked.Locked.new.Goals as goal

pub invariant_of-result : goal.invariant_of-result
invariant_of-result g c =
    let sent = ap (λ (o : OwnerState). o.sent) c.requires.owner in (
      subst (λ n. IsInOrder g.O.Opening.origin (locked_state c.args.world c.args.owner.sent n c.args.book.total c.none.result.count)) (sym c.new.ensures)
          (subst (λ es. IsInOrder g.O.Opening.origin (locked_state c.args.world es 0 c.args.book.total c.none.result.count)) (sym sent) (subst (λ n. IsInOrder g.O.Opening.origin (locked_state c.args.world [] 0 n c.none.result.count)) (sym c.requires.book.0) (opened _ _ _ c.requires.world c.requires.forgotten))),
      record {
        owner_is = c.requires.owner ∙ ap (λ es. owner_state g.O.Opening.origin.line g.O.Opening.origin.workers (line_room g.O.Opening.origin.blocks) es []) (sym sent);
        no_parts = c.requires.book.1;
        no_amount = c.requires.book.2;
      },
    )
