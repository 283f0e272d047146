use Rattle.std.proofs.Common.{false}
use Rattle.std.proofs.lemmas.Option.{none-some}
use Rattle.fz_machine.specs.Phases.{swept}
use Rattle.fz_machine.proofs.Asked.{opened_tables}
use Rattle.fz_machine.proofs.Rooms.{rooms_of, rooms_opened}
use Rattle.fz_machine.proofs.machine.Machine.with_regions.Goals as goal

pub invariant_of-result : goal.invariant_of-result
invariant_of-result c =
    let s = c.in_ok-finalizers.finalizers.state in
    let opened = c.in_ok-finalizers.ensures.opened in (
      record {
        room = rooms_of false _ s c.new.result opened (rooms_opened c.new.result);
        room_off = tt;
        tables = opened_tables s c.args.by c.in_ok-tables.tables.items opened c.in_ok-tables.ensures;
      },
      tt,
      λ sweep is. absurd (none-some (swept sweep) is),
    )
