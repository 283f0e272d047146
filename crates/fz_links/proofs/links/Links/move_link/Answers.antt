use Rattle.std.proofs.Common.{◌≤◌, ◌∙◌, ap, sym, subst}
use Rattle.std.specs.FinMap.{len, from_entries}
use Rattle.fz_table.specs.declared.limits.TheConstants.{MOST_ENTRIES}
use Rattle.fz_links.proofs.Moved.{len_moved_to}
use Rattle.fz_links.proofs.links.Links.move_link.Goals as goal

pub invariant_of-self-2 : goal.invariant_of-self-2
invariant_of-self-2 c = record {
  few = subst (λ n. n ≤ MOST_ENTRIES) (sym (ap len c.in_ok-answer.ensures.moved ∙ len_moved_to (from_entries c.self.inside.entries.entries) c.args.link c.args.new)) c.self.invariant.few;
  spared = c.room_within-self-inside.ensures.within;
}
