use Rattle.std.proofs.Common.{ℕ, ◌≤◌, Bool, length, nat_cmp}
use Rattle.std.specs.FinMap.{len, from_entries}
use Rattle.fz_table.specs.declared.limits.TheConstants.{MOST_ENTRIES}
use Rattle.indexmap.specs.IndexMap.{spare}
use Rattle.fz_links.specs.Dropped.{ComputesTest}
use Rattle.fz_links.proofs.Dropping.{IsSifted}
use Rattle.fz_links.proofs.links.Links.drop_where.Given as goal

abbrev pub invariant-loop-place : goal.invariant-loop-place
invariant-loop-place g l = record {
  within : l.place ≤ length l.self-inside.entries.entries;
  few : len (from_entries {R = nat_cmp} l.self-inside.entries.entries) ≤ MOST_ENTRIES;
  kept : l.fn.self.room ≤ l.self-inside.room;
  roomier : l.self-inside.room ≤ spare l.self-inside.entries;
  sifted : (test : ℕ → ℕ → Bool) → ComputesTest (λ link target. g.F.Fn.post l.f (link, (target, tt))) test → IsSifted test l.fn.self.links l.place l.self-inside.entries.entries;
}

abbrev pub decreases-loop-place : goal.decreases-loop-place
decreases-loop-place g l = l.place
