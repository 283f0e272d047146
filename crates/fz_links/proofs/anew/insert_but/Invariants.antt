use Rattle.std.proofs.Common.{◌≤◌, ◌-◌, ◌++◌, length, vec_len, vec_capacity}
use Rattle.indexmap.specs.IndexMap.{spare}
use Rattle.fz_links.proofs.PartlyBack.{IsPartlyBack}
use Rattle.fz_links.proofs.anew.insert_but.Given as goal

abbrev pub invariant-loop-link : goal.invariant-loop-link
invariant-loop-link l = record {
  back : IsPartlyBack l.one (spare l.fn.links - length l.fn.list.items) (l.fn.list.items ++ l.fn.links.entries) l.list.items l.links.entries (spare l.links);
  capacity : vec_capacity l.fn.list ≤ vec_capacity l.list;
}

abbrev pub decreases-loop-link : goal.decreases-loop-link
decreases-loop-link l = vec_len l.list
