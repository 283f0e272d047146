use Rattle.std.proofs.Common.{◌++◌, ◌-◌, [], ◌∷◌, length, subst, vec_len, arith}
use Rattle.indexmap.specs.IndexMap.{spare}
use Rattle.fz_links.proofs.PartlyBack.{IsPartlyBack, all_to_come, one_passed, another_back, inserted, place_left, none_left, all_back, place_free}
use Rattle.fz_links.proofs.anew.insert_but.Goals as goal

pub loop-link-init : goal.loop-link-init
loop-link-init c = record {
  back = all_to_come c.args.one (spare c.args.links.now - length c.args.list.now.items) c.args.list.now.items c.args.links.now.entries (spare c.args.links.now) c.requires.other (let room = c.requires.room in omega (arith, room));
  capacity = omega arith;
}

pub loop-link-preserved-then-link-one : goal.loop-link-preserved-then-link-one
loop-link-preserved-then-link-one c =
    let was = subst (λ left. IsPartlyBack c.args.one (spare c.args.links.now - length c.args.list.now.items) (c.args.list.now.items ++ c.args.links.now.entries) left c.loop-link.links.entries (spare c.loop-link.links)) c.in-Some.ensures.items c.loop-link.invariant.back in
    let ok = c.insert.ensures.succeeds (place_left c.args.one (spare c.args.links.now - length c.args.list.now.items) (c.args.list.now.items ++ c.args.links.now.entries) c.pop.new.self.items c.loop-link.links.entries (c.in-Some.link, c.in-Some.target) (spare c.loop-link.links) was) in
    let updates = inserted c.insert.result ok c.insert.ensures.updates in
    record {
      back = another_back c.args.one (spare c.args.links.now - length c.args.list.now.items) (c.args.list.now.items ++ c.args.links.now.entries) c.pop.new.self.items c.loop-link.links.entries c.insert.new.self.entries c.in-Some.link c.in-Some.target (spare c.loop-link.links) (spare c.insert.new.self)
          c.if-link-one.true was updates.0 c.insert.ensures.spare;
      capacity = let kept = c.loop-link.invariant.capacity in let same = c.in-Some.ensures.capacity in omega (arith, kept, same);
    }

pub loop-link-preserved : goal.loop-link-preserved
loop-link-preserved c =
    let was = subst (λ left. IsPartlyBack c.args.one (spare c.args.links.now - length c.args.list.now.items) (c.args.list.now.items ++ c.args.links.now.entries) left c.loop-link.links.entries (spare c.loop-link.links)) c.in-Some.ensures.items c.loop-link.invariant.back in
    record {
      back = one_passed c.args.one (spare c.args.links.now - length c.args.list.now.items) (c.args.list.now.items ++ c.args.links.now.entries) c.pop.new.self.items c.loop-link.links.entries c.in-Some.target (spare c.loop-link.links)
          (subst (λ k. IsPartlyBack c.args.one (spare c.args.links.now - length c.args.list.now.items) (c.args.list.now.items ++ c.args.links.now.entries) (c.pop.new.self.items ++ (k, c.in-Some.target) ∷ []) c.loop-link.links.entries (spare c.loop-link.links)) c.if-link-one.false was);
      capacity = let kept = c.loop-link.invariant.capacity in let same = c.in-Some.ensures.capacity in omega (arith, kept, same);
    }

ended : (c : goal.In_default) → IsPartlyBack c.args.one (spare c.args.links.now - length c.args.list.now.items) (c.args.list.now.items ++ c.args.links.now.entries) [] c.loop-link.links.entries (spare c.loop-link.links)
ended c = subst (λ left. IsPartlyBack c.args.one (spare c.args.links.now - length c.args.list.now.items) (c.args.list.now.items ++ c.args.links.now.entries) left c.loop-link.links.entries (spare c.loop-link.links)) (none_left c.loop-link.list.items (vec_len c.loop-link.list) c.pop.result c.in_default.is c.loop-link.list.ok.0 c.pop.ensures.variant) c.loop-link.invariant.back

pub returns-clause-all : goal.returns-clause-all
returns-clause-all c = all_back c.args.one (spare c.args.links.now - length c.args.list.now.items) (c.args.list.now.items ++ c.args.links.now.entries) c.loop-link.links.entries (spare c.loop-link.links) (ended c)

pub returns-clause-room : goal.returns-clause-room
returns-clause-room c = λ known.
    let free = place_free c.args.one (spare c.args.links.now - length c.args.list.now.items) (c.args.list.now.items ++ c.args.links.now.entries) c.loop-link.links.entries (spare c.loop-link.links) (ended c) known in
    let room = c.requires.room in omega (arith, free, room)
