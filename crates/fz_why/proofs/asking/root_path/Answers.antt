use Rattle.std.proofs.Common.{◌∙◌, sym, subst}
use Rattle.fz_why.specs.declared.origin.Origin.{Origin}
use Rattle.fz_why.specs.Trail.{IsStart, IsTrailPath}
use Rattle.fz_why.proofs.Told.{IsNoRoot}
use Rattle.fz_why.proofs.asking.root_path.Goals as goal

pub returns : goal.returns
returns c = record {
  path =
      let p = rw c.in-Some.is at c.in_ok-told.ensures.path in
      subst (λ (o : Origin). IsTrailPath c.args.found.now c.args.object o c.in-Some.path.items) c.in-Root.is p;
}

pub unreachable-requires : goal.unreachable-requires
unreachable-requires c =
    let p = rw c.in-Some.is at c.in_ok-told.ensures.path in
    let root = c.requires.rooted p.place p.first _ p.starts p.begins in
    absurd (subst IsNoRoot (sym c.in-Itself.is ∙ root.1) tt)

pub unreachable-requires-in-First : goal.unreachable-requires-in-First
unreachable-requires-in-First c =
    let p = rw c.in-Some.is at c.in_ok-told.ensures.path in
    let root = c.requires.rooted p.place p.first _ p.starts p.begins in
    absurd (subst IsNoRoot (sym c.in-First.is ∙ root.1) tt)

pub unreachable-requires-in-After : goal.unreachable-requires-in-After
unreachable-requires-in-After c =
    let p = rw c.in-Some.is at c.in_ok-told.ensures.path in
    absurd (subst IsStart c.in-After.is p.begins)
