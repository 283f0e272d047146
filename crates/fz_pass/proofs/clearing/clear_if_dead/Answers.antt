use Rattle.std.proofs.Common.{◌∙◌, sym}
use Rattle.fz_pass.proofs.Cleared.{cleared_live, cleared_dead}
use Rattle.fz_pass.proofs.clearing.clear_if_dead.Goals as goal

pub returns-then-not-is_marked-clause-objects : goal.returns-then-not-is_marked-clause-objects
returns-then-not-is_marked-clause-objects g c =
    let t = g.H.Host in
    let host = c.args.host.now in
    c.clear.ensures.objects ∙ cleared_dead (t.objects host) (t.marked host) (t.place c.args.link) c.args.target c.requires.target (sym c.is_marked.ensures ∙ c.if-not-is_marked.true)

pub returns-else-not-is_marked-clause-objects : goal.returns-else-not-is_marked-clause-objects
returns-else-not-is_marked-clause-objects g c =
    let t = g.H.Host in
    let host = c.args.host.now in
    cleared_live (t.objects host) (t.marked host) (t.place c.args.link) c.args.target (sym c.is_marked.ensures ∙ c.if-not-is_marked.false)
