use Rattle.std.proofs.Common.{◌<◌, length, sym, subst, ◌∙◌}
use Rattle.std.proofs.lemmas.Option.{same_Some}
use Rattle.own_heap.proofs.Gaining.{marked_at}
use Rattle.own_heap.proofs.marks.Marks.insert.Goals as goal

pub returns-clause-marked : goal.returns-clause-marked
returns-clause-marked c =
    let marked = c.args.self.now.marked.items in
    let same = same_Some c.requires.0 c.in-Some.place (sym c.requires.1 ∙ sym c.in-Some.ensures) in
    marked_at marked c.in-Some.place c.args.object (sym c.in-Some.ensures) (subst (λ place. place < length marked) same c.requires.2)
