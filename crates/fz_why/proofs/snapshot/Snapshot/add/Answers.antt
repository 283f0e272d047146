use Rattle.std.proofs.Common.{◌≡◌, ℕ, sym, subst}
use Rattle.fz_why.specs.Snapshot.{Copy, IsNext, Links, Lists, links_to, word_of}
use Rattle.fz_why.proofs.Cells.{cells_more}
use Rattle.fz_why.proofs.snapshot.Snapshot.add.Goals as goal

pub invariant_of-self-2 : goal.invariant_of-self-2
invariant_of-self-2 c =
    let next = subst (λ (s : Copy). IsNext s.cells s.links c.args.word c.args.cell) (sym c.self.view_is) c.requires in
    cells_more c.self.inside.cells.entries c.put.new.cells.entries c.self.inside.links.entries c.args.word c.args.cell c.self.invariant next c.in_ok-put.ensures.put

pub returns-clause-listed : goal.returns-clause-listed
returns-clause-listed c =
    let added = subst (λ (ls : Links). (number : ℕ) → word_of c.add_link.new.links.entries number ≡ links_to c.args.cell.link c.args.word (word_of ls) number) c.make_room.ensures.same c.add_link.ensures.added in
    subst (λ (s : Copy). Lists s.cells c.put.new.cells.entries s.links c.add_link.new.links.entries c.args.word c.args.cell) c.self.view_is
    (record { at_end = c.in_ok-put.ensures.put.at_end; denotes = added })
