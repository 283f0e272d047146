use Rattle.std.proofs.Common.{length, ap, arith}
use Rattle.std.proofs.lemmas.List.{length-drop}
use Rattle.fz_finalizers.specs.Queue.{shown_in}
use Rattle.fz_finalizers.proofs.Shown.{length-shown}
use Rattle.fz_finalizers.proofs.unfinished.Entries.places.Goals as goal

pub returns : goal.returns
returns c =
    let i = c.self.inside in
    let left = length-drop i.place (shown_in i.unfinished.now.members 0 i.entries.now) in
    let all = length-shown i.unfinished.now.members 0 i.entries.now in
    let same = ap length c.self.view_is in
    omega (arith, left, all, same, c.saturating_sub.ensures)
