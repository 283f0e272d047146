use Rattle.std.proofs.Common.{◌∙◌, drop, length, ap, arith}
use Rattle.std.proofs.lemmas.List.{length-drop}
use Rattle.fz_finalizers.specs.Queue.{shown_in}
use Rattle.fz_finalizers.proofs.Shown.{drop_further, length-shown}
use Rattle.fz_finalizers.proofs.unfinished.Entries.from_place.Goals as goal

pub returns : goal.returns
returns c =
    let i = c.self.inside in
    let all = shown_in i.unfinished.now.members 0 i.entries.now in
    let size = length-shown i.unfinished.now.members 0 i.entries.now in
    let left = length-drop i.place all in
    let same = ap length c.self.view_is in
    drop_further all i.place c.args.place _ (omega (arith, size, left, same, c.places.ensures, c.saturating_sub-left.ensures)) ∙ ap (drop c.args.place) c.self.view_is

pub overflow_sub-result : goal.overflow_sub-result
overflow_sub-result c =
    let i = c.self.inside in
    let size = length-shown i.unfinished.now.members 0 i.entries.now in
    let left = length-drop i.place (shown_in i.unfinished.now.members 0 i.entries.now) in
    let same = ap length c.self.view_is in
    omega (arith, size, left, same, c.places.ensures, c.saturating_sub-left.ensures)
