use Rattle.std.proofs.Common.{◌∙◌, ◌+◌, Some, slice_index_or, drop, refl, sym, ap, subst}
use Rattle.std.proofs.lemmas.Option.{slice_get-get_or}
use Rattle.fz_model.specs.declared.answers.Entry.{Entry}
use Rattle.fz_finalizers.specs.Queue.{shown_in}
use Rattle.fz_finalizers.specs.Walks.{Steps, somes}
use Rattle.fz_finalizers.proofs.Shown.{steps_none, steps_next}
use Rattle.fz_finalizers.proofs.unfinished.Entries.step.Goals as goal

pub returns-in_err-place : goal.returns-in_err-place
returns-in_err-place c =
    let i = c.self.inside in
    rw c.from_residual.ensures (ap somes (sym c.self.view_is) ∙ steps_none i.unfinished.now.members i.entries.now i.place c.in_err-place.ensures.next, refl)

pub returns : goal.returns
returns c =
    let i = c.self.inside in
    let place = c.in_ok-place.place in
    let next = c.in_ok-place.ensures.next in
    let none : Entry = record { seq = 0; pass = 0; reg = 0; obj = 0; birth = 0; proc = 0; cd = 0 } in
    let x : Entry = slice_index_or i.entries.now place none in
    subst (λ v. Steps (Some x) v (drop (place + 1) (shown_in i.unfinished.now.members 0 i.entries.now))) c.self.view_is
    (steps_next i.unfinished.now.members i.entries.now i.place place x next (slice_get-get_or i.entries.now place none (c.self.invariant place next.member)))
