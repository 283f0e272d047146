-- What a served duty leaves under the lock.
use Rattle.std.proofs.Common.{◌≡◌, ℕ, ◌<◌, ◌≤◌, Bool, true, false, true≢false, cond, not, None, Some, List, length, filter, slice_index_or, Contains, Ok, Err, sym, ap, ◌∙◌, subst, ⊎_elim}
use Rattle.std.proofs.lemmas.Bool.{both_ways, not-true}
use Rattle.std.proofs.lemmas.Option.{none-some}
use Rattle.std.proofs.lemmas.List.Elements.{filter_passes}
use Rattle.std.proofs.lemmas.List.Folds.{list_any-from_Any}
use Rattle.std.specs.List.{list_any}
use Rattle.fz_model.specs.declared.answers.Entry.{Entry}
use Rattle.fz_model.specs.declared.refusal.Refusal.{Refusal}
use Rattle.fz_model.specs.declared.refusal.Refusal.TheVariants.{NotHeld}
use Rattle.fz_model.specs.State.{Core, State}
use Rattle.fz_model.specs.Events.{Finish, same_entry}
use Rattle.fz_model.proofs.Events.{same_itself}
use Rattle.fz_world.specs.World.{WorldView}
use Rattle.fz_world.specs.Does.{Does}
use Rattle.fz_service.specs.States.{Origin, LockedState, IsReachedFrom, LetsGo}

-- what was let go isn't held
pub let_go : (old new : WorldView) (e : Entry) → LetsGo old new e → Contains new.held e → ⊥
let_go old new e lets (k, within, at) =
    let left : List Entry = filter (λ other. not (same_entry e other)) old.held in
    let here : slice_index_or left k e ≡ e = ap (λ (es : List Entry). slice_index_or es k e) (sym lets.gone) ∙ at in
    let other = filter_passes (λ (d : Entry). not (same_entry e d)) old.held k e (subst (λ (es : List Entry). k < length es) lets.gone within) in
    both_ways (same_entry e e) (not-true _ (ap (λ (d : Entry). not (same_entry e d)) (sym here) ∙ other)) (same_itself e)

-- a finish is refused only of what isn't held
pub not_there : (origin : Origin) (world new : WorldView) (e : Entry) (r : Refusal) → Does world (Finish e) (Err r) new → IsReachedFrom origin world → Contains world.held e → ⊥
unfolding Does
not_there origin world new e r does reached (k, within, at) =
    let s : State = reached.state in
    let next = does.1 s reached.stands in
    let held : world.held ≡ s.held = ap (λ (c : Core). c.held) reached.stands.core in
    let there : list_any (same_entry e) world.held ≡ true = list_any-from_Any (same_entry e) world.held (k, e, within, at, same_itself e) in
    ⊎_elim (λ cause. from _ (ap (λ (es : List Entry). list_any (same_entry e) es) (sym held) ∙ there) cause) (λ lacks. absurd (true≢false (sym lacks.2))) next.1.0
  where
    from : (b : Bool) → b ≡ true → cond (not b) (Some NotHeld) None ≡ Some r → ⊥
    from true is cause = none-some r cause
    from false is cause = true≢false (sym is)

-- an accepted finish queues nothing
pub same_queue : (origin : Origin) (old new : WorldView) (e : Entry) → Does old (Finish e) (Ok tt) new → IsReachedFrom origin old → new.queue ≡ old.queue
unfolding Does
same_queue origin old new e does reached =
    let next = does.1 reached.state reached.stands in
    ap (λ (c : Core). c.queue) next.2.core ∙ ap (λ (c : Core). c.queue) next.1.1 ∙ ap (λ (c : Core). c.queue) (sym reached.stands.core)

-- where the queue and what was sent of it stay, what is unsent stays
pub still_sent : (first_room : ℕ) (old new : LockedState) → new.published ≡ old.published → new.world.queue ≡ old.world.queue → (old.published < length old.world.queue → first_room ≤ old.published)
    → new.published < length new.world.queue → first_room ≤ new.published
still_sent first_room old new same queue room unsent = subst (λ n. first_room ≤ n) (sym same) (room (subst (λ n. n < length old.world.queue) same (subst (λ (es : List Entry). new.published < length es) queue unsent)))

-- and what counted it stays counted
pub still_short : (shortages : ℕ) (old new : LockedState) → new.shortages ≡ old.shortages → new.published ≡ old.published → new.world.queue ≡ old.world.queue → (old.published < length old.world.queue → old.shortages ≡ shortages)
    → new.published < length new.world.queue → new.shortages ≡ shortages
still_short shortages old new counted same queue short unsent =
    counted ∙ short (subst (λ n. n < length old.world.queue) same (subst (λ (es : List Entry). new.published < length es) queue unsent))
