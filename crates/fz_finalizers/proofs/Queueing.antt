-- The picks of what is queued: of each registration one at most.
use Rattle.std.proofs.Common.{◌≡◌, ◌≢◌, ◌<◌, ℕ, Some, slice_get, sym, ap, subst, ◌∙◌}
use Rattle.std.proofs.lemmas.Option.{get_or_from_slice_get, slice_get_within}
use Rattle.std.specs.FinMap.{get}
use Rattle.fz_model.specs.declared.answers.Pick.{Pick}
use Rattle.fz_model.specs.declared.answers.Registration.{Registration}
use Rattle.fz_model.specs.State.{Map}
use Rattle.fz_model.specs.Pass.{without_picks}
use Rattle.fz_model.proofs.Sound.{left_back, left_other}
use Rattle.fz_table.specs.Tabled.{Set}
use Rattle.fz_finalizers.specs.Follows.{Queues, IsOf}
use Rattle.fz_finalizers.specs.States.{State, AreFlags}
use Rattle.fz_finalizers.proofs.Flags.{flags_left}

module _ (pass : ℕ) (old new : State) (queues : Queues pass old new) where
  pub registered_at : (k : ℕ) (p : Pick) → slice_get queues.picks k ≡ Some p → (r : Registration) × (get old.registrations p.obj ≡ Some r) × (p.reg ≡ r.number)
  registered_at k p at =
      let of = subst (IsOf old.registrations) (get_or_from_slice_get queues.picks k p p at) (queues.picked.each k p (slice_get_within queues.picks k p at)) in
      (of.0, of.1, of.2)

  pub differ : (i j : ℕ) (p q : Pick) → i < j → slice_get queues.picks i ≡ Some p → slice_get queues.picks j ≡ Some q → p.obj ≢ q.obj
  differ i j p q lt ip jq same =
      queues.picked.apart i j p lt (slice_get_within queues.picks j q jq)
      (ap (λ (x : Pick). x.obj) (get_or_from_slice_get queues.picks i p p ip) ∙ same ∙ sym (ap (λ (x : Pick). x.obj) (get_or_from_slice_get queues.picks j q p jq)))

  left : (a : ℕ) (r : Registration) → get new.registrations a ≡ Some r → get (without_picks old.registrations queues.picks) a ≡ Some r
  left a r here = sym (ap (λ (m : Map Registration). get m a) queues.left) ∙ here

  -- what is still registered was, and wasn't picked
  pub still_registered : (a : ℕ) (r : Registration) → get new.registrations a ≡ Some r → (get old.registrations a ≡ Some r) × ((k : ℕ) (p : Pick) → slice_get queues.picks k ≡ Some p → a ≢ p.obj)
  still_registered a r here = (left_back old.registrations queues.picks a r (left a r here), λ k p at. left_other old.registrations queues.picks a r (left a r here) k p at)

  pub still_flags : AreFlags old.registrations old.late → AreFlags new.registrations new.late
  still_flags flags =
      subst (λ (m : Map Registration). AreFlags m new.late) (sym queues.left) (subst (λ (s : Set). AreFlags (without_picks old.registrations queues.picks) s) (sym queues.left_late) (flags_left old.registrations old.late flags queues.picks))
