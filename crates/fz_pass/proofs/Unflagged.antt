-- Where none is flagged, and links denote their own numbers, a pass is the model's.
use Rattle.std.proofs.Common.{◌≡◌, ℕ, Bool, get_or, Some, refl, sym, ◌∙◌, subst, ⊎_elim}
use Rattle.std.proofs.lemmas.Bool.{true≢false}
use Rattle.fz_model.specs.State.{Core}
use Rattle.fz_model.specs.Pass.{IsUnreachable, IsLedTo, IsKept, IsPicked, remaining_objects, without_picks, links_within}
use Rattle.fz_pass.specs.Flagged.{LateDecisionsDecide, LateDecisionsPass}
use Rattle.fz_pass.specs.Places.{placed}
use Rattle.fz_pass.proofs.Passing.{passes}
use Rattle.fz_pass.proofs.Placing.{placed_own}

pub late_decide : (Exact : Type 0) (late : ℕ → Bool) → LateDecisionsDecide Exact late
late_decide Exact late none old new found pass first queue new_queue d = record {
  picks = d.picks;
  queued = d.queued;
  exactly = λ exact. record {
    decision = record {
      kept = d.kept;
      kept_is = λ x. (λ on. subst (λ m. IsKept old.objects old.registrations m found x) own (d.most exact x on), λ is. d.keeps x (subst (λ m. IsKept old.objects old.registrations m found x) (sym own) is));
      picks = d.picks;
      picks_are = record {
        ordered = λ i j x lt within. ⊎_elim (λ flags. absurd (true≢false (sym flags.1 ∙ none (get_or d.picks j x).obj))) (λ same. same.1) (d.picked.ordered i j x lt within);
        each = λ i x within. subst (λ m. IsPicked old.objects old.registrations m found (get_or d.picks i x)) own (d.picked.each i x within).0;
        whole = λ o r un free. d.picked.whole exact o r (subst (λ m. IsUnreachable old.objects old.registrations m found o r) (sym own) un)
            (λ led. free (subst (λ m. IsLedTo old.objects old.registrations m found o) own led)) (λ on. absurd (true≢false (sym on ∙ none o)));
      };
    };
    picked = refl;
    is = d.is ∙ (λ i. record {
      objects = remaining_objects old.objects (own i) (placed_own old.long i) found d.kept;
      registrations = without_picks old.registrations d.picks;
      short = links_within old.objects old.short found d.kept;
      long = links_within old.objects old.long d.kept d.kept;
    });
  };
}
  where
    own : placed Some old.short ≡ old.short
    own = placed_own old.short

pub late_passes : (late : ℕ → Bool) (c : Core) → LateDecisionsPass late c
unfolding late_decide
late_passes late c none found new new_queue reclaimed d fewer =
    let into = late_decide (Unit {0}) late none _ new found _ _ c.queue new_queue d in
    (into.queued, passes c found d.picks new reclaimed (into.exactly tt) fewer)
