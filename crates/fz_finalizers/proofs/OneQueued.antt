-- A registration or a cleanup that is queued by itself.
use Rattle.std.proofs.Common.{◌≡◌, ℕ, zero, suc, [], ◌∷◌, append-nil, ⊎_elim, Option, Some, None, All, refl, sym, ap, subst, ◌∙◌, arith}
use Rattle.std.proofs.lemmas.Bool.{cases_eq}
use Rattle.std.proofs.lemmas.Option.{none-some}
use Rattle.std.specs.Option.{option_map_or}
use Rattle.std.specs.Cmp.{nat_cmp_total}
use Rattle.std.specs.FinMap.{get, remove, same_map, nat_cmp-IsAntisymmetric}
use Rattle.fz_model.specs.declared.answers.Registration.{Registration}
use Rattle.fz_model.specs.State.{Map}
use Rattle.fz_model.proofs.Maps.{get-remove_same, get-remove_other}
use Rattle.fz_pass.specs.All.{unknown}
use Rattle.fz_pass.specs.Picking.{pick_of}
use Rattle.fz_finalizers.specs.declared.cleanups.Attached.{Attached}
use Rattle.fz_finalizers.specs.Follows.{ArePicksIn, IsOf, Queues, queued_attached, queued_cleanup, queued_one, queued_object, without_cleanup, without_registration}
use Rattle.fz_finalizers.specs.States.{State, AreFlags}
use Rattle.fz_finalizers.proofs.Flags.{flag_none}

-- what isn't there can't be removed
pub nothing_removed : {X : Type 0} (m : Map X) (k : ℕ) → get m k ≡ None → remove m k ≡ m
nothing_removed m k none =
    same_map nat_cmp_total nat_cmp-IsAntisymmetric _ _
    (λ q. ⊎_elim (λ (is : q ≡ k). ap (get (remove m k)) is ∙ get-remove_same m k ∙ sym none ∙ ap (get m) (sym is)) (λ ne. get-remove_other m k q ne) (cases_eq q k))

one_pick : (table : Map Registration) (object : ℕ) (r : Registration) → get table object ≡ Some r → ArePicksIn table (pick_of r object unknown ∷ [])
one_pick table object r here = record { each = each; apart = λ i j d lt h. absurd (omega (arith, lt, h)) }
  where
    each : All (IsOf table) (pick_of r object unknown ∷ [])
    each zero d h = (r, here, refl, refl, refl)
    each (suc i) d h = absurd (omega (arith, h))

pub one_queues : (s : State) (object : ℕ) → Queues s.passes s (queued_object s object)
one_queues s object = by (get s.registrations object) refl
  where
    by : (o : Option Registration) → get s.registrations object ≡ o → Queues s.passes s (option_map_or (queued_one s object) o s)
    by (Some r) here = record { picks = pick_of r object unknown ∷ []; picked = one_pick s.registrations object r here; queue = refl; taken = refl; left = refl; left_late = refl; held = refl; next_number = refl; cleanups = refl }
    by None none = record {
      picks = [];
      picked = record { each = λ i d h. absurd (omega (arith, h)); apart = λ i j d lt h. absurd (omega (arith, h)) };
      queue = sym (append-nil s.queue);
      taken = refl;
      left = refl;
      left_late = refl;
      held = refl;
      next_number = refl;
      cleanups = refl;
    }

-- where the object isn't registered, nothing is queued
pub none_queued : (s : State) (object : ℕ) → AreFlags s.registrations s.late → get s.registrations object ≡ None → without_registration s object ≡ queued_object s object
none_queued s object flags none =
    (λ i. record s { registrations = nothing_removed s.registrations object none i; late = flag_none s.registrations s.late flags object (λ r here. none-some r (sym none ∙ here)) i })
    ∙ ap (λ (o : Option Registration). option_map_or (queued_one s object) o s) (sym none)

pub queued_queues : (old new : State) (object : ℕ) → new ≡ queued_object old object → Queues old.passes old new
queued_queues old new object is = subst (Queues old.passes old) (sym is) (one_queues old object)

-- where there is no cleanup with the number, nothing is queued
pub no_cleanup_queued : (s : State) (number : ℕ) → get s.cleanups number ≡ None → without_cleanup s number ≡ queued_cleanup s number
no_cleanup_queued s number none =
    (λ i. record s { cleanups = nothing_removed s.cleanups number none i }) ∙ ap (λ (o : Option Attached). option_map_or (queued_attached s number) o s) (sym none)
