-- What a pass queues, whatever the host.
use Rattle.std.proofs.Common.{◌≡◌, ℕ, get_or, Bool, true, false, cond, Option, Some, None, true≢false, length, sym, ap, ◌∙◌, ◌≢◌, ⊎_elim, List}
use Rattle.std.specs.FinMap.{empty, get, retain_keys}
use Rattle.std.proofs.lemmas.Option.{none-some}
use Rattle.fz_model.specs.declared.kinds.LinkKind.TheVariants.{Short, Long}
use Rattle.fz_model.proofs.Maps.{get-retain}
use Rattle.std.proofs.lemmas.Bool.{true≢false}
use Rattle.std.specs.FinSet.{contains}
use Rattle.fz_model.specs.declared.answers.Entry.{Entry}
use Rattle.fz_model.specs.declared.answers.Pick.{Pick}
use Rattle.fz_model.specs.declared.answers.Registration.{Registration}
use Rattle.fz_model.specs.State.{Map, Object}
use Rattle.fz_model.specs.Pass.{IsPicked}
use Rattle.fz_model.proofs.Ranked.{before_differs}
use Rattle.fz_pass.specs.All.{QueuesAll}
use Rattle.fz_pass.specs.Decides.{Parts}
use Rattle.fz_pass.specs.Flagged.{ComesAfterFlag}
use Rattle.fz_pass.specs.Picking.{without_flags}
use Rattle.fz_pass.specs.Holds.{Ephemerons}
use Rattle.fz_pass.specs.Places.{placed}
use Rattle.fz_pass.specs.Whole.{DecidesWhole, IsPickedThen}
use Rattle.fz_pass.proofs.Emptied.{all_left}
use Rattle.fz_finalizers.specs.Follows.{OnlyGo, Queues, IsOf}
use Rattle.fz_finalizers.specs.Passed.{parts_in}
use Rattle.fz_finalizers.specs.Ready.{Decides, DecidesKeyed}
use Rattle.fz_finalizers.specs.States.{State}

-- picks that come one after another are of different objects
after_differs : (late : ℕ → Bool) (m : Map Registration) (p q : Pick) → ComesAfterFlag late m p q → p.obj ≢ q.obj
after_differs late m p q after same = ⊎_elim (λ flags. true≢false (sym flags.1 ∙ ap late (sym same) ∙ flags.0)) (λ before. before_differs m p q before.1 same) after

of_pick : (old : Parts) (short : Map ℕ) (found : ℕ → Bool) (p : Pick) → IsPicked old.objects old.registrations short found p → IsOf old.registrations p
of_pick old short found p is = (is.registration, is.unreachable.registered, ap (λ (q : Pick). q.reg) is.is, ap (λ (q : Pick). q.proc) is.is, ap (λ (q : Pick). q.cd) is.is)

pub decided_queues : (Exact : Type 0) (place : ℕ → Option ℕ) (pass : ℕ) (objects left : Map Object) (found : ℕ → Bool) (old new : State) → Decides Exact place pass old.late new.late (parts_in objects old) found (parts_in left new) old.queue new.queue
    → new.taken ≡ old.taken → new.held ≡ old.held → new.next_number ≡ old.next_number → new.cleanups ≡ old.cleanups → Queues pass old new
decided_queues Exact place pass objects left found old new d taken held next_number cleanups = record {
  picks = d.0.picks;
  picked = record {
    each = λ i x h. of_pick (parts_in objects old) (placed place old.short) found (get_or d.0.picks i x) (d.0.picked.each i x h).0;
    apart = λ i j x lt within. after_differs (contains old.late) old.registrations (get_or d.0.picks i x) (get_or d.0.picks j x) (d.0.picked.ordered i j x lt within);
  };
  queue = d.0.queued;
  taken = taken;
  left = ap (λ (p : Parts). p.registrations) d.0.is;
  left_late = d.1;
  held = held;
  next_number = next_number;
  cleanups = cleanups;
}

-- the same over a host with ephemerons
of_pick_then : (old : Parts) (place : ℕ → Option ℕ) (value : Map Object → ℕ → Option ℕ) (ephemerons : Ephemerons) (found late : ℕ → Bool) (p : Pick) → IsPickedThen place value old ephemerons found late p → IsOf old.registrations p
of_pick_then old place value ephemerons found late p is = (is.registration, is.unreachable.registered, ap (λ (q : Pick). q.reg) is.is, ap (λ (q : Pick). q.proc) is.is, ap (λ (q : Pick). q.cd) is.is)

pub whole_queues : (Exact : Type 0) (place : ℕ → Option ℕ) (value : Map Object → ℕ → Option ℕ) (pass : ℕ) (objects left : Map Object) (found : ℕ → Bool) (old new : State)
    → DecidesKeyed Exact place value pass old.late new.late (parts_in objects old) old.ephemerons found (parts_in left new) new.ephemerons old.queue new.queue
    → new.taken ≡ old.taken → new.held ≡ old.held → new.next_number ≡ old.next_number → new.cleanups ≡ old.cleanups → Queues pass old new
whole_queues Exact place value pass objects left found old new d taken held next_number cleanups = record {
  picks = d.0.picks;
  picked = record {
    each = λ i x h. of_pick_then (parts_in objects old) place value old.ephemerons found (contains old.late) (get_or d.0.picks i x) (d.0.picked.each i x h);
    apart = λ i j x lt within. after_differs (contains old.late) old.registrations (get_or d.0.picks i x) (get_or d.0.picks j x) (d.0.picked.ordered i j x lt within);
  };
  queue = d.0.queued;
  taken = taken;
  left = ap (λ (p : Parts). p.registrations) d.0.is;
  left_late = d.1;
  held = held;
  next_number = next_number;
  cleanups = cleanups;
}

retained_before : (m : Map ℕ) (test : ℕ → Bool) (w k : ℕ) → get (retain_keys m test) w ≡ Some k → get m w ≡ Some k
retained_before m test w k here = by (test w) (sym (get-retain m test w) ∙ here)
  where
    by : (b : Bool) → cond b (get m w) None ≡ Some k → get m w ≡ Some k
    by true is = is
    by false is = absurd (none-some k is)

-- ephemerons go at most
pub only_go : (Exact : Type 0) (place : ℕ → Option ℕ) (value : Map Object → ℕ → Option ℕ) (late : ℕ → Bool) (pass first : ℕ) (old : Parts) (ephemerons : Ephemerons) (found : ℕ → Bool) (new : Parts) (new_ephemerons : Ephemerons) (queue new_queue : List Entry)
    → DecidesWhole Exact place value late pass first old ephemerons found new new_ephemerons queue new_queue → OnlyGo ephemerons new_ephemerons
only_go Exact place value late pass first old ephemerons found new new_ephemerons queue new_queue d Short w k here = retained_before ephemerons.short _ w k (ap (λ (e : Ephemerons). get e.short w) (sym d.left) ∙ here)
only_go Exact place value late pass first old ephemerons found new new_ephemerons queue new_queue d Long w k here = retained_before ephemerons.long _ w k (ap (λ (e : Ephemerons). get e.long w) (sym d.left) ∙ here)

pub all_queues : (old new : State) (q : QueuesAll (length old.queue) old.registrations (contains old.late) old.queue new.queue) → new.late ≡ without_flags old.late q.picks → new.registrations ≡ empty
    → new.taken ≡ old.taken → new.held ≡ old.held → new.next_number ≡ old.next_number → new.cleanups ≡ old.cleanups → Queues 0 old new
all_queues old new q flags none taken held next_number cleanups = record {
  picks = q.picks;
  picked = record {
    each = λ i x h. let of = q.each i x h in (of.0, of.1, ap (λ (p : Pick). p.reg) of.2, ap (λ (p : Pick). p.proc) of.2, ap (λ (p : Pick). p.cd) of.2);
    apart = λ i j x lt within. after_differs (contains old.late) old.registrations (get_or q.picks i x) (get_or q.picks j x) (q.ordered i j x lt within);
  };
  queue = q.queued;
  taken = taken;
  left = none ∙ sym (all_left old.registrations q.picks q.whole);
  left_late = flags;
  held = held;
  next_number = next_number;
  cleanups = cleanups;
}
