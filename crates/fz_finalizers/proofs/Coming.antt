-- Entries come to the end of the queue, and are held.
use Rattle.std.proofs.Common.{◌≡◌, ◌≤◌, ◌<◌, ◌^◌, ◌+◌, ◌-◌, ◌++◌, ◌||◌, ℕ, List, drop, length, length-append, append_assoc, sym, ap, ◌∙◌, subst, arith, Bool, Option}
use Rattle.std.proofs.lemmas.List.{drop-append-le}
use Rattle.std.specs.FinSet.{contains}
use Rattle.fz_bits.specs.Flags.{Set}
use Rattle.fz_model.proofs.Sound.{length-entries_of}
use Rattle.fz_model.specs.declared.answers.Entry.{Entry}
use Rattle.fz_model.specs.declared.answers.Pick.{Pick}
use Rattle.fz_model.specs.declared.answers.Registration.{Registration}
use Rattle.fz_model.specs.State.{Map, Object}
use Rattle.fz_pass.specs.All.{QueuesAll}
use Rattle.fz_pass.specs.Decides.{Parts}
use Rattle.fz_pass.specs.Holds.{Ephemerons}
use Rattle.fz_pass.specs.Whole.{DecidesWhole}
use Rattle.fz_pass.specs.Picking.{without_flags}
use Rattle.fz_model.specs.Pass.{entries_of}
use Rattle.fz_finalizers.specs.Queue.{Queue, GainsPicks, IsReady, placed_in, is_between}
use Rattle.fz_finalizers.proofs.Queues.{held_gained, ready_gained, window_gained, length_queue}

-- behind the entries in memory these came, whose places were put to the others
module _ (past entries now : List Entry) (kept first : ℕ) (held more : Set) (outstanding : ℕ) (h : IsReady past entries kept first held outstanding)
    (pass next from end : ℕ) (picks : List Pick) (come : now ≡ entries ++ entries_of pass next picks) (next_is : next ≡ length (past ++ drop kept entries)) (fits : next + length picks < 2 ^ 64)
    (from_is : from ≡ length entries) (end_is : end ≡ length now) (are : (n : ℕ) → contains more n ≡ (is_between from end n || contains held n)) where
  next_there : next ≡ first + length (drop kept entries)
  next_there = next_is ∙ length_queue past entries kept first held outstanding h

  end_there : end ≡ length entries + length picks
  end_there = let long = ap length come ∙ length-append entries (entries_of pass next picks) in let count = length-entries_of pass next picks in omega (arith, end_is, long, count)

  are_there : (n : ℕ) → contains more n ≡ (is_between (length entries) end n || contains held n)
  are_there n = are n ∙ ap (λ k. is_between k end n || contains held n) from_is

  pub come_ready : IsReady past now kept first more (outstanding + (end - from))
  come_ready =
      let gained : end - from ≡ length picks = let e = end_there in omega (arith, from_is, e) in
      subst (λ (es : List Entry). IsReady past es kept first more (outstanding + (end - from))) (sym come)
      (subst (λ (k : ℕ). IsReady past (entries ++ entries_of pass next picks) kept first more (outstanding + k)) (sym gained)
      (ready_gained past entries kept first held outstanding h more pass next end picks next_there fits end_there are_there))

  pub come_gained : (old new : Queue) → past ++ drop kept entries ≡ old.queue → placed_in held 0 entries ≡ old.held → new.queue ≡ past ++ drop kept now → new.held ≡ placed_in more 0 now → new.forgotten ≡ old.forgotten → GainsPicks pass picks old new
  come_gained old new queue_was held_was queue_is held_is forgotten =
      let seq : next ≡ length old.queue = next_is ∙ ap length queue_was in
      record {
        queue = queue_is ∙ ap (λ es. past ++ drop kept es) come
            ∙ ap (λ es. past ++ es) (window_gained past entries kept first held outstanding h more pass next end picks next_there fits end_there are_there)
            ∙ sym (append_assoc past (drop kept entries) (entries_of pass next picks))
            ∙ ap (λ es. es ++ entries_of pass next picks) queue_was
            ∙ ap (λ k. old.queue ++ entries_of pass k picks) seq;
        held = held_is ∙ ap (placed_in more 0) come
            ∙ held_gained past entries kept first held outstanding h more pass next end picks next_there fits end_there are_there
            ∙ ap (λ es. es ++ entries_of pass next picks) held_was
            ∙ ap (λ k. old.held ++ entries_of pass k picks) seq;
        forgotten = forgotten;
      }

-- all that is registered comes behind the entries in memory, so to the end of the queue

-- what is decided of the entries in memory is decided of the queue
module _ (past items now queue : List Entry) (kept next first : ℕ) (late new_late : Set) (few : kept ≤ length items) (queue_is : past ++ drop kept items ≡ queue) (first_is : next ≡ first) where
  longer : (pass : ℕ) (picks : List Pick) → now ≡ items ++ entries_of pass next picks → past ++ drop kept now ≡ queue ++ entries_of pass first picks
  longer pass picks queued =
      ap (λ es. past ++ drop kept es) queued ∙ ap (λ es. past ++ es) (drop-append-le kept items (entries_of pass next picks) few) ∙ sym (append_assoc past (drop kept items) (entries_of pass next picks))
      ∙ (λ i. queue_is i ++ entries_of pass (first_is i) picks)

  pub all_there : (registrations : Map Registration) (q : QueuesAll next registrations (contains late) items now) → new_late ≡ without_flags late q.picks
      → (q : QueuesAll first registrations (contains late) queue (past ++ drop kept now)) × (new_late ≡ without_flags late q.picks)
  all_there registrations q left = (record { picks = q.picks; queued = longer 0 q.picks q.queued; ordered = q.ordered; each = q.each; whole = q.whole }, left)

  pub decided_there : (Exact : Type 0) (place : ℕ → Option ℕ) (value : Map Object → ℕ → Option ℕ) (pass : ℕ) (old : Parts) (ephemerons : Ephemerons) (new : Parts) (new_ephemerons : Ephemerons) (found : ℕ → Bool)
      (d : DecidesWhole Exact place value (contains late) pass next old ephemerons found new new_ephemerons items now) → new_late ≡ without_flags late d.picks
      → (d : DecidesWhole Exact place value (contains late) pass first old ephemerons found new new_ephemerons queue (past ++ drop kept now)) × (new_late ≡ without_flags late d.picks)
  decided_there Exact place value pass old ephemerons new new_ephemerons found d left =
      (record { picks = d.picks; picked = d.picked; queued = longer pass d.picks d.queued; kept = d.kept; keeps = d.keeps; most = d.most; is = d.is; left = d.left }, left)
