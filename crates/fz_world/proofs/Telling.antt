-- What is known of the entry with a number, by what the queue tells of it, and of those before the next held one.
use Rattle.std.proofs.Common.{◌≡◌, ◌≢◌, ◌≤◌, ◌<◌, ℕ, Option, Some, None, IfSome, MatchOption, Contains, slice_get, IsFalse, sym, ap, ◌∙◌, ⊎_elim, arith}
use Rattle.std.proofs.lemmas.Bool.{cases_lt, false_from_ne_true}
use Rattle.std.proofs.lemmas.Option.{none-some}
use Rattle.std.specs.List.{list_any}
use Rattle.fz_model.specs.declared.answers.Entry.{Entry}
use Rattle.fz_model.specs.Events.{same_entry}
use Rattle.fz_model.specs.Parts.{AreSound}
use Rattle.fz_model.specs.State.{Core}
use Rattle.fz_model.proofs.Events.{one_entry}
use Rattle.fz_model.proofs.Lists.{any_at, contains_at}
use Rattle.fz_world.specs.Shown.{IsNextHeld}

module _ (c : Core) (sound : AreSound c.objects c.registrations c.next_number c.queue c.held) (number : ℕ) where
  abbrev IsTold : Option Entry → Type 0
  IsTold found = MatchOption found ((e : Entry) → slice_get c.queue number ≡ Some e → IsFalse (list_any (same_entry e) c.held)) (λ e. slice_get c.queue number ≡ Some e)

  told_shown : (found : Option Entry) → found ≡ slice_get c.queue number → IsTold found
  told_shown None is = λ e at. absurd (none-some e (is ∙ at))
  told_shown (Some e) is = sym is

  told_kept : (found : Option Entry) → MatchOption found ((e : Entry) → Contains c.held e → e.seq ≢ number) (λ e. Contains c.held e × (e.seq ≡ number)) → IsTold found
  unfolding AreSound
  told_kept None none = λ e at. false_from_ne_true (list_any (same_entry e) c.held) (λ on.
      let some = any_at (same_entry e) c.held on in
      none some.1 (contains_at c.held some.0 some.1 some.2) (ap (λ (d : Entry). d.seq) (sym (one_entry e some.1 some.3)) ∙ sound.numbered number e at))
  told_kept (Some e) there = ap (slice_get c.queue) (sym there.1) ∙ sound.held_queued e there.0

  -- what is returned is in the queue, and what isn't returned is held no more
  pub told : (forgotten : ℕ) (found : Option Entry) → (forgotten ≤ number → found ≡ slice_get c.queue number)
      → (number < forgotten → MatchOption found ((e : Entry) → Contains c.held e → e.seq ≢ number) (λ e. Contains c.held e × (e.seq ≡ number))) → IsTold found
  told forgotten found shown kept = ⊎_elim (λ early. told_kept found (kept early)) (λ late. told_shown found (shown late)) (cases_lt number forgotten)

module _ (c : Core) (sound : AreSound c.objects c.registrations c.next_number c.queue c.held) (from : ℕ) where
  abbrev IsNextOf : Option Entry → Type 0
  IsNextOf found = MatchOption found ((e : Entry) → Contains c.held e → e.seq < from) (IsNextHeld c.held from)

  -- the next held entry is in the queue, at its number
  pub next_queued : (found : Option Entry) → IsNextOf found → IfSome found (λ e. slice_get c.queue e.seq ≡ Some e)
  unfolding AreSound
  next_queued None none = tt
  next_queued (Some e) next = sound.held_queued e next.member

  -- no place from `from` on before the next held entry has a held one
  apart : (found : Option Entry) → IsNextOf found → (k : ℕ) → from ≤ k → IfSome found (λ next. k < next.seq) → (e : Entry) → Contains c.held e → e.seq ≡ k → ⊥
  apart None none k after before e held at = let less = none e held in omega (arith, less, at, after)
  apart (Some n) next k after before e held at =
      ⊎_elim
      (λ less. omega (arith, less, at, after))
      (λ others. ⊎_elim (λ is. let seq = ap (λ (x : Entry). x.seq) is in omega (arith, seq, at, before)) (λ later. omega (arith, later, at, before)) others)
      (next.others e held)

  -- so what it passes over is finished
  pub passed : (found : Option Entry) → IsNextOf found → (k : ℕ) (e : Entry) → from ≤ k → IfSome found (λ next. k < next.seq) → slice_get c.queue k ≡ Some e → IsFalse (list_any (same_entry e) c.held)
  unfolding AreSound
  passed found next k e after before at = false_from_ne_true (list_any (same_entry e) c.held) (λ on.
      let some = any_at (same_entry e) c.held on in
      apart found next k after before some.1 (contains_at c.held some.0 some.1 some.2) (ap (λ (d : Entry). d.seq) (sym (one_entry e some.1 some.3)) ∙ sound.numbered k e at))
