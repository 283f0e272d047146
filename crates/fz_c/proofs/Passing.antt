-- The place that a session comes to, by what the world says of its next held entry.
use Rattle.std.proofs.Common.{◌≡◌, ◌≤◌, ◌<◌, ℕ, Option, Some, None, IfSome, MatchOption, max, length, slice_get, Contains, IsTrue, IsFalse, inl, inr, sym, ap, ◌∙◌, subst, ⊎_elim, arith}
use Rattle.std.proofs.lemmas.Bool.{cases_lt}
use Rattle.std.proofs.lemmas.List.Folds.{list_any_at}
use Rattle.std.proofs.lemmas.Option.{none-some, same_Some, slice_get_past, slice_get_within}
use Rattle.fz_model.specs.declared.answers.Entry.{Entry}
use Rattle.fz_model.specs.Events.{same_entry}
use Rattle.fz_model.proofs.Events.{same_itself}
use Rattle.fz_world.specs.Shown.{IsNextHeld}
use Rattle.fz_world.specs.World.{WorldView}
use Rattle.fz_c.specs.Next.{IsNext, is_held}

-- what the world tells of the next held entry
record Tells (w : WorldView) (from : ℕ) (found : Option Entry) : Type 0 where
  next : MatchOption found ((e : Entry) → Contains w.held e → e.seq < from) (IsNextHeld w.held from)
  queued : IfSome found (λ e. slice_get w.queue e.seq ≡ Some e)
  passed : (k : ℕ) (e : Entry) → from ≤ k → IfSome found (λ next. k < next.seq) → slice_get w.queue k ≡ Some e → IsFalse (is_held w e)

-- it is held at its number, and those before it aren't
to_held : (w : WorldView) (from : ℕ) (n : Entry) → Tells w from (Some n) → IsNext w from n.seq × (Some n ≡ slice_get w.queue n.seq)
to_held w from n told = (
  record {
    after = told.next.after;
    within = inr (let within = slice_get_within w.queue n.seq n told.queued in omega (arith, within));
    finished = told.passed;
    held = λ e at. subst (λ x. IsTrue (is_held w x)) (same_Some n e (sym told.queued ∙ at)) (held_is n told.next.member);
  },
  sym told.queued,
)
  where
    held_is : (e : Entry) → Contains w.held e → IsTrue (is_held w e)
    held_is e on = list_any_at (same_entry e) w.held on.0 e on.1 (ap (same_entry e) on.2 ∙ same_itself e)

-- where none is held the place is the queue's end, or behind it
to_end : (w : WorldView) (from : ℕ) → Tells w from None → IsNext w from (max from (length w.queue)) × (None ≡ slice_get w.queue (max from (length w.queue)))
to_end w from told = (
  record {
    after = omega arith;
    within = ⊎_elim (λ less. inr (omega (arith, less))) (λ more. inl (omega (arith, more))) (cases_lt from (length w.queue));
    finished = λ k e after _ at. told.passed k e after tt at;
    held = λ e at. absurd (none-some e (sym past ∙ at));
  },
  sym past,
)
  where
    past : slice_get w.queue (max from (length w.queue)) ≡ None
    past = slice_get_past w.queue (max from (length w.queue)) (omega arith)

module _ (w : WorldView) (from : ℕ) (found : Option Entry) (next : MatchOption found ((e : Entry) → Contains w.held e → e.seq < from) (IsNextHeld w.held from))
    (queued : IfSome found (λ e. slice_get w.queue e.seq ≡ Some e))
    (passed : (k : ℕ) (e : Entry) → from ≤ k → IfSome found (λ next. k < next.seq) → slice_get w.queue k ≡ Some e → IsFalse (is_held w e))
    (place : ℕ) where
  pub comes_to_held : (n : Entry) → found ≡ Some n → place ≡ n.seq → IsNext w from place × (found ≡ slice_get w.queue place)
  comes_to_held n is at =
      let told : Tells w from found = record { next = next; queued = queued; passed = passed } in
      let there = to_held w from n (subst (Tells w from) is told) in
      subst (λ p. IsNext w from p × (found ≡ slice_get w.queue p)) (sym at) (there.0, is ∙ there.1)

  pub comes_to_end : (end : ℕ) → found ≡ None → end ≡ length w.queue → place ≡ max from end → IsNext w from place × (found ≡ slice_get w.queue place)
  comes_to_end end is end_is at =
      let told : Tells w from found = record { next = next; queued = queued; passed = passed } in
      let there = to_end w from (subst (Tells w from) is told) in
      subst (λ p. IsNext w from p × (found ≡ slice_get w.queue p)) (sym (at ∙ ap (max from) end_is)) (there.0, is ∙ there.1)
