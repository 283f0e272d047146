-- Which marked objects wait or were scanned, as a cycle goes on.
use Rattle.std.proofs.Common.{◌≡◌, ◌≢◌, ℕ, ◌+◌, ◌≤◌, ◌<◌, ◌⊎◌, Bool, true, false, [], ◌∷◌, ◌++◌, Some, None, refl, sym, ap, ◌∙◌, subst, inl, inr, ⊎_elim, arith, IsTrue, IsFalse, Contains}
use Rattle.std.proofs.lemmas.Bool.{both_ways, cases_eq, cases_lt}
use Rattle.std.proofs.lemmas.Option.{same_Some, none-some}
use Rattle.std.proofs.lemmas.List.Elements.{Contains-push_cases}
use Rattle.std.specs.FinSet.{contains}
use Rattle.fz_model.specs.declared.limits.TheConstants.{HEAP_START}
use Rattle.fz_model.specs.State.{Map, Object}
use Rattle.fz_model.specs.Memory.{points}
use Rattle.fz_model.specs.Allocation.{block_of, block_start}
use Rattle.fz_bits.specs.Flags.{Set, Flagged, IsNext}
use Rattle.fz_marker.specs.declared.cycle.Cycle.{Cycle}
use Rattle.fz_marker.specs.Frontiers.{Frontier}
use Rattle.fz_marker.specs.Cycles.{AllWait, IsSettled, WaitsOr, Visits, Scans}
use Rattle.fz_marker.specs.Standing.{IsOnNotedFrom, IsAhead}
use Rattle.fz_marker.proofs.Gaining.{inserted_cases}

pub waits_weaker : (P Q : ℕ → Type 0) (c : Cycle) → WaitsOr P c → ((a : ℕ) → IsTrue (contains c.marks.members a) → P a → Q a) → WaitsOr Q c
waits_weaker P Q c waits weaker a h = ⊎_elim inl (λ p. inr (weaker a h p)) (waits a h)

pub popped_waits : (c : Cycle) (marks : Frontier) (x : ℕ) → AllWait c → marks.members ≡ c.marks.members → c.marks.waiting ≡ marks.waiting ++ x ∷ [] → WaitsOr (λ a. a ≡ x) (record { marks = marks; scanned = c.scanned; scans = c.scans })
popped_waits c marks x waits members popped a h =
    ⊎_elim
    (λ w. ⊎_elim (λ rest. inl (inl rest)) (λ is. inr (sym is)) (Contains-push_cases marks.waiting x a (subst (λ ws. Contains ws a) popped w)))
    (λ s. inl (inr s))
    (waits a (subst (λ m. IsTrue (contains m a)) members h))

-- ---- one is scanned

module _ (objects : Map Object) (c new : Cycle) (x : ℕ) (s : Scans objects x c new) where
  -- what waited or was scanned still does or is
  settled_still : (a : ℕ) → IsSettled c a → IsSettled new a
  settled_still a h =
      ⊎_elim (λ w. inl ((s.marks.waiting a).1 (inl w))) (λ d. inr (subst (λ (f : Flagged). IsTrue (contains f.members a)) (sym s.scanned) ((inserted_cases c.scanned.members x a).1 (inl d)))) h

  settled_now : IsSettled new x
  settled_now = inr (subst (λ (f : Flagged). IsTrue (contains f.members x)) (sym s.scanned) ((inserted_cases c.scanned.members x x).1 (inr refl)))

  -- a marked object was marked before, or waits
  marked_before : (a : ℕ) → IsTrue (contains new.marks.members a) → IsTrue (contains c.marks.members a) ⊎ Contains new.marks.waiting a
  marked_before a h = at (contains c.marks.members a) refl
    where
      at : (b : Bool) → contains c.marks.members a ≡ b → IsTrue (contains c.marks.members a) ⊎ Contains new.marks.waiting a
      at true on = inl on
      at false off = inr ((s.marks.waiting a).1 (inr (h, off)))

module _ (objects : Map Object) (c new : Cycle) (x : ℕ) (P Q : ℕ → Type 0) (waits : WaitsOr P c) (left : (a : ℕ) → IsTrue (contains c.marks.members a) → P a → (a ≡ x) ⊎ Q a) where
  pub waits_visit : Visits objects x c new → WaitsOr Q new
  waits_visit (inl both) a h =
      subst (λ (k : Cycle). IsSettled k a ⊎ Q a) (sym both.1)
      (let in_c = subst (λ (k : Cycle). IsTrue (contains k.marks.members a)) both.1 h in
      ⊎_elim inl (λ p. ⊎_elim (λ is. inl (inr (subst (λ y. IsTrue (contains c.scanned.members y)) (sym is) both.0))) inr (left a in_c p)) (waits a in_c))
  waits_visit (inr s) a h =
      ⊎_elim
      (λ old.
      ⊎_elim (λ settled. inl (settled_still objects c new x s a settled))
      (λ p. ⊎_elim (λ is. inl (subst (IsSettled new) (sym is) (settled_now objects c new x s))) inr (left a old p))
      (waits a old))
      (λ w. inl (inl w))
      (marked_before objects c new x s a h)

pub all_wait_visit : (objects : Map Object) (c new : Cycle) (x : ℕ) → WaitsOr (λ a. a ≡ x) c → Visits objects x c new → AllWait new
all_wait_visit objects c new x waits v a h =
    ⊎_elim (λ settled. settled) (λ none. absurd none) (waits_visit objects c new x (λ a. a ≡ x) (λ a. ⊥) waits (λ a _ is. inl is) v a h)

-- ---- page by page

module _ (objects : Map Object) (noted : Set) where
  -- a noted page from one on isn't before the next one
  pub waits_to_page : (c : Cycle) (from page : ℕ) → IsNext noted from page → WaitsOr (IsOnNotedFrom objects noted from) c → WaitsOr (IsOnNotedFrom objects noted page) c
  waits_to_page c from page next waits =
      waits_weaker (IsOnNotedFrom objects noted from) (IsOnNotedFrom objects noted page) c waits
      (λ a _ p. (p.0, ⊎_elim (λ (less : p.0 < page). absurd (both_ways (contains noted p.0) (next.before p.0 p.1 less) p.2)) (λ ge. ge) (cases_lt p.0 page), p.2, p.3))

  -- no page is noted any more
  pub all_wait_at_end : (c : Cycle) (from : ℕ) → ((n : ℕ) → from ≤ n → IsFalse (contains noted n)) → WaitsOr (IsOnNotedFrom objects noted from) c → AllWait c
  all_wait_at_end c from none waits a h =
      ⊎_elim (λ settled. settled) (λ p. absurd (both_ways (contains noted p.0) (none p.0 p.1) p.2)) (waits a h)

  module _ (page : ℕ) (c : Cycle) (low : (a : ℕ) → IsTrue (contains c.marks.members a) → HEAP_START ≤ a) where
    Ahead : ℕ → ℕ → Type 0
    Ahead from = IsAhead objects noted page from

    -- what lies on a page from one on is that of its first word, or lies ahead
    to_ahead : (a : ℕ) → IsTrue (contains c.marks.members a) → IsOnNotedFrom objects noted page a → (points objects (block_start page) ≡ Some a) ⊎ Ahead (block_start page) a
    unfolding Ahead
    to_ahead a h p =
        ⊎_elim
        (λ (is : p.0 ≡ page). ⊎_elim (λ starts. inr (inl (after (starts ∙ is), starts ∙ is))) (λ first. inl (ap (λ n. points objects (block_start n)) (sym is) ∙ first)) p.3)
        (λ (ne : p.0 ≢ page). inr (inr (p.0, (let from = p.1 in omega (arith, from, ne)), p.2, p.3)))
        (cases_eq p.0 page)
      where
        after : block_of a ≡ page → block_start page ≤ a
        after starts = let above = low a h in omega (arith, starts, above)

    module _ (waits : WaitsOr (IsOnNotedFrom objects noted page) c) where
      pub first_visited : (new : Cycle) (x : ℕ) → points objects (block_start page) ≡ Some x → Visits objects x c new → WaitsOr (IsAhead objects noted page (block_start page)) new
      unfolding Ahead
      first_visited new x is v =
          waits_visit objects c new x (IsOnNotedFrom objects noted page) (IsAhead objects noted page (block_start page)) waits
          (λ a h p. ⊎_elim (λ first. inl (sym (same_Some x a (sym is ∙ first)))) inr (to_ahead a h p)) v

      pub first_unmarked : (x : ℕ) → points objects (block_start page) ≡ Some x → IsFalse (contains c.marks.members x) → WaitsOr (IsAhead objects noted page (block_start page)) c
      unfolding Ahead
      first_unmarked x is off =
          waits_weaker (IsOnNotedFrom objects noted page) (IsAhead objects noted page (block_start page)) c waits
          (λ a h p. ⊎_elim (λ first. absurd (both_ways (contains c.marks.members x) off (subst (λ y. IsTrue (contains c.marks.members y)) (sym (same_Some x a (sym is ∙ first))) h))) (λ q. q) (to_ahead a h p))

      pub first_nowhere : points objects (block_start page) ≡ None → WaitsOr (IsAhead objects noted page (block_start page)) c
      unfolding Ahead
      first_nowhere is =
          waits_weaker (IsOnNotedFrom objects noted page) (IsAhead objects noted page (block_start page)) c waits
          (λ a h p. ⊎_elim (λ first. absurd (none-some a (sym is ∙ first))) (λ q. q) (to_ahead a h p))

  -- the walk over the starts of a page
  pub start_visited : (page from x : ℕ) (c new : Cycle) → WaitsOr (IsAhead objects noted page from) c → ((a : ℕ) → from ≤ a → a < x → IsFalse (contains c.marks.members a)) → Visits objects x c new → WaitsOr (IsAhead objects noted page (x + 1)) new
  start_visited page from x c new waits none =
      waits_visit objects c new x (IsAhead objects noted page from) (IsAhead objects noted page (x + 1)) waits
      (λ a h. ⊎_elim (λ here. ⊎_elim inl (λ (ne : a ≢ x). inr (inl (past a h here.0 ne, here.1))) (cases_eq a x)) (λ later. inr (inr later)))
    where
      past : (a : ℕ) → IsTrue (contains c.marks.members a) → from ≤ a → a ≢ x → x + 1 ≤ a
      past a h low ne =
          ⊎_elim (λ (less : a < x). absurd (both_ways (contains c.marks.members a) (none a low less) h)) (λ (ge : x ≤ a). omega (arith, ge, ne)) (cases_lt a x)

  pub page_walked : (page from : ℕ) (c : Cycle) → ((a : ℕ) → from ≤ a → block_of a ≡ page → IsFalse (contains c.marks.members a)) → WaitsOr (IsAhead objects noted page from) c → WaitsOr (IsOnNotedFrom objects noted (page + 1)) c
  page_walked page from c none waits =
      waits_weaker (IsAhead objects noted page from) (IsOnNotedFrom objects noted (page + 1)) c waits
      (λ a h. ⊎_elim (λ here. absurd (both_ways (contains c.marks.members a) (none a here.0 here.1) h)) (λ later. later))
