-- What a marker's calls keep.
use Rattle.std.proofs.Common.{◌≡◌, ℕ, ◌+◌, ◌*◌, ◌≤◌, ◌⊎◌, ◌&&◌, ◌||◌, not, Bool, true, false, nat_cmp, [], refl, sym, ap, ◌∙◌, subst, inl, inr, ⊎_elim, arith, IsTrue, IsFalse, Contains}
use Rattle.std.proofs.lemmas.Bool.{both_ways, and_parts, or_right}
use Rattle.std.specs.FinSet.{contains, insert, len, empty, len-empty, contains-empty}
use Rattle.std.specs.FinMap.{keys}
use Rattle.fz_model.specs.declared.limits.TheConstants.{BLOCK_WORDS, MAX_BLOCKS}
use Rattle.fz_model.specs.State.{Map, Object}
use Rattle.fz_bits.specs.Flags.{Set, Flagged}
use Rattle.fz_model.proofs.Sets.{same_members}
use Rattle.fz_marker.specs.declared.cycle.Cycle.{Cycle}
use Rattle.fz_marker.specs.Frontiers.{Frontier, Gains}
use Rattle.fz_marker.specs.Marking.{HasChildrenIn, IsClosed, is_on_noted, is_readable, is_newly_in, readable_count}
use Rattle.fz_marker.specs.Cycles.{IsCycle, AllWait, WaitsOr, Proceeds, has_pointers}
use Rattle.fz_marker.specs.Standing.{IsOnNotedFrom}
use Rattle.fz_marker.specs.Markers.{IsMarker}
use Rattle.fz_marker.proofs.Gaining.{inserted_cases}
use Rattle.fz_marker.proofs.Scanning.{pointers_readable}
use Rattle.fz_marker.proofs.Standing.{stands_word, word_noted}
use Rattle.fz_marker.proofs.Counts.{count_le}
use Rattle.fz_marker.proofs.Proceeding.{newly_parts}
use Rattle.fz_marker.proofs.Tracing.{nothing_waits}

-- ---- an empty one

not_in_empty : (a : ℕ) → IsTrue (contains (empty {R = nat_cmp}) a) → ⊥
not_in_empty a h = both_ways (contains (empty {R = nat_cmp}) a) (contains-empty nat_cmp a) h

pub empty_marker : (size scans : ℕ) (marks traces : Frontier) (scanned : Flagged) → marks ≡ record { size = size; members = empty; waiting = [] } → scanned ≡ record { size = size; members = empty } → traces ≡ record { size = size; members = empty; waiting = [] } → size ≤ BLOCK_WORDS * MAX_BLOCKS → IsMarker (record { marks = marks; scanned = scanned; scans = scans }) traces
empty_marker size scans marks traces scanned marks_are scanned_is traces_are small =
    subst (λ (f : Frontier). IsMarker (record { marks = f; scanned = scanned; scans = scans }) traces) (sym marks_are)
    (subst (λ (s : Flagged). IsMarker (record { marks = record { size = size; members = empty; waiting = [] }; scanned = s; scans = scans }) traces) (sym scanned_is)
    (subst (λ (f : Frontier). IsMarker (record { marks = record { size = size; members = empty; waiting = [] }; scanned = record { size = size; members = empty }; scans = scans }) f) (sym traces_are)
    (record {
      cycle = record {
        size = refl;
        waiting = λ a h. absurd (nothing_waits a h);
        scanned = λ a h. h;
        few = few;
        room = few;
        small = small;
        low = λ a h. absurd (not_in_empty a h);
      };
      waits = λ a h. absurd (not_in_empty a h);
      size = refl;
      room = few;
      idle = refl;
    })))
  where
    few : len (empty {R = nat_cmp}) ≤ size
    few = let none = len-empty nat_cmp in omega (arith, none)

-- ---- one that gains marks

module _ (c : Cycle) (traces marks : Frontier) (P : ℕ → Type 0) (m : IsMarker c traces) (g : Gains c.marks marks P) where
  pub gained_marker : IsMarker (record { marks = marks; scanned = c.scanned; scans = c.scans }) traces
  gained_marker = record {
    cycle = record {
      size = m.cycle.size ∙ sym g.size;
      waiting = λ a h. ⊎_elim (λ old. (g.members a).1 (inl (m.cycle.waiting a old))) (λ both. both.0) ((g.waiting a).0 h);
      scanned = λ a h. (g.members a).1 (inl (m.cycle.scanned a h));
      few = m.cycle.few;
      room = g.few;
      small = subst (λ n. n ≤ BLOCK_WORDS * MAX_BLOCKS) (sym g.size) m.cycle.small;
      low = λ a h. ⊎_elim (m.cycle.low a) (λ low. low) (g.low a h);
    };
    waits = λ a h. at a h (contains c.marks.members a) refl;
    size = m.size ∙ sym g.size;
    room = m.room;
    idle = m.idle;
  }
    where
      at : (a : ℕ) → IsTrue (contains marks.members a) → (b : Bool) → contains c.marks.members a ≡ b → Contains marks.waiting a ⊎ IsTrue (contains c.scanned.members a)
      at a h true on = ⊎_elim (λ w. inl ((g.waiting a).1 (inl w))) inr (m.waits a on)
      at a h false off = inl ((g.waiting a).1 (inr (h, off)))

alike : (s t : Bool) → (IsTrue s → IsTrue t) → (IsTrue t → IsTrue s) → s ≡ t
alike true t h k = sym (h refl)
alike false true h k = k refl
alike false false h k = refl

pub members_inserted : (old new : Frontier) (x : ℕ) → Gains old new (λ a. a ≡ x) → new.members ≡ insert old.members x
members_inserted old new x g =
    same_members _ _ (λ q. alike (contains new.members q) (contains (insert old.members x) q) (λ h. (inserted_cases old.members x q).1 ((g.members q).0 h)) (λ h. (g.members q).1 ((inserted_cases old.members x q).0 h)))

-- ---- the end of a cycle

module _ (objects : Map Object) (noted : Set) (c forgotten : Cycle) (marks : forgotten.marks ≡ c.marks) (scans : forgotten.scans ≡ c.scans) (size : forgotten.scanned.size ≡ c.scanned.size) (few : len forgotten.scanned.members ≤ forgotten.scanned.size) (gone : (a : ℕ) → IsTrue (contains forgotten.scanned.members a) → IsTrue (contains c.scanned.members a) × IsFalse (is_on_noted objects noted a)) (others : (a : ℕ) → IsTrue (contains c.scanned.members a) → IsTrue (contains forgotten.scanned.members a) ⊎ IsOnNotedFrom objects noted 0 a) where
  pub forgotten_cycle : IsCycle c → IsCycle forgotten
  forgotten_cycle is = record {
    size = size ∙ is.size ∙ sym (ap (λ (f : Frontier). f.size) marks);
    waiting = λ a h. subst (λ (f : Frontier). IsTrue (contains f.members a)) (sym marks) (is.waiting a (subst (λ (f : Frontier). Contains f.waiting a) marks h));
    scanned = λ a h. subst (λ (f : Frontier). IsTrue (contains f.members a)) (sym marks) (is.scanned a (gone a h).0);
    few = few;
    room = subst (λ (f : Frontier). len f.members ≤ f.size) (sym marks) is.room;
    small = subst (λ (f : Frontier). f.size ≤ BLOCK_WORDS * MAX_BLOCKS) (sym marks) is.small;
    low = λ a h. is.low a (subst (λ (f : Frontier). IsTrue (contains f.members a)) marks h);
  }

  pub forgotten_waits : AllWait c → WaitsOr (IsOnNotedFrom objects noted 0) forgotten
  forgotten_waits waits a h =
      ⊎_elim (λ w. inl (inl (subst (λ (f : Frontier). Contains f.waiting a) (sym marks) w))) (λ s. ⊎_elim (λ still. inl (inr still)) inr (others a s))
      (waits a (subst (λ (f : Frontier). IsTrue (contains f.members a)) marks h))

  module _ (new : Cycle) (p : Proceeds objects forgotten new) (none_waits : (a : ℕ) → IsTrue (contains new.marks.members a) → IsTrue (contains new.scanned.members a)) where
    pub finish_closed : ((a : ℕ) → IsTrue (contains c.scanned.members a) → IsFalse (is_on_noted objects noted a) → HasChildrenIn objects c.marks.members a) → IsClosed objects new.marks.members
    finish_closed clean a h b child = at (contains forgotten.scanned.members a) refl
      where
        at : (t : Bool) → contains forgotten.scanned.members a ≡ t → IsTrue (contains new.marks.members b)
        at true on = let parts = gone a on in p.kept b (subst (λ (f : Frontier). IsTrue (contains f.members b)) (sym marks) (clean a parts.0 parts.1 b child))
        at false off = p.closed a (ap (λ t. t && not (contains forgotten.scanned.members a)) (none_waits a h) ∙ ap not off) b child

    to_scan : (a : ℕ) → IsTrue (is_newly_in forgotten.scanned.members new.scanned.members a && has_pointers objects a) → IsTrue ((contains new.marks.members a && (not (contains c.scanned.members a) || is_on_noted objects noted a)) && is_readable objects a)
    to_scan a h =
        let both = and_parts (is_newly_in forgotten.scanned.members new.scanned.members a) (has_pointers objects a) h in
        let parts = newly_parts forgotten.scanned.members new.scanned.members a both.0 in
        ap (λ t. (t && (not (contains c.scanned.members a) || is_on_noted objects noted a)) && is_readable objects a) (p.cycle.scanned a parts.0)
        ∙ ap (λ t. t && is_readable objects a) (either parts.1 both.1 (contains c.scanned.members a) refl)
        ∙ pointers_readable objects a both.1
      where
        either : IsFalse (contains forgotten.scanned.members a) → IsTrue (has_pointers objects a) → (s : Bool) → contains c.scanned.members a ≡ s → (not (contains c.scanned.members a) || is_on_noted objects noted a) ≡ true
        either off readable false is = ap (λ s. not s || is_on_noted objects noted a) is
        either off readable true is =
            or_right (not (contains c.scanned.members a)) _
            (⊎_elim (λ on. absurd (both_ways (contains forgotten.scanned.members a) off on))
            (λ stands. word_noted objects noted stands.0 a stands.2 (stands_word objects stands.0 a stands.3 readable))
            (others a is))

    pub finish_few : (c.scans ≤ new.scans) × (new.scans ≤ c.scans + readable_count objects (λ a. contains new.marks.members a && (not (contains c.scanned.members a) || is_on_noted objects noted a)))
    finish_few =
        let le = count_le (λ a. is_newly_in forgotten.scanned.members new.scanned.members a && has_pointers objects a) (λ a. (contains new.marks.members a && (not (contains c.scanned.members a) || is_on_noted objects noted a)) && is_readable objects a) to_scan (keys objects) in
        (omega (arith, p.more, scans), omega (arith, p.counted, scans, le))

-- ---- a step

pub step_counted : (objects : Map Object) (old new : Cycle) → Proceeds objects old new → new.scans ≤ old.scans + readable_count objects (is_newly_in old.scanned.members new.scanned.members)
step_counted objects old new p =
    let le = count_le (λ a. is_newly_in old.scanned.members new.scanned.members a && has_pointers objects a) (λ a. is_newly_in old.scanned.members new.scanned.members a && is_readable objects a) readable (keys objects) in
    omega (arith, p.counted, le)
  where
    readable : (a : ℕ) → IsTrue (is_newly_in old.scanned.members new.scanned.members a && has_pointers objects a) → IsTrue (is_newly_in old.scanned.members new.scanned.members a && is_readable objects a)
    readable a h =
        let both = and_parts (is_newly_in old.scanned.members new.scanned.members a) (has_pointers objects a) h in
        ap (λ t. t && is_readable objects a) both.0 ∙ pointers_readable objects a both.1
