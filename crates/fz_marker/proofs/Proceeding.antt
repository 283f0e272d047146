-- What the scans of a cycle keep, one after another.
use Rattle.std.proofs.Common.{◌≡◌, ℕ, ◌+◌, ◌*◌, ◌≤◌, ◌↔◌, ◌⊎◌, ◌&&◌, not, Bool, true, false, [], ◌∷◌, ◌++◌, slice_get, Option, Some, None, refl, sym, ap, ◌∙◌, subst, inl, inr, ⊎_elim, arith, IsTrue, IsFalse, Contains}
use Rattle.std.proofs.lemmas.Bool.{both_ways, and_parts}
use Rattle.std.specs.Option.{option_map_or}
use Rattle.std.specs.FinSet.{contains, insert, len}
use Rattle.std.specs.FinMap.{get, keys}
use Rattle.fz_model.specs.declared.limits.TheConstants.{BLOCK_WORDS, MAX_BLOCKS}
use Rattle.fz_model.specs.State.{Map, Object}
use Rattle.fz_model.specs.Allocation.{same_kind}
use Rattle.fz_model.specs.Reachability.{Child, Leads, Itself, OneMore}
use Rattle.fz_model.specs.declared.kinds.ObjKind.TheVariants.{Scanned}
use Rattle.fz_model.proofs.MapEntries.{key_in}
use Rattle.fz_bits.specs.Flags.{Set, Flagged}
use Rattle.fz_model.proofs.Sets.{len_inserted}
use Rattle.fz_marker.specs.declared.cycle.Cycle.{Cycle}
use Rattle.fz_marker.specs.Frontiers.{Frontier}
use Rattle.fz_marker.specs.Marking.{is_readable, is_newly_in}
use Rattle.fz_marker.specs.Cycles.{IsCycle, Visits, Scans, Proceeds, has_pointers, read_count}
use Rattle.fz_marker.proofs.Gaining.{inserted_cases}
use Rattle.fz_marker.proofs.Scanning.{pointers_readable, scan_counts}
use Rattle.fz_marker.proofs.Counts.{count_is, count_le, count_less, count_two}

-- a readable object is one
pub readable_key : (objects : Map Object) (x : ℕ) → IsTrue (is_readable objects x) → (k : ℕ) × (slice_get (keys objects) k ≡ Some x)
readable_key objects x is = at (get objects x) refl is
  where
    at : (o : Option Object) → get objects x ≡ o → IsTrue (option_map_or (λ (o : Object). same_kind o.kind Scanned) o false) → (k : ℕ) × (slice_get (keys objects) k ≡ Some x)
    at None e h = absurd (both_ways false refl h)
    at (Some o) e h = key_in objects x o e

newly : (old new : Set) (a : ℕ) → IsTrue (contains new a) → IsFalse (contains old a) → IsTrue (is_newly_in old new a)
newly old new a on off = ap (λ t. t && not (contains old a)) on ∙ ap not off

pub newly_parts : (old new : Set) (a : ℕ) → IsTrue (is_newly_in old new a) → IsTrue (contains new a) × IsFalse (contains old a)
newly_parts old new a h = let both = and_parts (contains new a) (not (contains old a)) h in (both.0, off (contains old a) both.1)
  where
    off : (b : Bool) → not b ≡ true → b ≡ false
    off true e = absurd (both_ways false refl e)
    off false e = refl

module _ (objects : Map Object) (first : Cycle) where
  pub proceeds_first : IsCycle first → Proceeds objects first first
  proceeds_first is = record {
    cycle = is;
    size = refl;
    kept = λ a h. h;
    led = λ a h. (a, h, Itself);
    still = λ a h. h;
    closed = λ a h. let both = newly_parts first.scanned.members first.scanned.members a h in absurd (both_ways (contains first.scanned.members a) both.1 both.0);
    more = omega arith;
    counted = omega arith;
    each_once = omega arith;
  }

  module _ (c new : Cycle) (x : ℕ) (p : Proceeds objects first c) (marked : IsTrue (contains c.marks.members x)) (s : Scans objects x c new) where
    scanned_is : new.scanned.members ≡ insert c.scanned.members x
    scanned_is = ap (λ (f : Flagged). f.members) s.scanned

    scanned_cases : (a : ℕ) → IsTrue (contains new.scanned.members a) ↔ (IsTrue (contains c.scanned.members a) ⊎ (a ≡ x))
    scanned_cases a = subst (λ m. IsTrue (contains m a) ↔ (IsTrue (contains c.scanned.members a) ⊎ (a ≡ x))) (sym scanned_is) (inserted_cases c.scanned.members x a)

    more_marked : (a : ℕ) → IsTrue (contains c.marks.members a) → IsTrue (contains new.marks.members a)
    more_marked a h = (s.marks.members a).1 (inl h)

    unscanned_first : IsFalse (contains first.scanned.members x)
    unscanned_first = at (contains first.scanned.members x) refl
      where
        at : (b : Bool) → contains first.scanned.members x ≡ b → b ≡ false
        at true on = absurd (both_ways (contains c.scanned.members x) s.fresh (p.still x on))
        at false off = refl

    is_cycle : IsCycle new
    is_cycle = record {
      size = ap (λ (f : Flagged). f.size) s.scanned ∙ p.cycle.size ∙ sym s.marks.size;
      waiting = λ a h. ⊎_elim (λ old. more_marked a (p.cycle.waiting a old)) (λ both. both.0) ((s.marks.waiting a).0 h);
      scanned = λ a h. ⊎_elim (λ old. more_marked a (p.cycle.scanned a old)) (λ is. more_marked a (subst (λ y. IsTrue (contains c.marks.members y)) (sym is) marked)) ((scanned_cases a).0 h);
      few = s.few;
      room = s.marks.few;
      small = subst (λ n. n ≤ BLOCK_WORDS * MAX_BLOCKS) (sym s.marks.size) p.cycle.small;
      low = λ a h. ⊎_elim (p.cycle.low a) (λ low. low) (s.marks.low a h);
    }

    before : ℕ → Bool
    before = is_newly_in first.scanned.members c.scanned.members

    after : ℕ → Bool
    after = is_newly_in first.scanned.members new.scanned.members

    more_newly : (a : ℕ) → IsTrue (before a && has_pointers objects a) → IsTrue (after a && has_pointers objects a)
    unfolding before after
    more_newly a h =
        let both = and_parts (before a) (has_pointers objects a) h in
        let parts = newly_parts first.scanned.members c.scanned.members a both.0 in
        ap (λ t. t && has_pointers objects a) (newly first.scanned.members new.scanned.members a ((scanned_cases a).1 (inl parts.0)) parts.1) ∙ both.1

    one_more : IsTrue (has_pointers objects x) → read_count objects before + 1 ≤ read_count objects after
    unfolding before after
    one_more readable =
        let key = readable_key objects x (pointers_readable objects x readable) in
        count_less (λ a. before a && has_pointers objects a) (λ a. after a && has_pointers objects a) more_newly (keys objects) key.0 x key.1
        (ap (λ t. (t && not (contains first.scanned.members x)) && has_pointers objects x) s.fresh)
        (ap (λ t. t && has_pointers objects x) (newly first.scanned.members new.scanned.members x ((scanned_cases x).1 (inr refl)) unscanned_first) ∙ readable)

    pub proceeds_scan : Proceeds objects first new
    unfolding before after
    proceeds_scan = record {
      cycle = is_cycle;
      size = s.marks.size ∙ p.size;
      kept = λ a h. more_marked a (p.kept a h);
      led = λ a h. ⊎_elim (p.led a) (λ child. let from = p.led x marked in (from.0, from.1, OneMore from.2 child)) ((s.marks.members a).0 h);
      still = λ a h. (scanned_cases a).1 (inl (p.still a h));
      closed = λ a h b child.
          let parts = newly_parts first.scanned.members new.scanned.members a h in
          ⊎_elim
          (λ old. more_marked b (p.closed a (newly first.scanned.members c.scanned.members a old parts.1) b child))
          (λ is. (s.marks.members b).1 (inr (subst (λ y. Child objects y b) is child)))
          ((scanned_cases a).0 parts.0);
      more = ⊎_elim (λ same. omega (arith, same, p.more)) (λ both. omega (arith, both.0, p.more)) (scan_counts objects x s);
      counted = ⊎_elim
          (λ same. let le = count_le (λ a. before a && has_pointers objects a) (λ a. after a && has_pointers objects a) more_newly (keys objects) in omega (arith, same, le, p.counted))
          (λ both. let less = one_more both.1 in omega (arith, both.0, less, p.counted))
          (scan_counts objects x s);
      each_once =
          let long = ap len scanned_is ∙ len_inserted c.scanned.members x s.fresh in
          ⊎_elim (λ same. omega (arith, same, long, p.each_once)) (λ both. omega (arith, both.0, long, p.each_once)) (scan_counts objects x s);
    }

  pub proceeds_visit : (c new : Cycle) (x : ℕ) → Proceeds objects first c → IsTrue (contains c.marks.members x) → Visits objects x c new → Proceeds objects first new
  proceeds_visit c new x p marked v = ⊎_elim (λ both. subst (Proceeds objects first) (sym both.1) p) (proceeds_scan c new x p marked) v

  -- and then on
  pub proceeds_on : (c new : Cycle) → Proceeds objects first c → Proceeds objects c new → Proceeds objects first new
  proceeds_on c new p q = record {
    cycle = q.cycle;
    size = q.size ∙ p.size;
    kept = λ a h. q.kept a (p.kept a h);
    led = λ a h. let mid = q.led a h in let from = p.led mid.0 mid.1 in (from.0, from.1, joined from.0 mid.0 a from.2 mid.2);
    still = λ a h. q.still a (p.still a h);
    closed = λ a h b child.
        let parts = newly_parts first.scanned.members new.scanned.members a h in
        at a b parts child;
    more = omega (arith, p.more, q.more);
    counted =
        let apart = count_two (λ a. is_newly_in first.scanned.members c.scanned.members a && has_pointers objects a) (λ a. is_newly_in c.scanned.members new.scanned.members a && has_pointers objects a) (λ a. is_newly_in first.scanned.members new.scanned.members a && has_pointers objects a) never (keys objects) in
        omega (arith, p.counted, q.counted, apart);
    each_once = omega (arith, p.each_once, q.each_once);
  }
    where
      joined : (a b d : ℕ) → Leads objects a b → Leads objects b d → Leads objects a d
      joined a b d early Itself = early
      joined a b d early (OneMore {b = e} late child) = OneMore (joined a b e early late) child

      at : (a b : ℕ) → IsTrue (contains new.scanned.members a) × IsFalse (contains first.scanned.members a) → Child objects a b → IsTrue (contains new.marks.members b)
      at a b parts child = by (contains c.scanned.members a) refl
        where
          by : (u : Bool) → contains c.scanned.members a ≡ u → IsTrue (contains new.marks.members b)
          by true on = q.kept b (p.closed a (newly first.scanned.members c.scanned.members a on parts.1) b child)
          by false off = q.closed a (newly c.scanned.members new.scanned.members a parts.0 off) b child

      never : (a : ℕ) → count_is (is_newly_in first.scanned.members c.scanned.members a && has_pointers objects a) + count_is (is_newly_in c.scanned.members new.scanned.members a && has_pointers objects a) ≤ count_is (is_newly_in first.scanned.members new.scanned.members a && has_pointers objects a)
      never a = bits (contains first.scanned.members a) (contains c.scanned.members a) (contains new.scanned.members a) (has_pointers objects a) (p.still a) (q.still a)
        where
          bits : (x y z r : Bool) → (IsTrue x → IsTrue y) → (IsTrue y → IsTrue z) → count_is ((y && not x) && r) + count_is ((z && not y) && r) ≤ count_is ((z && not x) && r)
          bits true true true true h k = omega arith
          bits true true true false h k = omega arith
          bits true true false r h k = absurd (both_ways false refl (k refl))
          bits true false z r h k = absurd (both_ways false refl (h refl))
          bits false true true true h k = omega arith
          bits false true true false h k = omega arith
          bits false true false r h k = absurd (both_ways false refl (k refl))
          bits false false true true h k = omega arith
          bits false false true false h k = omega arith
          bits false false false true h k = omega arith
          bits false false false false h k = omega arith

  -- fewer wait
  pub proceeds_with : (c : Cycle) (marks : Frontier) → Proceeds objects first c → marks.size ≡ c.marks.size → marks.members ≡ c.marks.members → ((a : ℕ) → Contains marks.waiting a → Contains c.marks.waiting a) → Proceeds objects first (record { marks = marks; scanned = c.scanned; scans = c.scans })
  proceeds_with c marks p size members fewer = record {
    cycle = record {
      size = p.cycle.size ∙ sym size;
      waiting = λ a h. subst (λ m. IsTrue (contains m a)) (sym members) (p.cycle.waiting a (fewer a h));
      scanned = λ a h. subst (λ m. IsTrue (contains m a)) (sym members) (p.cycle.scanned a h);
      few = p.cycle.few;
      room = subst (λ n. len marks.members ≤ n) (sym size) (subst (λ m. len m ≤ c.marks.size) (sym members) p.cycle.room);
      small = subst (λ n. n ≤ BLOCK_WORDS * MAX_BLOCKS) (sym size) p.cycle.small;
      low = λ a h. p.cycle.low a (subst (λ m. IsTrue (contains m a)) members h);
    };
    size = size ∙ p.size;
    kept = λ a h. subst (λ m. IsTrue (contains m a)) (sym members) (p.kept a h);
    led = λ a h. p.led a (subst (λ m. IsTrue (contains m a)) members h);
    still = p.still;
    closed = λ a h b child. subst (λ m. IsTrue (contains m b)) (sym members) (p.closed a h b child);
    more = p.more;
    counted = p.counted;
    each_once = p.each_once;
  }

-- ---- one put back

pub put_back_is : (c v : Cycle) (marks put : Frontier) (x : ℕ) → v ≡ record { marks = marks; scanned = c.scanned; scans = c.scans } → marks.size ≡ c.marks.size → marks.members ≡ c.marks.members → c.marks.waiting ≡ marks.waiting ++ x ∷ [] → put ≡ record v.marks { waiting = v.marks.waiting ++ x ∷ [] } → record { marks = put; scanned = v.scanned; scans = v.scans } ≡ c
put_back_is c v marks put x is size members waiting back =
    ap (λ (f : Frontier). record { marks = f; scanned = v.scanned; scans = v.scans }) back
    ∙ ap (λ (k : Cycle). record { marks = record k.marks { waiting = k.marks.waiting ++ x ∷ [] }; scanned = k.scanned; scans = k.scans }) is
    ∙ (λ i. record { marks = record { size = size i; members = members i; waiting = sym waiting i }; scanned = c.scanned; scans = c.scans })
