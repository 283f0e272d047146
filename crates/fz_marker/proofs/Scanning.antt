-- What the scan of one object makes of a cycle.
use Rattle.std.proofs.Common.{◌<◌, ◌≡◌, ℕ, ◌+◌, ◌↔◌, ◌⊎◌, Bool, true, false, cond, if◌then◌else◌, nat_lt, [], length, Option, Some, None, refl, sym, ap, ◌∙◌, subst, inl, inr, ⊎_elim, arith, IsTrue, Contains}
use Rattle.std.proofs.lemmas.Bool.{both_ways, ltb-true}
use Rattle.std.specs.Option.{option_map_or}
use Rattle.std.specs.FinMap.{get}
use Rattle.fz_model.specs.State.{Map, Object}
use Rattle.fz_model.specs.Allocation.{same_kind}
use Rattle.fz_model.specs.Reachability.{Child}
use Rattle.fz_model.specs.declared.kinds.ObjKind.{ObjKind}
use Rattle.fz_model.specs.declared.kinds.ObjKind.TheVariants.{Scanned, Atomic}
use Rattle.fz_heap.specs.Contents.{pointers_of}
use Rattle.fz_marker.specs.declared.cycle.Cycle.{Cycle}
use Rattle.fz_marker.specs.Frontiers.{Frontier, Gains, IsPointedAt}
use Rattle.fz_marker.specs.Marking.{is_readable}
use Rattle.fz_marker.specs.Cycles.{Scans, has_pointers}

module _ (objects : Map Object) (start : ℕ) where
  -- ---- what its words point to

  pointers_here : (o : Object) → get objects start ≡ Some o → pointers_of objects start ≡ (if same_kind o.kind Scanned then o.words else [])
  pointers_here o is = ap (λ m. option_map_or (λ (o : Object). if same_kind o.kind Scanned then o.words else []) m []) is

  scanned_words : (o : Object) (word : ℕ) → Contains (if same_kind o.kind Scanned then o.words else []) word → (o.kind ≡ Scanned) × Contains o.words word
  scanned_words o word h = by o.kind refl
    where
      by : (k : ObjKind) → o.kind ≡ k → (o.kind ≡ Scanned) × Contains o.words word
      by Scanned is = (is, subst (λ k. Contains (if same_kind k Scanned then o.words else []) word) is h)
      by Atomic is = let none = subst (λ k. Contains (if same_kind k Scanned then o.words else []) word) is h in absurd (omega (arith, none.1))

  pub children : (b : ℕ) → IsPointedAt objects (pointers_of objects start) b ↔ Child objects start b
  children b = (
    λ p. at p (get objects start) refl,
    λ c. record { word = c.word; within = subst (λ ws. Contains ws c.word) (sym (pointers_here c.object c.here ∙ ap (λ k. if same_kind k Scanned then c.object.words else []) c.scanned)) c.within; pointed = c.pointed },
  )
    where
      at : IsPointedAt objects (pointers_of objects start) b → (found : Option Object) → get objects start ≡ found → Child objects start b
      at p None is = let none = subst (λ ws. Contains ws p.word) (ap (λ m. option_map_or (λ (o : Object). if same_kind o.kind Scanned then o.words else []) m []) is) p.within in absurd (omega (arith, none.1))
      at p (Some o) is =
          let both = scanned_words o p.word (subst (λ ws. Contains ws p.word) (pointers_here o is) p.within) in
          record { object = o; here = is; scanned = both.0; word = p.word; within = both.1; pointed = p.pointed }

  pub children_gained : (old new : Frontier) → Gains old new (IsPointedAt objects (pointers_of objects start)) → Gains old new (Child objects start)
  children_gained old new g = record {
    size = g.size;
    members = λ a. (λ h. ⊎_elim inl (λ p. inr ((children a).0 p)) ((g.members a).0 h), ⊎_elim (λ h. (g.members a).1 (inl h)) (λ c. (g.members a).1 (inr ((children a).1 c))));
    waiting = g.waiting;
    counted = g.counted;
    few = g.few;
    low = g.low;
  }

  -- what has words to read is of kind Scanned
  pub pointers_readable : IsTrue (has_pointers objects start) → IsTrue (is_readable objects start)
  pointers_readable h = at (get objects start) refl
    where
      by : (o : Object) → IsTrue (nat_lt 0 (length (if same_kind o.kind Scanned then o.words else []))) → (k : ObjKind) → o.kind ≡ k → IsTrue (same_kind o.kind Scanned)
      by o some Scanned is = ap (λ k. same_kind k Scanned) is
      by o some Atomic is = absurd (both_ways false refl (subst (λ k. IsTrue (nat_lt 0 (length (if same_kind k Scanned then o.words else [])))) is some))

      at : (found : Option Object) → get objects start ≡ found → IsTrue (is_readable objects start)
      at None is = absurd (both_ways false refl (subst (λ m. IsTrue (nat_lt 0 (length (option_map_or (λ (o : Object). if same_kind o.kind Scanned then o.words else []) m [])))) is h))
      at (Some o) is =
          ap (λ m. option_map_or (λ (o : Object). same_kind o.kind Scanned) m false) is
          ∙ by o (subst (λ ws. IsTrue (nat_lt 0 (length ws))) (pointers_here o is) h) o.kind refl

  pub pointers_words : IsTrue (has_pointers objects start) → (o : Object) × (get objects start ≡ Some o) × (0 < length o.words)
  pointers_words h = at (get objects start) refl
    where
      by : (o : Object) → IsTrue (nat_lt 0 (length (if same_kind o.kind Scanned then o.words else []))) → (k : ObjKind) → o.kind ≡ k → 0 < length o.words
      by o some Scanned is = ltb-true 0 _ (subst (λ k. IsTrue (nat_lt 0 (length (if same_kind k Scanned then o.words else [])))) is some)
      by o some Atomic is = absurd (both_ways false refl (subst (λ k. IsTrue (nat_lt 0 (length (if same_kind k Scanned then o.words else [])))) is some))

      at : (found : Option Object) → get objects start ≡ found → (o : Object) × (get objects start ≡ Some o) × (0 < length o.words)
      at None is = absurd (both_ways false refl (subst (λ m. IsTrue (nat_lt 0 (length (option_map_or (λ (o : Object). if same_kind o.kind Scanned then o.words else []) m [])))) is h))
      at (Some o) is = (o, is, by o (subst (λ ws. IsTrue (nat_lt 0 (length ws))) (pointers_here o is) h) o.kind refl)

  -- a scan is counted where there are words to read
  pub scan_counts : {old new : Cycle} → Scans objects start old new → (new.scans ≡ old.scans) ⊎ ((new.scans ≡ old.scans + 1) × IsTrue (has_pointers objects start))
  scan_counts {old} {new} s = at (has_pointers objects start) refl
    where
      counted_as : {b : Bool} → has_pointers objects start ≡ b → new.scans ≡ old.scans + cond b 1 0
      counted_as is = subst (λ b. new.scans ≡ old.scans + cond b 1 0) is s.scans

      at : (b : Bool) → has_pointers objects start ≡ b → (new.scans ≡ old.scans) ⊎ ((new.scans ≡ old.scans + 1) × IsTrue (has_pointers objects start))
      at true on = inr (let more = counted_as on in omega (arith, more), on)
      at false off = inl (let none = counted_as off in omega (arith, none))
