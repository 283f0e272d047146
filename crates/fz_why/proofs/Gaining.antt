-- Values that are added to a trail, in parts.
use Rattle.std.proofs.Common.{◌≡◌, ℕ, ◌<◌, ◌≤◌, ◌↔◌, ◌⊎◌, ◌++◌, Bool, List, [], ◌∷◌, length, Option, Some, None, slice_get, refl, sym, ap, ◌∙◌, subst, inl, inr, ⊎_elim, arith, IsTrue, Contains}
use Rattle.std.proofs.lemmas.List.Elements.{Contains-append_left, Contains-push, Contains-push_cases}
use Rattle.std.proofs.lemmas.Option.{slice_get_within, slice_get-get_or}
use Rattle.std.specs.FinMap.{get, from_entries}
use Rattle.std.specs.List.{IsDistinct}
use Rattle.std.specs.Map.{keys_of}
use Rattle.std.specs.Prelude.{nat_eq}
use Rattle.fz_model.specs.State.{Map}
use Rattle.fz_model.proofs.KeyedEntries.{got, listed}
use Rattle.fz_why.specs.declared.origin.Origin.{Origin}
use Rattle.fz_why.specs.declared.origin.Origin.TheVariants.{After}
use Rattle.fz_why.specs.Trail.{Rows, Trail, added, has, Adds, AddsValues, AreBoth, AreValuesOn, Gains, IsAfterRow, IsAt, IsHeldBefore, IsHeldIn, IsOneOf}
use Rattle.fz_why.proofs.Adding.{adds_one, still}
use Rattle.fz_why.proofs.Spreading.{past_end, row_kept}
use Rattle.fz_why.proofs.Trails.{at_some, has_at}

module _ (behind : ℕ → Bool) where
  -- what a trail holds a longer one holds
  held_on : (old new : Trail) → ((k : ℕ) (x : ℕ × Origin) → slice_get old k ≡ Some x → slice_get new k ≡ Some x) → (a : ℕ) → IsHeldIn behind old a → IsHeldIn behind new a
  held_on old new kept a = ⊎_elim inl (λ on. inr (still old new kept a on))

  one_on : (old new : Trail) → ((k : ℕ) (x : ℕ × Origin) → slice_get old k ≡ Some x → slice_get new k ≡ Some x) → (key : ℕ) (holder : Option ℕ) → IsOneOf (λ a. IsTrue (has old a)) key holder → IsOneOf (λ a. IsTrue (has new a)) key holder
  one_on old new kept key holder = ⊎_elim (λ on. inl (still old new kept key on)) (λ q. inr (q.0, q.1, still old new kept q.0 q.2))

  pub gains_none : (Row : Rows) (es : Trail) → Gains Row behind es es
  gains_none Row es = record { kept = λ k x h. h; each = λ k x. inl }

  -- none is added
  pub values_none : (Row : Rows) (es : Trail) → ((key : ℕ) (holder : Option ℕ) (b : ℕ) → Row key holder b → AreBoth (IsHeldIn behind es) key holder → IsOneOf (λ a. IsTrue (has es a)) key holder → ⊥) → AddsValues Row behind es es
  values_none Row es never = (gains_none Row es, λ key holder b row both one. absurd (never key holder b row both one))

  -- one is added
  pub values_one : (Row : Rows) (es new : Trail) (key : ℕ) (holder : Option ℕ) (b place : ℕ) → Row key holder b → AreBoth (IsHeldIn behind es) key holder → IsOneOf (IsAt es place) key holder → new ≡ added es b (After place)
      → ((k : ℕ) (h : Option ℕ) (a : ℕ) → Row k h a → a ≡ b) → AddsValues Row behind es new
  values_one Row es new key holder b place row both from is only = (
    record { kept = g.kept; each = λ k x at. ⊎_elim inl (λ q. inr (after k x q.0 q.1.0 q.1.1)) (g.each k x at) },
    λ k h a r both_too one. g.whole (After place) a (refl, only k h a r),
  )
    where
      g : Adds (λ o a. (o ≡ After place) × (a ≡ b)) es new
      g = adds_one es new b (After place) is

      low_place : place < length es
      low_place = ⊎_elim (λ at. slice_get_within es place (key, at.0) at.1) (λ q. slice_get_within es place (q.0, q.2.0) q.2.1) from

      before : (k : ℕ) → slice_get es k ≡ None → (a : ℕ) → IsHeldIn behind es a → IsHeldBefore behind new k a
      before k none a = ⊎_elim inl (λ on. let at = at_some es a on in inr (at.0, omega (arith, slice_get_within es at.0 (a, at.1.0) at.1.1, past_end es k none), (at.1.0, g.kept at.0 (a, at.1.0) at.1.1)))

      after : (k : ℕ) (x : ℕ × Origin) → slice_get es k ≡ None → x.1 ≡ After place → x.0 ≡ b → IsAfterRow Row behind new k x
      after k x none origin same = record {
        before = place;
        after = origin;
        earlier = omega (arith, low_place, past_end es k none);
        key = key;
        holder = holder;
        row = subst (Row key holder) (sym same) row;
        held = (before k none key both.0, λ q e. before k none q (both.1 q e));
        from = ⊎_elim (λ at. inl (at.0, g.kept place (key, at.0) at.1)) (λ q. inr (q.0, q.1, (q.2.0, g.kept place (q.0, q.2.0) q.2.1))) from;
      }

  gains_as : (P R : Rows) (old new : Trail) → ((key : ℕ) (holder : Option ℕ) (b : ℕ) → P key holder b → R key holder b) → Gains P behind old new → Gains R behind old new
  gains_as P R old new into g = record {
    kept = g.kept;
    each = λ k x at.
        ⊎_elim inl (λ h. inr (record { before = h.before; after = h.after; earlier = h.earlier; key = h.key; holder = h.holder; row = into h.key h.holder x.0 h.row; held = h.held; from = h.from })) (g.each k x at);
  }

  -- the same in other words
  pub values_as : (P R : Rows) (old new : Trail) → ((key : ℕ) (holder : Option ℕ) (b : ℕ) → P key holder b ↔ R key holder b) → AddsValues P behind old new → AddsValues R behind old new
  values_as P R old new both g = (gains_as P R old new (λ key holder b. (both key holder b).0) g.0, λ key holder b row. g.1 key holder b ((both key holder b).1 row))

  -- one part after the other
  pub values_on : (P Q R : Rows) (old mid new : Trail) → ((key : ℕ) (holder : Option ℕ) (b : ℕ) → R key holder b ↔ (P key holder b ⊎ Q key holder b)) → AddsValues P behind old mid → AddsValues Q behind mid new → AddsValues R behind old new
  values_on P Q R old mid new both g h = (
    record {
      kept = λ k x at. last.kept k x (first.kept k x at);
      each = λ k x at. ⊎_elim (λ was. ⊎_elim inl (λ p. inr (row_kept (λ a b. ⊥) R behind mid new last.kept k x p)) (first.each k x was)) inr (last.each k x at);
    },
    λ key holder b row held one.
        ⊎_elim (λ p. still mid new last.kept b (g.1 key holder b p held one))
        (λ q. h.1 key holder b q (held_on old mid first.kept key held.0, λ z is. held_on old mid first.kept z (held.1 z is)) (one_on old mid first.kept key holder one))
        ((both key holder b).0 row),
  )
    where
      first : Gains R behind old mid
      first = gains_as P R old mid (λ key holder b p. (both key holder b).1 (inl p)) g.0

      last : Gains R behind mid new
      last = gains_as Q R mid new (λ key holder b q. (both key holder b).1 (inr q)) h.0

  -- where nothing is past the end, nothing was added, and no value is missing
  pub values_all : (Row : Rows) (old new : Trail) (place : ℕ) → place ≤ length old → slice_get new place ≡ None → AddsValues Row behind old new → AreValuesOn Row behind new new
  values_all Row old new place within none g key holder b row both one =
      g.1 key holder b row (back_held key both.0, λ q is. back_held q (both.1 q is)) (⊎_elim (λ on. inl (back key on)) (λ q. inr (q.0, q.1, back q.0 q.2)) one)
    where
      back : (a : ℕ) → IsTrue (has new a) → IsTrue (has old a)
      back a on =
          let at = at_some new a on in
          let low = slice_get_within new at.0 (a, at.1.0) at.1.1 in
          let was = slice_get-get_or old at.0 (a, at.1.0) (omega (arith, low, within, past_end new place none)) in
          let same : Some (a, at.1.0) ≡ slice_get old at.0 = sym at.1.1 ∙ g.0.kept at.0 _ was ∙ sym was in
          has_at old at.0 a (at.1.0, sym same)

      back_held : (a : ℕ) → IsHeldIn behind new a → IsHeldIn behind old a
      back_held a = ⊎_elim inl (λ on. inr (back a on))

-- ---- the ephemerons so far

abbrev pub ByListed : List (ℕ × ℕ) → (ℕ × ℕ → Rows) → Rows
ByListed es R key holder b = (e : ℕ × ℕ) × Contains es e × R e key holder b

module _ (R : ℕ × ℕ → Rows) where
  pub listed_none : (key : ℕ) (holder : Option ℕ) (b : ℕ) → ByListed [] R key holder b → ⊥
  listed_none key holder b h = absurd (omega (arith, h.1.1))

  pub listed_on : (es : List (ℕ × ℕ)) (e : ℕ × ℕ) (key : ℕ) (holder : Option ℕ) (b : ℕ) → ByListed (es ++ e ∷ []) R key holder b ↔ (ByListed es R key holder b ⊎ R e key holder b)
  listed_on es e key holder b = (
    λ h. ⊎_elim (λ before. inl (h.0, before, h.2)) (λ same. inr (subst (λ x. R x key holder b) (sym same) h.2)) (Contains-push_cases es e h.0 h.1),
    ⊎_elim (λ h. (h.0, Contains-append_left es (e ∷ []) h.0 h.1, h.2)) (λ r. (e, Contains-push es e, r)),
  )

  pub listed_all : (m : Map ℕ) (es : List (ℕ × ℕ)) → from_entries es ≡ m → IsDistinct nat_eq (keys_of es) → (key : ℕ) (holder : Option ℕ) (b : ℕ)
      → ByListed es R key holder b ↔ ((number : ℕ) × (k : ℕ) × (get m number ≡ Some k) × R (number, k) key holder b)
  listed_all m es is once key holder b = (
    λ h. (h.0.0, h.0.1, ap (λ (n : Map ℕ). get n h.0.0) (sym is) ∙ got es h.0.0 h.0.1 once h.1, h.2),
    λ h. ((h.0, h.1), listed es h.0 h.1 (ap (λ (n : Map ℕ). get n h.0) is ∙ h.2), h.3),
  )
