-- What sets hold.
use Rattle.std.proofs.Common.{◌≡◌, ◌↔◌, ◌⊎◌, ℕ, Bool, true, false, Option, Some, None, refl, sym, ap, ◌∙◌, inl, inr, ⊎_elim, IsTrue}
use Rattle.std.proofs.lemmas.Bool.{true≢false}
use Rattle.std.specs.Option.{option_map_or}
use Rattle.fz_model.specs.Memory.{points}
use Rattle.fz_model.specs.Reachability.{Leads, Itself, OneMore}
use Rattle.fz_model.specs.State.{Map, Object}
use Rattle.fz_pass.specs.Holds.{Holds, Member, ByChild, ByHolder, ByKey, IsHolder, IsOfValue, IsWhole, Settles}
use Rattle.fz_pass.specs.Marks.{IsClosed}
use Rattle.fz_pass.specs.Places.{is_held}

module _ (place : ℕ → Option ℕ) (value : Map Object → ℕ → Option ℕ) (objects : Map Object) where
  abbrev H : (ℕ → ℕ → Type 0) → (ℕ → Type 0) → ℕ → Type 0
  H = Holds place value objects

  abbrev On : (ℕ → Bool) → ℕ → Type 0
  On m a = IsTrue (m a)

  -- what holds each member of a set holds what the set holds, by the same ephemerons or more
  pub holds_all : (IsOf Of : ℕ → ℕ → Type 0) (set more : ℕ → Type 0) → ((w k : ℕ) → IsOf w k → Of w k) → ((a : ℕ) → set a → H Of more a) → (a : ℕ) → H IsOf set a → H Of more a
  holds_all IsOf Of set more of all a (Member h) = all a h
  holds_all IsOf Of set more of all a (ByChild {a = b} h child) = ByChild (holds_all IsOf Of set more of all b h) child
  holds_all IsOf Of set more of all a (ByHolder {word = w} {key = k} {holder = o} is key holder there points) =
      ByHolder (of w k is) (holds_all IsOf Of set more of all k key) holder (holds_all IsOf Of set more of all o there) points
  holds_all IsOf Of set more of all a (ByKey {word = w} {key = k} is key nowhere points) = ByKey (of w k is) (holds_all IsOf Of set more of all k key) nowhere points

  pub holds_leads : (IsOf : ℕ → ℕ → Type 0) (set : ℕ → Type 0) (a b : ℕ) → H IsOf set a → Leads objects a b → H IsOf set b
  holds_leads IsOf set a b h Itself = h
  holds_leads IsOf set a b h (OneMore {b = c} leads child) = ByChild (holds_leads IsOf set a c h leads) child

  -- a whole set holds nothing else, and nor does a set within it
  pub within_whole : (IsOf : ℕ → ℕ → Type 0) (m : ℕ → Bool) (set : ℕ → Type 0) → IsWhole place value objects IsOf m → ((a : ℕ) → set a → IsTrue (m a)) → (a : ℕ) → H IsOf set a → IsTrue (m a)
  within_whole IsOf m set whole all a h = whole a (holds_all IsOf IsOf set (On m) (λ w k is. is) (λ b on. Member (all b on)) a h)

  pub whole_closed : (IsOf : ℕ → ℕ → Type 0) (m : ℕ → Bool) → IsWhole place value objects IsOf m → IsClosed objects m
  whole_closed IsOf m whole a b on child = whole b (ByChild (Member on) child)

  -- ---- holders

  pub held_by : (m : ℕ → Bool) (w h : ℕ) → IsHolder place objects w h → IsTrue (m h) → IsTrue (is_held place objects m w)
  held_by m w h holder on =
      ap (λ o. option_map_or (λ a. option_map_or m (points objects a) false) o true) holder.1 ∙ ap (λ p. option_map_or m p false) holder.2 ∙ on

  pub held_nowhere : (m : ℕ → Bool) (w : ℕ) → place w ≡ None → IsTrue (is_held place objects m w)
  held_nowhere m w nowhere = ap (λ o. option_map_or (λ a. option_map_or m (points objects a) false) o true) nowhere

  pub holder_of : (m : ℕ → Bool) (w : ℕ) → IsTrue (is_held place objects m w) → (place w ≡ None) ⊎ ((h : ℕ) × IsHolder place objects w h × IsTrue (m h))
  holder_of m w held = at (place w) refl held
    where
      in_object : (a : ℕ) → place w ≡ Some a → (p : Option ℕ) → points objects a ≡ p → option_map_or m p false ≡ true → (place w ≡ None) ⊎ ((h : ℕ) × IsHolder place objects w h × IsTrue (m h))
      in_object a is None there h = absurd (true≢false (sym h))
      in_object a is (Some b) there h = inr (b, (a, is, there), h)

      at : (o : Option ℕ) → place w ≡ o → option_map_or (λ a. option_map_or m (points objects a) false) o true ≡ true → (place w ≡ None) ⊎ ((h : ℕ) × IsHolder place objects w h × IsTrue (m h))
      at None is h = inl is
      at (Some a) is h = in_object a is (points objects a) refl h

  -- ---- values

  -- an ephemeron is settled: if its key and its holder are marked, its value is
  abbrev pub IsSettled : (ℕ → Bool) → ℕ → ℕ → Type 0
  IsSettled m w k = IsTrue (m k) → IsTrue (is_held place objects m w) → (v : ℕ) → value objects w ≡ Some v → IsTrue (m v)

  pub whole_from : (IsOf : ℕ → ℕ → Type 0) (m : ℕ → Bool) → IsClosed objects m → ((w k : ℕ) → IsOf w k → IsSettled m w k) → IsWhole place value objects IsOf m
  whole_from IsOf m closed settled a (Member on) = on
  whole_from IsOf m closed settled a (ByChild {a = b} h child) = closed b a (whole_from IsOf m closed settled b h) child
  whole_from IsOf m closed settled a (ByHolder {word = w} {key = k} {holder = o} is key holder there points) =
      settled w k is (whole_from IsOf m closed settled k key) (held_by m w o holder (whole_from IsOf m closed settled o there)) a points
  whole_from IsOf m closed settled a (ByKey {word = w} {key = k} is key nowhere points) =
      settled w k is (whole_from IsOf m closed settled k key) (held_nowhere m w nowhere) a points

  -- what a value reaches is held, if the key and the holder are
  pub holds_value : (IsOf : ℕ → ℕ → Type 0) (set : ℕ → Type 0) (m : ℕ → Bool) → ((b : ℕ) → IsTrue (m b) → H IsOf set b) → (w k : ℕ) → IsOf w k → IsTrue (m k) → IsTrue (is_held place objects m w)
      → (a : ℕ) → IsOfValue value objects w a → H IsOf set a
  holds_value IsOf set m all w k is key held a (first, points, leads) =
      holds_leads IsOf set first a
      (⊎_elim (λ nowhere. ByKey is (all k key) nowhere points) (λ (h, holder, on). ByHolder is (all k key) holder (all h on) points) (holder_of m w held))
      leads

  -- ---- marks that settle

  abbrev S : (ℕ → ℕ → Type 0) → Type 0 → (ℕ → Bool) → (ℕ → Bool) → Type 0
  S = Settles place value objects

  -- whole marks stay
  pub settles_none : (Exact : Type 0) (IsOf : ℕ → ℕ → Type 0) (m : ℕ → Bool) → IsWhole place value objects IsOf m → S IsOf Exact m m
  settles_none Exact IsOf m whole = record { more = λ a on. on; whole = whole; most = λ e a on. Member on }

  -- the same ephemerons in other words
  pub settles_as : (Exact : Type 0) (IsOf Of : ℕ → ℕ → Type 0) (old new : ℕ → Bool) → ((w k : ℕ) → IsOf w k ↔ Of w k) → S IsOf Exact old new → S Of Exact old new
  settles_as Exact IsOf Of old new same s = record {
    more = s.more;
    whole = λ a h. s.whole a (holds_all Of IsOf (On new) (On new) (λ w k is. (same w k).1 is) (λ b on. Member on) a h);
    most = λ e a on. holds_all IsOf Of (On old) (On old) (λ w k is. (same w k).0 is) (λ b was. Member was) a (s.most e a on);
  }
