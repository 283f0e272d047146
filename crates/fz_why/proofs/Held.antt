-- The trails of first steps, and what they say.
use Rattle.std.proofs.Common.{◌≡◌, ◌≢◌, ℕ, ◌↔◌, ◌⊎◌, ◌&&◌, Bool, true, false, not, List, [], ◌∷◌, Option, Some, None, refl, sym, ap, ◌∙◌, subst, inl, inr, ⊎_elim, IsTrue, IsFalse}
use Rattle.std.proofs.lemmas.Bool.{and_parts, both_ways, cases_eq, not-true, or_cases, or_left, or_right}
use Rattle.std.proofs.lemmas.Option.{same_Some}
use Rattle.std.specs.FinSet.{contains}
use Rattle.fz_model.specs.declared.kinds.RegKind.{RegKind}
use Rattle.fz_model.specs.declared.answers.Registration.{Registration}
use Rattle.fz_model.specs.State.{Map, Object}
use Rattle.fz_model.specs.Reachability.{Child}
use Rattle.fz_model.specs.Pass.{LeadsFirst}
use Rattle.fz_pass.specs.Holds.{Member, ByChild}
use Rattle.fz_pass.specs.Places.{StandApart}
use Rattle.fz_pass.specs.Whole.{IsFirst, IsLostEarly}
use Rattle.fz_pass.proofs.Children.{first_child}
use Rattle.fz_pass.proofs.Holding.{holds_all}
use Rattle.fz_finalizers.specs.Passed.{parts_in}
use Rattle.fz_finalizers.specs.States.{State}
use Rattle.fz_why.specs.declared.paths.Pointer.{Pointer}
use Rattle.fz_why.specs.declared.origin.Origin.{Origin}
use Rattle.fz_why.specs.declared.origin.Origin.TheVariants.{First, Itself}
use Rattle.fz_why.specs.Paths.{AreLinks, ArePointers, AreValues, IsPath}
use Rattle.fz_why.specs.Why.{heap_judged, kind_toward, HoldsJudged, IsBackPath, IsFirstOf, IsHeldBy, IsHeldToward, IsKeyJudged, IsStepJudged, IsUnfound}
use Rattle.fz_why.specs.Trail.{Trail, either, from_start, has, is_cut, Adds, AreBoth, IsByOther, IsByRing, IsByWait, IsFirstBy, IsFoundOf, IsHeldIn, IsNext, IsOthersTrail, IsOwnTrail, IsRow, IsRowBy, IsStart, IsStepBy, IsTrailPath, SpreadsAll}
use Rattle.fz_why.proofs.Reached.{has_held, held_in, next_is, path_as, reached_trail, row_in, start_of}
use Rattle.fz_why.proofs.Holding.{cut_child, cut_first, found_child, found_row, row_judged, unfound}

-- ---- what is behind a trail

module _ (fs : Trail) where
  pub behind_found : (own : Option Trail) (a : ℕ) → IsTrue (has fs a) → IsTrue (either (Some fs) own a)
  behind_found None a on = or_left (has fs a) false on
  behind_found (Some es) a on = or_left (has fs a) (has es a) on

  pub only_found : (a : ℕ) → IsTrue (either (Some fs) None a) → IsTrue (has fs a)
  only_found a on = ⊎_elim (λ h. h) (λ never. absurd (both_ways false refl never)) (or_cases (has fs a) false on)

  module _ (es : Trail) where
    pub to_behind : (a : ℕ) → IsHeldIn (either (Some fs) None) es a → IsTrue (either (Some fs) (Some es) a)
    to_behind a = ⊎_elim (λ found. or_left (has fs a) (has es a) (only_found a found)) (λ on. or_right (has fs a) (has es a) on)

    pub of_behind : (a : ℕ) → IsTrue (either (Some fs) (Some es) a) → IsHeldIn (either (Some fs) None) es a
    of_behind a on = ⊎_elim (λ found. inl (behind_found None a found)) inr (or_cases (has fs a) (has es a) on)

-- ---- what holds what

module _ (place : ℕ → Option ℕ) (value : Map Object → ℕ → Option ℕ) (objects : Map Object) (s : State) (found : ℕ → Bool) where
  pub not_found : (o : ℕ) (r : Registration) → IsUnfound place value objects s found o r → found o ≡ false
  not_found o r un = not-true (found o) (and_parts _ (not (found o)) un.outside).1

  -- what one set holds another holds that has its members
  pub holds_more : (set more : ℕ → Type 0) → ((a : ℕ) → set a → HoldsJudged place value objects s found more a) → (a : ℕ) → HoldsJudged place value objects s found set a → HoldsJudged place value objects s found more a
  holds_more set more all = holds_all place value (heap_judged place value objects s found) (IsKeyJudged place value objects s found) (IsKeyJudged place value objects s found) set more (λ w k is. is) all

  -- what holds back a no-order object, or another, holds back one of the kind unreachable
  pub first_toward : (late : Bool) (a : ℕ) → IsHeldToward place value objects s found false a → IsHeldToward place value objects s found late a
  first_toward false a h = h
  first_toward true a h = holds_more _ _ (λ b. ⊎_elim (λ on. Member (inl on)) (λ first. Member (inr (inl first)))) a h

  pub by_toward : (late : Bool) (from a : ℕ) → IsHeldBy place value objects s found from a → IsHeldToward place value objects s found late a
  by_toward late from a h = first_toward late a (holds_more _ _ (λ b. ⊎_elim (λ on. Member (inl on)) (λ first. Member (inr (from, first.0, first.1, first.2)))) a h)

  pub found_toward : (late : Bool) (a : ℕ) → IsTrue (found a) → IsHeldToward place value objects s found late a
  found_toward true a on = Member (inl on)
  found_toward false a on = Member (inl on)

-- ---- the trails

module _ (place link : ℕ → Option ℕ) (links : AreLinks place link) (value : Map Object → ℕ → Option ℕ) (values : AreValues place value) (objects : Map Object) (s : State) (fs : Trail) (f : IsFoundOf place value objects s (has fs)) (pointers : ℕ → List Pointer) (are : (a : ℕ) → ArePointers objects a (pointers a)) where
  abbrev Steps : ℕ → ℕ → Type 0
  Steps a b = IsStepBy objects (is_cut link s (Some fs)) (pointers a) b

  pub ring_trail : (object : ℕ) (kind : RegKind) (mid new : Trail) → Adds (λ o b. (o ≡ First object) × IsFirstBy objects (is_cut link s (Some fs)) (pointers object) object kind b) [] mid
      → SpreadsAll (λ a b. IsStepBy objects (is_cut link s (Some fs)) (pointers a) b) (IsRowBy place value link objects s (Some fs)) (either (Some fs) None) mid new → IsOwnTrail place value objects s fs object kind new
  ring_trail object kind mid new g spread =
      let heap = heap_judged place value objects s (has fs) in
      let first = cut_first place link links value objects s fs f.sound object (pointers object) (are object) kind in
      reached_trail heap Steps (IsRowBy place value link objects s (Some fs)) (IsRow place value heap (IsKeyJudged place value objects s (has fs))) (either (Some fs) None)
      (λ o b. (o ≡ First object) × IsFirstBy objects (is_cut link s (Some fs)) (pointers object) object kind b) (IsByRing heap object kind) mid new g spread
      (λ a b. cut_child place link links value objects s fs f.sound a (pointers a) (are a) b) (row_judged place link links value objects s fs f.sound values)
      (λ o b. (λ h. (h.0, (first b).0 h.1), λ h. (h.0, (first b).1 h.1)))

  pub wait_trail : (own : Trail) (late : Bool) (object : ℕ) (mid new : Trail) → Adds (IsByOther link objects s fs pointers late object) [] mid
      → SpreadsAll (λ a b. IsStepBy objects (is_cut link s (Some fs)) (pointers a) b) (IsRowBy place value link objects s (Some fs)) (either (Some fs) (Some own)) mid new → IsOthersTrail place value objects s fs own late object new
  wait_trail own late object mid new g spread =
      let heap = heap_judged place value objects s (has fs) in
      reached_trail heap Steps (IsRowBy place value link objects s (Some fs)) (IsRow place value heap (IsKeyJudged place value objects s (has fs))) (either (Some fs) (Some own))
      (IsByOther link objects s fs pointers late object) (IsByWait place value objects s (has fs) late object) mid new g spread
      (λ a b. cut_child place link links value objects s fs f.sound a (pointers a) (are a) b) (row_judged place link links value objects s fs f.sound values)
      (λ o b. (
        λ h. (
          h.0,
          h.1,
          unfound place value objects s fs f.sound h.0 h.1 h.2 h.4,
          h.3,
          ⊎_elim (λ q. inl (q.0, (first h.0 h.1.kind b).0 q.1)) inr h.5,
        ),
        λ h. (
          h.0,
          h.1,
          h.2.registered,
          h.3,
          not_found place value objects s (has fs) h.0 h.1 h.2,
          ⊎_elim (λ q. inl (q.0, (first h.0 h.1.kind b).1 q.1)) inr h.4,
        ),
      ))
    where
      first : (from : ℕ) (kind : RegKind) (b : ℕ)
          → IsFirstBy objects (is_cut link s (Some fs)) (pointers from) from (kind_toward (late && not (contains s.late from)) kind) b
          ↔ LeadsFirst (heap_judged place value objects s (has fs)) from (kind_toward (late && not (contains s.late from)) kind) b
      first from kind b = cut_first place link links value objects s fs f.sound from (pointers from) (are from) (kind_toward (late && not (contains s.late from)) kind) b

-- ---- what an object reaches itself

pub ring_begins : (heap : Map Object) (object : ℕ) (kind : RegKind) (o : Origin) (b : ℕ) → IsByRing heap object kind o b → IsStart o
ring_begins heap object kind o b h = subst IsStart (sym h.0) tt

pub wait_begins : (place : ℕ → Option ℕ) (value : Map Object → ℕ → Option ℕ) (objects : Map Object) (s : State) (found : ℕ → Bool) (late : Bool) (object : ℕ) (o : Origin) (b : ℕ) → IsByWait place value objects s found late object o b → IsStart o
wait_begins place value objects s found late object o b h = ⊎_elim (λ q. subst IsStart (sym q.0) tt) (λ q. subst IsStart (sym q.0) tt) h.4

module _ (place : ℕ → Option ℕ) (value : Map Object → ℕ → Option ℕ) (objects : Map Object) (s : State) (fs : Trail) where
  abbrev heap : Map Object
  heap = heap_judged place value objects s (has fs)

  abbrev Keys : ℕ → ℕ → Type 0
  Keys = IsKeyJudged place value objects s (has fs)

  module _ (object : ℕ) (r : Registration) (un : IsUnfound place value objects s (has fs) object r) (own : Trail) (t : IsOwnTrail place value objects s fs object r.kind own) where
    abbrev Firsts : ℕ → Type 0
    Firsts a = IsTrue (has fs a) ⊎ IsFirstOf place value objects s (has fs) object a

    own_start : (o : Origin) (b : ℕ) → IsByRing heap object r.kind o b → IsHeldBy place value objects s (has fs) object b
    own_start o b h = Member (inr (r, un, h.1))

    own_back : (a : ℕ) → IsTrue (either (Some fs) None a) → IsHeldBy place value objects s (has fs) object a
    own_back a on = Member (inl (only_found fs a on))

    pub own_held : (a : ℕ) → IsTrue (has own a) → IsHeldBy place value objects s (has fs) object a
    own_held = has_held place value heap Keys (either (Some fs) None) (IsByRing heap object r.kind) own t (ring_begins heap object r.kind) Firsts own_start own_back

    pub ring_told : (start : Origin) (path : List ℕ) → IsTrailPath own object start path → IsBackPath place value objects s (has fs) (IsHeldBy place value objects s (has fs) object) false object path object
    ring_told start path p =
        let st = start_of heap (IsRow place value heap Keys) (either (Some fs) None) (IsByRing heap object r.kind) own t (ring_begins heap object r.kind) p.place p.first start p.starts p.begins in
        record {
          by = r;
          unfound = un;
          first = p.first;
          rest = p.rest;
          is = p.is ∙ ap (λ (x : Origin). from_start x (p.first ∷ p.rest)) st.0;
          step = inl st.1;
          leads = path_as (IsNext own) (IsStepJudged place value objects s (has fs) (IsHeldBy place value objects s (has fs) object))
              (next_is place value heap Keys (either (Some fs) None) (IsByRing heap object r.kind) own t (ring_begins heap object r.kind) Firsts own_start own_back) p.first p.rest object p.leads;
        }

    module _ (apart : StandApart place) (values : AreValues place value) (f : IsFoundOf place value objects s (has fs)) where
      own_closed : (a b : ℕ) → IsTrue (either (Some fs) None a) → Child heap a b → IsTrue (either (Some fs) None b)
      own_closed a b on child = behind_found fs None b (found_child place value objects s (has fs) apart values f a b (only_found fs a on) child)

      own_rows : (key : ℕ) (holder : Option ℕ) (b : ℕ) → IsRow place value heap Keys key holder b → AreBoth (λ a. IsTrue (either (Some fs) None a)) key holder → IsTrue (either (Some fs) None b)
      own_rows key holder b row both =
          behind_found fs None b (found_row place value objects s (has fs) apart values f key holder b row (only_found fs key both.0, λ q is. only_found fs q (both.1 q is)))

      own_first : (a : ℕ) → Firsts a → IsHeldIn (either (Some fs) None) own a
      own_first a =
          ⊎_elim (λ on. inl (behind_found fs None a on))
          (λ h.
          let same : h.0 ≡ r = same_Some h.0 r (sym h.1.registered ∙ un.registered) in
          inr (t.starts (First object) a (refl, subst (λ (x : Registration). LeadsFirst heap object x.kind a) same h.2)))

      pub ring_none : has own object ≡ false → IsHeldBy place value objects s (has fs) object object → ⊥
      ring_none none h =
          ⊎_elim (λ on. both_ways (has fs object) (not_found place value objects s (has fs) object r un) (only_found fs object on)) (both_ways (has own object) none)
          (held_in place value heap Keys (either (Some fs) None) (IsByRing heap object r.kind) own t own_closed own_rows Firsts own_first object h)

      -- ---- what the others reach

      module _ (alone : IsHeldBy place value objects s (has fs) object object → ⊥) where
        both_closed : (a b : ℕ) → IsTrue (either (Some fs) (Some own) a) → Child heap a b → IsTrue (either (Some fs) (Some own) b)
        both_closed a b on child =
            to_behind fs own b
            (⊎_elim (λ found. inl (own_closed a b found child)) (λ reached. inr (t.closed a b reached child)) (of_behind fs own a on))

        both_rows : (key : ℕ) (holder : Option ℕ) (b : ℕ) → IsRow place value heap Keys key holder b → AreBoth (λ a. IsTrue (either (Some fs) (Some own) a)) key holder → IsTrue (either (Some fs) (Some own) b)
        both_rows key holder b row both =
            to_behind fs own b
            (row_in place value heap Keys (either (Some fs) None) (IsByRing heap object r.kind) own t own_closed own_rows key holder b row (of_behind fs own key both.0, λ q is. of_behind fs own q (both.1 q is)))

        module _ (late : Bool) (es : Trail) (u : IsOthersTrail place value objects s fs own late object es) where
          -- what is behind is held, and no such thing is the object
          found_in : (a : ℕ) → IsTrue (has fs a) → IsHeldIn (either (Some fs) (Some own)) es a
          found_in a on = inl (behind_found fs (Some own) a on)

          not_behind : IsTrue (either (Some fs) (Some own) object) → ⊥
          not_behind on =
              ⊎_elim (λ found. both_ways (has fs object) (not_found place value objects s (has fs) object r un) (only_found fs object found))
              (λ reached. alone (own_held object reached)) (of_behind fs own object on)

          -- a first step of the object itself is behind; one of another is on the trail
          first_in : (a : ℕ) → IsFirst place value (parts_in objects s) s.ephemerons (has fs) a → IsHeldIn (either (Some fs) (Some own)) es a
          first_in a h =
              ⊎_elim
              (λ (same : h.0 ≡ object).
              inl (to_behind fs own a (own_first a (inr (subst (λ x. IsFirstOf place value objects s (has fs) x a) same (h.1, h.2, h.3))))))
              (λ other. inr (u.starts (First h.0) a (h.0, h.1, h.2, other, inl (refl, toward (late && not (contains s.late h.0)) h.0 h.1.kind a h.3)))) (cases_eq h.0 object)
            where
              toward : (b : Bool) (from : ℕ) (kind : RegKind) (first : ℕ) → LeadsFirst heap from kind first → LeadsFirst heap from (kind_toward b kind) first
              toward true from kind first lead = first_child heap from kind first lead
              toward false from kind first lead = lead

        wait_none_early : (es : Trail) → IsOthersTrail place value objects s fs own false object es → has es object ≡ false → IsHeldToward place value objects s (has fs) false object → ⊥
        wait_none_early es u none h =
            ⊎_elim (not_behind false es u) (both_ways (has es object) none)
            (held_in place value heap Keys (either (Some fs) (Some own)) (IsByWait place value objects s (has fs) false object) es u both_closed both_rows _ (λ a. ⊎_elim (found_in false es u a) (first_in false es u a)) object h)

        wait_none_late : (es : Trail) → true ≡ contains s.late object → IsOthersTrail place value objects s fs own true object es → has es object ≡ false → IsHeldToward place value objects s (has fs) true object → ⊥
        wait_none_late es flagged u none h =
            ⊎_elim (not_behind true es u) (both_ways (has es object) none)
            (held_in place value heap Keys (either (Some fs) (Some own)) (IsByWait place value objects s (has fs) true object) es u both_closed both_rows _
            (λ a. ⊎_elim (found_in true es u a) (⊎_elim (first_in true es u a) (early a))) object h)
          where
            early : (a : ℕ) → IsLostEarly place value (parts_in objects s) s.ephemerons (has fs) (contains s.late) a → IsHeldIn (either (Some fs) (Some own)) es a
            early a h =
                let ne : a ≢ object = (λ same. both_ways (contains s.late object) (ap (contains s.late) (sym same) ∙ h.1) (sym flagged)) in
                inr (u.starts Itself a (a, h.0.0, h.0.1, ne, inr (refl, ap not h.1, refl)))

        pub wait_none : (late : Bool) → late ≡ contains s.late object → (es : Trail) → IsOthersTrail place value objects s fs own late object es → has es object ≡ false → IsHeldToward place value objects s (has fs) late object → ⊥
        wait_none false flagged es u none h = wait_none_early es u none h
        wait_none true flagged es u none h = wait_none_late es flagged u none h

    -- ---- a path from another

    -- what is behind the trail of the others is held by what holds them
    others_back : (late : Bool) (a : ℕ) → IsTrue (either (Some fs) (Some own) a) → IsHeldToward place value objects s (has fs) late a
    others_back late a on =
        ⊎_elim (λ found. found_toward place value objects s (has fs) late a (only_found fs a found)) (λ reached. by_toward place value objects s (has fs) late object a (own_held a reached)) (of_behind fs own a on)

    module _ (late : Bool) (es : Trail) (u : IsOthersTrail place value objects s fs own late object es) (set : ℕ → Type 0)
        (first_of : (o b : ℕ) (by : Registration) → IsUnfound place value objects s (has fs) o by → LeadsFirst heap o by.kind b → HoldsJudged place value objects s (has fs) set b)
        (itself : (o : ℕ) (by : Registration) → IsUnfound place value objects s (has fs) o by → IsTrue (late && not (contains s.late o)) → HoldsJudged place value objects s (has fs) set o)
        (back : (a : ℕ) → IsTrue (either (Some fs) (Some own) a) → HoldsJudged place value objects s (has fs) set a) where
      abbrev Back : ℕ → List ℕ → Type 0
      Back from path = IsBackPath place value objects s (has fs) (HoldsJudged place value objects s (has fs) set) late from path object

      start_in : (o : Origin) (b : ℕ) → IsByWait place value objects s (has fs) late object o b → HoldsJudged place value objects s (has fs) set b
      start_in o b h =
          ⊎_elim (λ q. by_kind (late && not (contains s.late h.0)) refl q.1)
          (λ q. subst (HoldsJudged place value objects s (has fs) set) (sym q.2) (itself h.0 h.1 h.2 q.1)) h.4
        where
          by_kind : (e : Bool) → (late && not (contains s.late h.0)) ≡ e → LeadsFirst heap h.0 (kind_toward (late && not (contains s.late h.0)) h.1.kind) b → HoldsJudged place value objects s (has fs) set b
          by_kind true early lead = ByChild (itself h.0 h.1 h.2 early) (subst (λ e. LeadsFirst heap h.0 (kind_toward e h.1.kind) b) early lead)
          by_kind false none lead = first_of h.0 b h.1 h.2 (subst (λ e. LeadsFirst heap h.0 (kind_toward e h.1.kind) b) none lead)

      next : (a b : ℕ) → IsNext es a b → IsStepJudged place value objects s (has fs) (HoldsJudged place value objects s (has fs) set) a b
      next = next_is place value heap Keys (either (Some fs) (Some own)) (IsByWait place value objects s (has fs) late object) es u (wait_begins place value objects s (has fs) late object) set start_in back

      of_early : (from : ℕ) → IsTrue (late && not (contains s.late from)) → IsTrue late × IsFalse (contains s.late from)
      of_early from early = let parts = and_parts late (not (contains s.late from)) early in (parts.0, not-true (contains s.late from) parts.1)

      -- the first step that counts
      counted : (from : ℕ) (kind : RegKind) (first : ℕ) (e : Bool) → (late && not (contains s.late from)) ≡ e → LeadsFirst heap from (kind_toward e kind) first
          → LeadsFirst heap from kind first ⊎ (IsTrue late × IsFalse (contains s.late from) × IsStepJudged place value objects s (has fs) (HoldsJudged place value objects s (has fs) set) from first)
      counted from kind first true early lead = let of = of_early from early in inr (of.0, of.1, inl lead)
      counted from kind first false none lead = inl lead

      -- a path that begins with an object itself
      from_itself : (from : ℕ) (by : Registration) → IsUnfound place value objects s (has fs) from by → from ≢ object → IsTrue (late && not (contains s.late from)) → (path rest : List ℕ) → path ≡ from ∷ rest → IsPath (IsNext es) from rest object → Back from path
      from_itself from by un_from ne early path [] is leads = absurd (ne leads)
      from_itself from by un_from ne early path (x ∷ xs) is leads =
          let of = of_early from early in
          record {
            by = by;
            unfound = un_from;
            first = x;
            rest = xs;
            is = is;
            step = inr (of.0, of.1, next from x leads.0);
            leads = path_as (IsNext es) (IsStepJudged place value objects s (has fs) (HoldsJudged place value objects s (has fs) set)) next x xs object leads.1;
          }

      pub others_told : (start : Origin) (path : List ℕ) → IsTrailPath es object start path → (from : ℕ) × (from ≢ object) × Back from path
      others_told start path p =
          let st = start_of heap (IsRow place value heap Keys) (either (Some fs) (Some own)) (IsByWait place value objects s (has fs) late object) es u (wait_begins place value objects s (has fs) late object) p.place p.first start p.starts p.begins in (
            st.0,
            st.3,
            ⊎_elim
                (λ q.
                record {
                  by = st.1;
                  unfound = st.2;
                  first = p.first;
                  rest = p.rest;
                  is = p.is ∙ ap (λ (x : Origin). from_start x (p.first ∷ p.rest)) q.0;
                  step = counted st.0 st.1.kind p.first (late && not (contains s.late st.0)) refl q.1;
                  leads = path_as (IsNext es) (IsStepJudged place value objects s (has fs) (HoldsJudged place value objects s (has fs) set)) next p.first p.rest object p.leads;
                })
                (λ q.
                from_itself st.0 st.1 st.2 st.3 q.1 path p.rest (p.is ∙ ap (λ (x : Origin). from_start x (p.first ∷ p.rest)) q.0 ∙ ap (λ x. x ∷ p.rest) q.2)
                (subst (λ x. IsPath (IsNext es) x p.rest object) q.2 p.leads))
                st.4,
          )

    pub wait_told : (late : Bool) (es : Trail) → IsOthersTrail place value objects s fs own late object es → (start : Origin) (path : List ℕ) → IsTrailPath es object start path
        → (from : ℕ) × (from ≢ object) × IsBackPath place value objects s (has fs) (IsHeldToward place value objects s (has fs) late) late from path object
    wait_told false es u =
        others_told false es u _ (λ o b by un lead. Member (inr (o, by, un, lead))) (λ o by un early. absurd (both_ways false refl early)) (others_back false)
    wait_told true es u =
        others_told true es u _ (λ o b by un lead. Member (inr (inl (o, by, un, lead)))) (λ o by un early. Member (inr (inr ((by, un), not-true (contains s.late o) early)))) (others_back true)
