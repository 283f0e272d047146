-- Which objects wait for a ring: those that the first steps of objects on rings reach.
use Rattle.std.proofs.Common.{◌≡◌, ℕ, ◌↔◌, ◌⊎◌, ◌++◌, ◌&&◌, Bool, true, false, true≢false, cond, not, is_some, List, [], ◌∷◌, Option, Some, None, filter, refl, sym, ap, ◌∙◌, subst, inl, inr, ⊎_elim, Contains, IsTrue, append-nil}
use Rattle.std.proofs.lemmas.Bool.{and_from, and_parts, both_ways, not-true}
use Rattle.std.proofs.lemmas.List.{map-append}
use Rattle.std.proofs.lemmas.List.Elements.{filter-append}
use Rattle.std.proofs.lemmas.Option.{same_Some}
use Rattle.std.specs.FinMap.{get, contains_key}
use Rattle.std.specs.Map.{keys_of}
use Rattle.fz_model.specs.declared.answers.Registration.{Registration}
use Rattle.fz_model.specs.State.{Map, Object}
use Rattle.fz_model.specs.Pass.{LeadsFirst}
use Rattle.fz_model.specs.Reachability.{Child, Computes}
use Rattle.fz_model.proofs.KeyedEntries.{got, listed}
use Rattle.fz_pass.specs.Holds.{Member}
use Rattle.fz_pass.specs.Places.{StandApart}
use Rattle.fz_finalizers.specs.States.{State}
use Rattle.fz_finalizers.specs.Walks.{AreRegistrations}
use Rattle.fz_why.specs.declared.paths.Pointer.{Pointer}
use Rattle.fz_why.specs.declared.origin.Origin.{Origin}
use Rattle.fz_why.specs.declared.origin.Origin.TheVariants.{First}
use Rattle.fz_why.specs.Paths.{AreLinks, ArePointers, AreValues}
use Rattle.fz_why.specs.Why.{heap_judged, IsFirstOf, IsHeldBy, IsKeyJudged, IsStuck}
use Rattle.fz_why.specs.Trail.{Trail, either, has, is_behind, is_cut, is_stuck_by, Adds, AreBoth, SpreadsAll, IsByCircle, IsByCircles, IsByFirst, IsFoundOf, IsRingsTrail, IsRow, IsRowBy, IsStart, IsStepBy}
use Rattle.fz_why.proofs.Held.{behind_found, not_found, only_found}
use Rattle.fz_why.proofs.Holding.{cut_child, cut_first, found_child, found_row, row_judged, unfound}
use Rattle.fz_why.proofs.Looping.{ByAny}
use Rattle.fz_why.proofs.Reached.{has_held, held_in, reached_trail}

module _ (place link : ℕ → Option ℕ) (links : AreLinks place link) (value : Map Object → ℕ → Option ℕ) (values : AreValues place value) (objects : Map Object) (s : State) (fs : Trail) (f : IsFoundOf place value objects s (has fs)) (pointers : ℕ → List Pointer) (are : (a : ℕ) → ArePointers objects a (pointers a)) where
  pub circle_added : (object : ℕ) (r : Registration) → get s.registrations object ≡ Some r → has fs object ≡ false → IsHeldBy place value objects s (has fs) object object → (o : Origin) (b : ℕ) → IsByCircle place value objects s (has fs) object o b ↔ IsByFirst objects (is_cut link s (Some fs)) (pointers object) object r.kind o b
  circle_added object r registered out back o b =
      let both = cut_first place link links value objects s fs f.sound object (pointers object) (are object) r.kind b in (
        λ h. (h.0, both.1 (subst (λ (x : Registration). LeadsFirst (heap_judged place value objects s (has fs)) object x.kind b) (same_Some h.2.0 r (sym h.2.1.registered ∙ registered)) h.2.2)),
        λ h. (h.0, back, (r, unfound place value objects s fs f.sound object r registered out, both.0 h.1)),
      )

  pub circles_trail : (mid new : Trail) → Adds (IsByCircles place value objects s (has fs)) [] mid
      → SpreadsAll (λ a b. IsStepBy objects (is_cut link s (Some fs)) (pointers a) b) (IsRowBy place value link objects s (Some fs)) (either (Some fs) None) mid new → IsRingsTrail place value objects s fs new
  circles_trail mid new g spread =
      let heap = heap_judged place value objects s (has fs) in
      reached_trail heap (λ a b. IsStepBy objects (is_cut link s (Some fs)) (pointers a) b) (IsRowBy place value link objects s (Some fs)) (IsRow place value heap (IsKeyJudged place value objects s (has fs))) (either (Some fs) None)
      (IsByCircles place value objects s (has fs)) (IsByCircles place value objects s (has fs)) mid new g spread
      (λ a b. cut_child place link links value objects s fs f.sound a (pointers a) (are a) b) (row_judged place link links value objects s fs f.sound values) (λ o b. (λ h. h, λ h. h))

module _ (place : ℕ → Option ℕ) (value : Map Object → ℕ → Option ℕ) (objects : Map Object) (s : State) (found : ℕ → Bool) where
  abbrev pub ByCircle : ℕ × Registration → Origin → ℕ → Type 0
  ByCircle e = IsByCircle place value objects s found e.0

  pub circles_all : (es : List (ℕ × Registration)) → AreRegistrations s es → (o : Origin) (b : ℕ) → IsByCircles place value objects s found o b ↔ ByAny es ByCircle o b
  circles_all es are o b = (
    λ h. let e : ℕ × Registration = (h.0, h.1.2.0) in (e, listed es h.0 h.1.2.0 (ap (λ (m : Map Registration). get m h.0) are.0 ∙ h.1.2.1.registered), h.1),
    λ h. (h.0.0, h.2),
  )

  pub circles_begin : (o : Origin) (b : ℕ) → IsByCircles place value objects s found o b → IsStart o
  circles_begin o b h = subst IsStart (sym h.1.0) tt

some_of : {X : Type 0} (o : Option X) → IsTrue (is_some o) → (x : X) × (o ≡ Some x)
some_of None h = absurd (true≢false (sym h))
some_of (Some x) h = (x, refl)

module _ (place : ℕ → Option ℕ) (apart : StandApart place) (value : Map Object → ℕ → Option ℕ) (values : AreValues place value) (objects : Map Object) (s : State) (fs es : Trail) (f : IsFoundOf place value objects s (has fs)) (t : IsRingsTrail place value objects s fs es) where
  abbrev heap : Map Object
  heap = heap_judged place value objects s (has fs)

  abbrev Keys : ℕ → ℕ → Type 0
  Keys = IsKeyJudged place value objects s (has fs)

  abbrev Rings : ℕ → Type 0
  Rings a = IsTrue (has fs a) ⊎ ((from : ℕ) × IsHeldBy place value objects s (has fs) from from × IsFirstOf place value objects s (has fs) from a)

  closed : (a b : ℕ) → IsTrue (either (Some fs) None a) → Child heap a b → IsTrue (either (Some fs) None b)
  closed a b on child = behind_found fs None b (found_child place value objects s (has fs) apart values f a b (only_found fs a on) child)

  rows : (key : ℕ) (holder : Option ℕ) (b : ℕ) → IsRow place value heap Keys key holder b → AreBoth (λ a. IsTrue (either (Some fs) None a)) key holder → IsTrue (either (Some fs) None b)
  rows key holder b row both =
      behind_found fs None b (found_row place value objects s (has fs) apart values f key holder b row (only_found fs key both.0, λ q is. only_found fs q (both.1 q is)))

  pub stuck_computes : Computes (is_stuck_by s fs es) (IsStuck place value objects s (has fs))
  stuck_computes a = (
    λ on.
        let parts = and_parts (contains_key s.registrations a) (is_behind fs es a) on in
        let behind = and_parts (not (has fs a)) (has es a) parts.1 in
        let r = some_of (get s.registrations a) parts.0 in (
          (r.0, unfound place value objects s fs f.sound a r.0 r.1 (not-true (has fs a) behind.0)),
          has_held place value heap Keys (either (Some fs) None) (IsByCircles place value objects s (has fs)) es t (circles_begin place value objects s (has fs)) Rings
              (λ o b h. Member (inr (h.0, h.1.1, h.1.2))) (λ b held. Member (inl (only_found fs b held))) a behind.1,
        ),
    λ h.
        let out = not_found place value objects s (has fs) a h.0.0 h.0.1 in
        let reached =
        ⊎_elim (λ held. absurd (both_ways (has fs a) out (only_found fs a held))) (λ held. held)
        (held_in place value heap Keys (either (Some fs) None) (IsByCircles place value objects s (has fs)) es t closed rows Rings
        (λ b. ⊎_elim (λ held. inl (behind_found fs None b held)) (λ c. inr (t.starts (First c.0) b (c.0, (refl, c.1, c.2))))) a h.1) in
        and_from (contains_key s.registrations a) (is_behind fs es a) (ap is_some h.0.1.registered) (and_from (not (has fs a)) (has es a) (ap not out) reached),
  )

-- ---- the list

module _ (s : State) (fs es : Trail) where
  -- of one registered object
  listed_one : (a : ℕ) → contains_key s.registrations a ≡ true → filter (is_stuck_by s fs es) (a ∷ []) ≡ filter (is_behind fs es) (a ∷ [])
  listed_one a here = ap (λ b. cond (b && is_behind fs es a) (a ∷ []) []) here

  pub listed_more : (all yielded : List (ℕ × Registration)) (e : ℕ × Registration) (old new : List ℕ) → AreRegistrations s all → Contains all e → old ≡ filter (is_stuck_by s fs es) (keys_of yielded) → new ≡ old ++ filter (is_behind fs es) (e.0 ∷ []) → new ≡ filter (is_stuck_by s fs es) (keys_of (yielded ++ e ∷ []))
  listed_more all yielded e old new are within was is =
      let here : get s.registrations e.0 ≡ Some e.1 = ap (λ (m : Map Registration). get m e.0) (sym are.0) ∙ got all e.0 e.1 are.1 within in
      is ∙ ap (λ l. l ++ filter (is_behind fs es) (e.0 ∷ [])) was ∙ ap (λ l. filter (is_stuck_by s fs es) (keys_of yielded) ++ l) (sym (listed_one e.0 (ap is_some here)))
      ∙ sym (ap (filter (is_stuck_by s fs es)) (map-append (λ (x : ℕ × Registration). x.0) yielded (e ∷ [])) ∙ filter-append (is_stuck_by s fs es) (keys_of yielded) (e.0 ∷ []))

-- one that is on the first trail, or not on the other, isn't listed; another one is
module _ (fs es : Trail) where
  pub found_not : (a : ℕ) → has fs a ≡ true → filter (is_behind fs es) (a ∷ []) ≡ []
  found_not a on = ap (λ b. cond (not b && has es a) (a ∷ []) []) on

  pub missed_not : (a : ℕ) → has es a ≡ false → filter (is_behind fs es) (a ∷ []) ≡ []
  missed_not a off = by (has fs a) refl
    where
      by : (b : Bool) → has fs a ≡ b → filter (is_behind fs es) (a ∷ []) ≡ []
      by true on = found_not a on
      by false out = ap (λ b. cond (not b && has es a) (a ∷ []) []) out ∙ ap (λ b. cond b (a ∷ []) []) off

  pub listed_is : (a : ℕ) → has fs a ≡ false → has es a ≡ true → filter (is_behind fs es) (a ∷ []) ≡ a ∷ []
  listed_is a out on = ap (λ b. cond (not b && has es a) (a ∷ []) []) out ∙ ap (λ b. cond b (a ∷ []) []) on

pub nothing_more : (old more : List ℕ) → more ≡ [] → old ≡ old ++ more
nothing_more old more none = sym (append-nil old) ∙ ap (λ l. old ++ l) (sym none)
