-- What answers say of passes.
use Rattle.std.proofs.Common.{◌≡◌, ℕ, ◌⊎◌, Bool, true, false, List, [], ◌∷◌, map, option_map, slice_get, Option, Some, None, refl, sym, ap, ◌∙◌, subst, inl, inr, ⊎_elim, arith, IsTrue, Contains, All}
use Rattle.std.proofs.lemmas.Bool.{both_ways}
use Rattle.std.proofs.lemmas.Option.{none-some, same_Some, slice_get-map}
use Rattle.std.proofs.lemmas.List.Elements.{All-contains, Contains-append_right}
use Rattle.std.specs.FinSet.{contains}
use Rattle.fz_model.specs.declared.kinds.RegKind.{RegKind}
use Rattle.fz_model.specs.declared.kinds.RegKind.TheVariants.{Normal, IgnoreSelf, NoOrder}
use Rattle.fz_model.specs.declared.answers.Pick.{Pick}
use Rattle.fz_model.specs.declared.answers.Registration.{Registration}
use Rattle.fz_model.specs.State.{Map, Object}
use Rattle.fz_model.specs.Reachability.{Child, Itself, Computes}
use Rattle.fz_model.specs.Pass.{LeadsFirst}
use Rattle.fz_model.proofs.Lists.{place_of, contains_at}
use Rattle.fz_pass.specs.Holds.{IsOfKey, Member}
use Rattle.fz_pass.specs.Whole.{IsPickedThen}
use Rattle.fz_pass.proofs.Holding.{holds_all, holds_leads}
use Rattle.fz_finalizers.specs.States.{State}
use Rattle.fz_finalizers.specs.Passed.{DecidesWholeFor, parts_in}
use Rattle.fz_why.specs.declared.reason.Reason.{Reason}
use Rattle.fz_why.specs.declared.reason.Reason.TheVariants.{Unregistered, Queued, Found, Ring, Waits, Ready}
use Rattle.fz_why.specs.Paths.{IsPath}
use Rattle.fz_why.specs.Why.{heap_judged, IsAtRoot, IsBackPath, IsFirstOf, IsHeldBy, IsHeldToward, IsKeyJudged, IsReached, IsReady, IsStepJudged, IsToldOf, IsUnfound}
use Rattle.fz_why.specs.Laws.{IsApart, IsJudgedByPasses, KeepsRings, PassesFindReached, StandsBy}
use Rattle.fz_why.proofs.Held.{by_toward, first_toward, not_found}
use Rattle.fz_why.proofs.Reached.{holds_path}

-- two tests of one set are the same
same_test : (p q : Bool) → (IsTrue p → IsTrue q) → (IsTrue q → IsTrue p) → p ≡ q
same_test true q to from = sym (to refl)
same_test false true to from = from refl
same_test false false to from = refl

pub same_found : (P : ℕ → Type 0) (f g : ℕ → Bool) → Computes f P → Computes g P → f ≡ g
same_found P f g p q = λ i a. same_test (f a) (g a) (λ h. (q a).1 ((p a).0 h)) (λ h. (p a).1 ((q a).0 h)) i

-- a pick of the object
pub pick_of_object : (P : Pick → Type 0) (picks : List Pick) (o : ℕ) → All P picks → Contains (map (λ (p : Pick). p.obj) picks) o → (p : Pick) × P p × (p.obj ≡ o)
pick_of_object P picks o all h = let at = place_of (map (λ (p : Pick). p.obj) picks) o h in one at.0 at.1 (slice_get picks at.0) refl
  where
    one : (k : ℕ) → slice_get (map (λ (p : Pick). p.obj) picks) k ≡ Some o → (q : Option Pick) → slice_get picks k ≡ q → (p : Pick) × P p × (p.obj ≡ o)
    one k is None none = absurd (none-some o (ap (option_map (λ (p : Pick). p.obj)) (sym none) ∙ sym (slice_get-map (λ (p : Pick). p.obj) picks k) ∙ is))
    one k is (Some p) at = (p, All-contains P picks p all (contains_at picks k p at), same_Some p.obj o (ap (option_map (λ (p : Pick). p.obj)) (sym at) ∙ sym (slice_get-map (λ (p : Pick). p.obj) picks k) ∙ is))

-- a path by one relation is a path by another that has its steps
pub path_stays : (R S : ℕ → ℕ → Type 0) (a : ℕ) (xs : List ℕ) (b : ℕ) → ((x y : ℕ) → Contains (a ∷ xs) x → R x y → S x y) → IsPath R a xs b → IsPath S a xs b
path_stays R S a [] b stays h = h
path_stays R S a (x ∷ xs) b stays h = (stays a x (0, omega arith, refl) h.0, path_stays R S x xs b (λ y z within. stays y z (Contains-append_right (a ∷ []) (x ∷ xs) y within)) h.1)

first_stays : (objects later : Map Object) (kind : RegKind) (from first : ℕ) → (Child objects from first → Child later from first) → LeadsFirst objects from kind first → LeadsFirst later from kind first
first_stays objects later Normal from first stays h = stays h
first_stays objects later IgnoreSelf from first stays h = (stays h.0, h.1)
first_stays objects later NoOrder from first stays h = h

module _ (place : ℕ → Option ℕ) (value : Map Object → ℕ → Option ℕ) (objects : Map Object) (s : State) (found : ℕ → Bool) where
  abbrev heap : Map Object
  heap = heap_judged place value objects s found

  abbrev Keys : ℕ → ℕ → Type 0
  Keys = IsKeyJudged place value objects s found

  abbrev Picks : Pick → Type 0
  Picks = IsPickedThen place value (parts_in objects s) s.ephemerons found (contains s.late)

  -- the object at the end of a path is held
  ring_held : (path : List ℕ) (o : ℕ) → IsBackPath place value objects s found (IsHeldBy place value objects s found o) false o path o → IsHeldBy place value objects s found o o
  ring_held path o b =
      ⊎_elim
      (λ lead. holds_path place value heap Keys (λ a. IsTrue (found a) ⊎ IsFirstOf place value objects s found o a) b.first b.rest o (Member (inr (b.by, b.unfound, lead))) b.leads)
      (λ early. absurd (both_ways false refl early.0)) b.step

  wait_held : (late : Bool) (from : ℕ) (path : List ℕ) (o : ℕ) → IsBackPath place value objects s found (IsHeldToward place value objects s found late) late from path o → IsHeldToward place value objects s found late o
  wait_held false from path o b =
      ⊎_elim (λ lead. holds_path place value heap Keys _ b.first b.rest o (Member (inr (from, b.by, b.unfound, lead))) b.leads) (λ early. absurd (both_ways false refl early.0)) b.step
  wait_held true from path o b =
      ⊎_elim (λ lead. holds_path place value heap Keys _ b.first b.rest o (Member (inr (inl (from, b.by, b.unfound, lead)))) b.leads)
      (λ early.
      holds_path place value heap Keys _ from (b.first ∷ b.rest) o (Member (inr (inr ((b.by, b.unfound), early.1)))) (early.2, b.leads)) b.step

  -- a pass doesn't pick what is held back
  not_picked : (new : State) (left : Map Object) (marked : ℕ → Bool) (pass : ℕ) (d : DecidesWholeFor ⊥ place value pass s objects found new left marked) (o : ℕ) → IsHeldToward place value objects s found (contains s.late o) o → Contains (map (λ (p : Pick). p.obj) d.picks) o → ⊥
  not_picked new left marked pass d o held within =
      let pick = pick_of_object Picks d.picks o d.picked.each within in
      let free = subst (λ x. IsHeldToward place value objects s found false x → ⊥) pick.2 pick.1.free in
      let last = subst (λ x. IsTrue (contains s.late x) → IsHeldToward place value objects s found true x → ⊥) pick.2 pick.1.last in
      one (contains s.late o) refl held free last
    where
      one : (b : Bool) → contains s.late o ≡ b → IsHeldToward place value objects s found (contains s.late o) o → (IsHeldToward place value objects s found false o → ⊥) → (IsTrue (contains s.late o) → IsHeldToward place value objects s found true o → ⊥) → ⊥
      one true late held free last = last late (subst (λ b. IsHeldToward place value objects s found b o) late held)
      one false late held free last = free (subst (λ b. IsHeldToward place value objects s found b o) late held)

  -- a pass picks what is ready
  picked : (new : State) (left : Map Object) (marked : ℕ → Bool) (pass : ℕ) (d : DecidesWholeFor (Unit {0}) place value pass s objects found new left marked) (o : ℕ) → IsReady place value objects s found o → Contains (map (λ (p : Pick). p.obj) d.picks) o
  picked new left marked pass d o ready =
      d.picked.whole tt o ready.0.0 ready.0.1 (λ held. ready.1 (first_toward place value objects s found (contains s.late o) o held))
      (λ late held. ready.1 (subst (λ b. IsHeldToward place value objects s found b o) (sym late) held))

module _ (place : ℕ → Option ℕ) (value : Map Object → ℕ → Option ℕ) (objects : Map Object) (roots : List ℕ) (s : State) (o : ℕ) where
  told : (reason : Reason) → IsToldOf place value objects roots s reason o → StandsBy place value objects roots s reason o
  told Unregistered h = λ r is. none-some r (sym h.0.0 ∙ is)
  told (Queued entry) h = λ r is. none-some r (sym h.0 ∙ is)
  told (Found root path) h =
      holds_path place value objects (IsOfKey s.ephemerons) (IsAtRoot objects roots s) h.1.first h.1.rest o (Member (root, h.1.rooted)) h.1.leads
  told (Ring path) h = (h.0, h.1, (h.2.0, by_toward place value objects s h.0 (contains s.late o) o o (ring_held place value objects s h.0 path.items o h.2.1)))
  told (Waits path) h = (h.0, h.1, (h.2.0, wait_held place value objects s h.0 (contains s.late o) h.2.2.0 path.items o h.2.2.2))
  told Ready h = h

  clash : (found : ℕ → Bool) → Computes found (IsReached place value objects roots s) → (r : Registration) → IsUnfound place value objects s found o r → IsReached place value objects roots s o → ⊥
  clash found comp r un reached = both_ways (found o) (not_found place value objects s found o r un) ((comp o).1 reached)

  pub is_apart : IsApart place value objects roots s o
  is_apart = record {
    told = told;
    held = λ reached h. clash h.0 h.1 h.2.0.0 h.2.0.1 reached;
    ready = λ reached h. clash h.0 h.1 h.2.0.0 h.2.0.1 reached;
    held_ready = λ h g.
        let same = same_found (IsReached place value objects roots s) h.0 g.0 h.1 g.1 in
        g.2.1 (subst (λ f. IsHeldToward place value objects s f (contains s.late o) o) same h.2.1);
  }

  pub is_judged : (found : ℕ → Bool) → Computes found (IsReached place value objects roots s) → IsJudgedByPasses place value objects roots s found o
  is_judged found comp = record {
    ready = λ g new left marked pass d. picked place value objects s found new left marked pass d o (subst (λ f. IsReady place value objects s f o) (same_found (IsReached place value objects roots s) g.0 found g.1 comp) g.2);
    reached = λ reached new left marked pass d within.
        let pick = pick_of_object (IsPickedThen place value (parts_in objects s) s.ephemerons found (contains s.late)) d.picks o d.picked.each within in
        let out : found o ≡ false = ap found (sym pick.2) ∙ not_found place value objects s found pick.0.obj pick.1.registration pick.1.unreachable in
        both_ways (found o) out ((comp o).1 reached);
    held = λ h new left marked pass d.
        not_picked place value objects s found new left marked pass d o
        (subst (λ f. IsHeldToward place value objects s f (contains s.late o) o) (same_found (IsReached place value objects roots s) h.0 found h.1 comp) h.2.1);
  }

-- what a pass finds is what the roots reach
module _ (place : ℕ → Option ℕ) (value : Map Object → ℕ → Option ℕ) (objects : Map Object) (roots : List ℕ) (s : State) where
  pub finds_reached : (marked found : ℕ → Bool) → PassesFindReached place value objects roots s marked found
  finds_reached marked found comp settles a = (
    λ on. holds_all place value objects (IsOfKey s.ephemerons) (IsOfKey s.ephemerons) (λ b. IsTrue (marked b)) (IsAtRoot objects roots s) (λ w k is. is) of_marked a (settles.most tt a on),
    λ h. settles.whole a (holds_all place value objects (IsOfKey s.ephemerons) (IsOfKey s.ephemerons) (IsAtRoot objects roots s) (λ b. IsTrue (found b)) (λ w k is. is)
        (λ b at. Member (settles.more b ((comp b).1 (b, at, Itself)))) a h),
  )
    where
      of_marked : (b : ℕ) → IsTrue (marked b) → IsReached place value objects roots s b
      of_marked b on = let h = (comp b).0 on in holds_leads place value objects (IsOfKey s.ephemerons) (IsAtRoot objects roots s) h.0 b (Member h.1) h.2

pub ring_stays : (place : ℕ → Option ℕ) (value : Map Object → ℕ → Option ℕ) (objects later : Map Object) (s t : State) → KeepsRings place value objects later s t
ring_stays place value objects later s t found later_found path o h new left marked pass d within =
    let pick = pick_of_object (IsPickedThen place value (parts_in later t) t.ephemerons later_found (contains t.late)) d.picks o d.picked.each within in
    let un = subst (λ x. IsUnfound place value later t later_found x pick.1.registration) pick.2 pick.1.unreachable in
    let free = subst (λ x. IsHeldToward place value later t later_found false x → ⊥) pick.2 pick.1.free in
    let back = h.ring.1 in
    let same : pick.1.registration ≡ back.by = same_Some pick.1.registration back.by (sym un.registered ∙ h.registered ∙ back.unfound.registered) in
    let now = heap_judged place value objects s found in
    let after = heap_judged place value later t later_found in
    let on : (x : ℕ) → Contains (o ∷ back.first ∷ back.rest) x → Contains path x = λ x. subst (λ xs. Contains xs x) (sym back.is) in
    let Held = IsHeldBy place value later t later_found o in
    let leads = path_stays (IsStepJudged place value objects s found (IsHeldBy place value objects s found o)) (IsStepJudged place value later t later_found Held) back.first back.rest o
    (λ x y in_rest. let on_path = on x (Contains-append_right (o ∷ []) (back.first ∷ back.rest) x in_rest) in ⊎_elim (λ child. inl (h.words x y on_path child)) (λ v. inr (h.values x y on_path v))) back.leads in
    free (by_toward place value later t later_found false o o
    (⊎_elim
    (λ lead.
    let first = subst (λ (r : Registration). LeadsFirst after o r.kind back.first) (sym same) (first_stays now after back.by.kind o back.first (h.words o back.first (on o (0, omega arith, refl))) lead) in
    holds_path place value after (IsKeyJudged place value later t later_found) (λ a. IsTrue (later_found a) ⊎ IsFirstOf place value later t later_found o a) back.first back.rest o
    (Member (inr (pick.1.registration, un, first))) leads)
    (λ early. absurd (both_ways false refl early.0)) back.step))
