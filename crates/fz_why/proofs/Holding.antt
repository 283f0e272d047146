-- The heap by which a pass judges, and the words and ephemerons by which a search goes in it.
use Rattle.std.proofs.Common.{◌≡◌, ℕ, ◌↔◌, ◌&&◌, ◌||◌, Bool, true, false, cond, if◌then◌else◌, not, List, Option, Some, None, option_map, refl, sym, ap, ◌∙◌, subst, inl, inr, ⊎_elim, IsTrue}
use Rattle.std.proofs.lemmas.Bool.{and_from, true≢false}
use Rattle.std.proofs.lemmas.Option.{none-some, same_Some}
use Rattle.std.specs.FinMap.{get, contains_key}
use Rattle.std.specs.Option.{option_map_or}
use Rattle.fz_model.specs.declared.kinds.RegKind.{RegKind}
use Rattle.fz_model.specs.declared.kinds.RegKind.TheVariants.{Normal, IgnoreSelf, NoOrder}
use Rattle.fz_model.specs.declared.answers.Registration.{Registration}
use Rattle.fz_model.specs.State.{Map, Object}
use Rattle.fz_model.specs.Memory.{points, filled}
use Rattle.fz_model.specs.Reachability.{Child}
use Rattle.fz_model.specs.Pass.{is_dead, is_outside, LeadsFirst}
use Rattle.fz_model.proofs.Maps.{get-retain}
use Rattle.fz_model.proofs.SeenKept.{points-filled}
use Rattle.fz_pass.specs.Holds.{ByHolder, ByKey, IsHolder, IsOfKey, Member}
use Rattle.fz_pass.specs.Marks.{with_targets}
use Rattle.fz_pass.specs.Places.{placed, StandApart}
use Rattle.fz_pass.proofs.Children.{child_before}
use Rattle.fz_pass.proofs.Filling.{filled_same, filled_twice, has_filled}
use Rattle.fz_pass.proofs.Holding.{whole_closed}
use Rattle.fz_pass.proofs.Placing.{placed_back}
use Rattle.fz_finalizers.specs.States.{State}
use Rattle.fz_why.specs.declared.paths.Pointer.{Pointer}
use Rattle.fz_why.specs.Paths.{AreLinks, ArePointers, AreValues}
use Rattle.fz_why.specs.Why.{heap_judged, IsKeyJudged, IsUnfound}
use Rattle.fz_why.specs.Trail.{Trail, has, is_cut, is_dead_in, is_lost, row_holder, AreBoth, HolderIs, IsFirstBy, IsFoundOf, IsRow, IsRowBy, IsSound, IsStepBy}
use Rattle.fz_why.proofs.Stepping.{links_apart, lost_is, step_as, step_filled}

-- ---- an ephemeron by the words that count

module _ (place : ℕ → Option ℕ) (value : Map Object → ℕ → Option ℕ) (objects heap : Map Object) (cut : ℕ → Bool) (same : (w : ℕ) → points heap w ≡ points objects w)
    (is : (number : ℕ) → value heap number ≡ (if option_map_or cut (place number) false then None else value objects number)) where
  -- the value, if the word counts or lies nowhere
  uncut : (number b : ℕ) → option_map_or cut (place number) false ≡ false → value objects number ≡ Some b → value heap number ≡ Some b
  uncut number b off there = is number ∙ ap (λ x. if x then None else value objects number) off ∙ there

  pub row_to : (number : ℕ) (holder : Option ℕ) (b : ℕ) → row_holder place objects cut number ≡ Some holder → value objects number ≡ Some b → HolderIs place heap number holder × (value heap number ≡ Some b)
  row_to number holder b held there = one (place number) refl
    where
      Claim : Type 0
      Claim = HolderIs place heap number holder × (value heap number ≡ Some b)

      three : (w : ℕ) → place number ≡ Some w → cut w ≡ false → (p : Option ℕ) → points objects w ≡ p → option_map Some p ≡ Some holder → Claim
      three w at off None none e = absurd (none-some holder e)
      three w at off (Some h) points_to e = (
        subst (HolderIs place heap number) (same_Some (Some h) holder e) (w, at, same w ∙ points_to),
        uncut number b (ap (λ p. option_map_or cut p false) at ∙ off) there,
      )

      two : (w : ℕ) → place number ≡ Some w → (c : Bool) → cut w ≡ c → (if c then None else option_map Some (points objects w)) ≡ Some holder → Claim
      two w at true on e = absurd (none-some holder e)
      two w at false off e = three w at off (points objects w) refl e

      one : (p : Option ℕ) → place number ≡ p → Claim
      one None nowhere = (
        subst (HolderIs place heap number) (same_Some None holder (sym (ap (λ p. option_map_or (λ w. if cut w then None else option_map Some (points objects w)) p (Some None)) nowhere) ∙ held)) nowhere,
        uncut number b (ap (λ p. option_map_or cut p false) nowhere) there,
      )
      one (Some w) at = two w at (cut w) refl (sym (ap (λ p. option_map_or (λ v. if cut v then None else option_map Some (points objects v)) p (Some None)) at) ∙ held)

  pub row_from : (number : ℕ) (holder : Option ℕ) (b : ℕ) → HolderIs place heap number holder → value heap number ≡ Some b → (row_holder place objects cut number ≡ Some holder) × (value objects number ≡ Some b)
  row_from number None b nowhere there = (
    ap (λ p. option_map_or (λ w. if cut w then None else option_map Some (points objects w)) p (Some None)) nowhere,
    sym (is number ∙ ap (λ p. if option_map_or cut p false then None else value objects number) nowhere) ∙ there,
  )
  row_from number (Some h) b holder there = two (cut holder.0) refl
    where
      value_is : (c : Bool) → cut holder.0 ≡ c → value heap number ≡ (if c then None else value objects number)
      value_is c off = is number ∙ ap (λ p. if option_map_or cut p false then None else value objects number) holder.1 ∙ ap (λ x. if x then None else value objects number) off

      two : (c : Bool) → cut holder.0 ≡ c → (row_holder place objects cut number ≡ Some (Some h)) × (value objects number ≡ Some b)
      two true on = absurd (none-some b (sym (value_is true on) ∙ there))
      two false off = (
        ap (λ p. option_map_or (λ w. if cut w then None else option_map Some (points objects w)) p (Some None)) holder.1
            ∙ ap (λ c. if c then None else option_map Some (points objects holder.0)) off
            ∙ ap (option_map Some) (sym (same holder.0) ∙ holder.2),
        sym (value_is false off) ∙ there,
      )

-- ---- ephemerons that are left

module _ (m : Map ℕ) (set : ℕ → Bool) (number key : ℕ) where
  pub left_is : get m number ≡ Some key → set key ≡ true → get (with_targets m set) number ≡ Some key
  left_is at on =
      get-retain m (λ w. option_map_or set (get m w) false) number ∙ ap (λ o. cond (option_map_or set o false) o None) at ∙ ap (λ b. cond b (Some key) None) on

  pub left_was : get (with_targets m set) number ≡ Some key → (get m number ≡ Some key) × (set key ≡ true)
  left_was at = one (get m number) refl (sym (get-retain m (λ w. option_map_or set (get m w) false) number) ∙ at)
    where
      two : (k : ℕ) → get m number ≡ Some k → (b : Bool) → set k ≡ b → cond b (Some k) None ≡ Some key → (get m number ≡ Some key) × (set key ≡ true)
      two k there true on e = let same = same_Some k key e in (there ∙ e, ap set (sym same) ∙ on)
      two k there false off e = absurd (none-some key e)

      one : (o : Option ℕ) → get m number ≡ o → cond (option_map_or set (get m number) false) (get m number) None ≡ Some key → (get m number ≡ Some key) × (set key ≡ true)
      one None none e = absurd (none-some key (sym (ap (λ o. cond (option_map_or set o false) o None) none) ∙ e))
      one (Some k) there e = two k there (set k) refl (sym (ap (λ o. cond (option_map_or set o false) o None) there) ∙ e)

-- ---- the heap by which a pass judges

module _ (place : ℕ → Option ℕ) (value : Map Object → ℕ → Option ℕ) (objects : Map Object) (s : State) (found : ℕ → Bool) where
  -- the words that a pass clears before it judges
  abbrev pub dead : ℕ → Bool
  dead w = is_dead objects (placed place s.short) found w || is_dead objects (placed place s.ephemerons.short) found w

  pub judged_is : heap_judged place value objects s found ≡ filled dead 0 objects
  judged_is =
      filled_twice (is_dead (filled first 0 objects) (placed place s.ephemerons.short) found) first 0 objects
      ∙ filled_same (λ w. first w || is_dead (filled first 0 objects) (placed place s.ephemerons.short) found w) dead 0 objects (λ w. ap (λ b. first w || b) (second w))
    where
      first : ℕ → Bool
      first = is_dead objects (placed place s.short) found

      second : (w : ℕ) → is_dead (filled first 0 objects) (placed place s.ephemerons.short) found w ≡ is_dead objects (placed place s.ephemerons.short) found w
      second w = λ i. option_map_or (λ a. has_filled first 0 objects a i && not (found a)) (get (placed place s.ephemerons.short) w) false

  pub judged_points : (w : ℕ) → points (heap_judged place value objects s found) w ≡ points objects w
  judged_points w = ap (λ (m : Map Object). points m w) judged_is ∙ points-filled dead 0 objects w

  module _ (apart : StandApart place) (values : AreValues place value) (zero : points objects 0 ≡ None) where
    placed_dead : (m : Map ℕ) (w : ℕ) → is_dead objects (placed place m) found w ≡ true → (number : ℕ) × (place number ≡ Some w)
    placed_dead m w is = one (get (placed place m) w) refl is
      where
        one : (o : Option ℕ) → get (placed place m) w ≡ o → option_map_or (is_outside objects found) o false ≡ true → (number : ℕ) × (place number ≡ Some w)
        one None none e = absurd (true≢false (sym e))
        one (Some t) at e = let b = placed_back place apart m w t at in (b.0, b.1)

    dead_placed : (w : ℕ) → IsTrue (dead w) → (number : ℕ) × (place number ≡ Some w)
    dead_placed w is = one (is_dead objects (placed place s.short) found w) refl is
      where
        one : (b : Bool) → is_dead objects (placed place s.short) found w ≡ b → (b || is_dead objects (placed place s.ephemerons.short) found w) ≡ true → (number : ℕ) × (place number ≡ Some w)
        one true on e = placed_dead s.short w on
        one false off e = placed_dead s.ephemerons.short w e

    pub judged_value : (number : ℕ) → value (heap_judged place value objects s found) number ≡ (if option_map_or dead (place number) false then None else value objects number)
    judged_value number = ap (λ (m : Map Object). value m number) judged_is ∙ values objects dead number zero dead_placed

  -- ---- what is found is closed

  module _ (apart : StandApart place) (values : AreValues place value) (f : IsFoundOf place value objects s found) where
    pub found_child : (a b : ℕ) → IsTrue (found a) → Child (heap_judged place value objects s found) a b → IsTrue (found b)
    found_child a b on child =
        whole_closed place value objects (IsOfKey s.ephemerons) found f.whole a b on (child_before dead objects f.sound.zero a b (subst (λ (m : Map Object). Child m a b) judged_is child))

    of_key : (number key : ℕ) → IsKeyJudged place value objects s found number key → IsOfKey s.ephemerons number key
    of_key number key = ⊎_elim (λ short. inl (left_was s.ephemerons.short found number key short).0) inr

    pub found_row : (key : ℕ) (holder : Option ℕ) (b : ℕ) → IsRow place value (heap_judged place value objects s found) (IsKeyJudged place value objects s found) key holder b → AreBoth (λ a. IsTrue (found a)) key holder → IsTrue (found b)
    found_row key None b r both =
        let v = row_from place value objects (heap_judged place value objects s found) dead judged_points (judged_value apart values f.sound.zero) r.0 None b r.2 r.3 in
        f.whole b (ByKey (of_key r.0 key r.1) (Member both.0) r.2 v.1)
    found_row key (Some q) b r both =
        let v = row_from place value objects (heap_judged place value objects s found) dead judged_points (judged_value apart values f.sound.zero) r.0 (Some q) b r.2 r.3 in
        let holder : IsHolder place objects r.0 q = (r.2.0, r.2.1, sym (judged_points r.2.0) ∙ r.2.2) in
        f.whole b (ByHolder (of_key r.0 key r.1) (Member both.0) holder (Member (both.1 q refl)) v.1)

-- ---- the search

module _ (place link : ℕ → Option ℕ) (links : AreLinks place link) (value : Map Object → ℕ → Option ℕ) (objects : Map Object) (s : State) (fs : Trail) (sound : IsSound objects s) where
  pub cut_is : (w : ℕ) → is_cut link s (Some fs) w ≡ dead place value objects s (has fs) w
  cut_is w =
      split (link w) ∙ ap (λ b. b || option_map_or (λ n. is_lost fs (get s.ephemerons.short n)) (link w) false) (lost_is place link links objects fs s.short sound.short w)
      ∙ ap (λ b. is_dead objects (placed place s.short) (has fs) w || b) (lost_is place link links objects fs s.ephemerons.short sound.keys w)
    where
      split : (l : Option ℕ) → option_map_or (is_dead_in fs s) l false ≡ (option_map_or (λ n. is_lost fs (get s.short n)) l false || option_map_or (λ n. is_lost fs (get s.ephemerons.short n)) l false)
      split None = refl
      split (Some n) = refl

  pub cut_child : (a : ℕ) (pointers : List Pointer) → ArePointers objects a pointers → (b : ℕ) → IsStepBy objects (is_cut link s (Some fs)) pointers b ↔ Child (heap_judged place value objects s (has fs)) a b
  cut_child a pointers are b =
      let test = dead place value objects s (has fs) in
      let both = step_filled objects a pointers are test sound.zero b in
      let is = judged_is place value objects s (has fs) in (
        λ h. subst (λ (m : Map Object). Child m a b) (sym is) (both.0 (step_as objects (is_cut link s (Some fs)) test pointers b cut_is h)),
        λ c. step_as objects test (is_cut link s (Some fs)) pointers b (λ w. sym (cut_is w)) (both.1 (subst (λ (m : Map Object). Child m a b) is c)),
      )

  pub cut_first : (from : ℕ) (pointers : List Pointer) → ArePointers objects from pointers → (kind : RegKind) (b : ℕ) → IsFirstBy objects (is_cut link s (Some fs)) pointers from kind b ↔ LeadsFirst (heap_judged place value objects s (has fs)) from kind b
  cut_first from pointers are Normal b = cut_child from pointers are b
  cut_first from pointers are IgnoreSelf b = let both = cut_child from pointers are b in (λ h. (both.0 h.0, h.1), λ h. (both.1 h.0, h.1))
  cut_first from pointers are NoOrder b = (λ h. h, λ h. h)

  -- the ephemerons by which it goes are those by which a pass judges
  module _ (values : AreValues place value) where
    value_is : (number : ℕ) → value (heap_judged place value objects s (has fs)) number ≡ (if option_map_or (is_cut link s (Some fs)) (place number) false then None else value objects number)
    value_is number =
        judged_value place value objects s (has fs) (links_apart place link links objects fs s.short sound.short) values sound.zero number
        ∙ (λ i. if option_map_or (λ w. sym (cut_is w) i) (place number) false then None else value objects number)

    pub row_judged : (key : ℕ) (holder : Option ℕ) (b : ℕ) → IsRowBy place value link objects s (Some fs) key holder b ↔ IsRow place value (heap_judged place value objects s (has fs)) (IsKeyJudged place value objects s (has fs)) key holder b
    row_judged key holder b = (
      ⊎_elim
          (λ h.
          let one = h.3.1 in
          let r = to h.0 one.1 one.2 in
          (h.0, inl (left_is s.ephemerons.short (has fs) h.0 key (h.2 ∙ ap Some (sym one.0)) (ap (has fs) one.0 ∙ h.3.0)), r.0, r.1))
          (λ h. let one = h.3.1 in let r = to h.0 one.1 one.2 in (h.0, inr (h.2 ∙ ap Some (sym one.0)), r.0, r.1)),
      λ h.
          let r = row_from place value objects (heap_judged place value objects s (has fs)) (is_cut link s (Some fs)) (judged_points place value objects s (has fs)) value_is h.0 holder b h.2 h.3 in
          ⊎_elim (λ short. let was = left_was s.ephemerons.short (has fs) h.0 key short in inl (h.0, key, was.0, (was.1, (refl, r.0, r.1)))) (λ long. inr (h.0, key, long, (refl, (refl, r.0, r.1)))) h.1,
    )
      where
        to : (number : ℕ) → row_holder place objects (is_cut link s (Some fs)) number ≡ Some holder → value objects number ≡ Some b
            → HolderIs place (heap_judged place value objects s (has fs)) number holder × (value (heap_judged place value objects s (has fs)) number ≡ Some b)
        to number held there = row_to place value objects (heap_judged place value objects s (has fs)) (is_cut link s (Some fs)) (judged_points place value objects s (has fs)) value_is number holder b held there

-- before the search for what is found each word counts, and each ephemeron
pub row_found : (place link : ℕ → Option ℕ) (value : Map Object → ℕ → Option ℕ) (objects : Map Object) (s : State) (key : ℕ) (holder : Option ℕ) (b : ℕ) → IsRowBy place value link objects s None key holder b ↔ IsRow place value objects (IsOfKey s.ephemerons) key holder b
row_found place link value objects s key holder b = (
  ⊎_elim (λ h. let one = h.3.1 in let r = to h.0 one.1 one.2 in (h.0, inl (h.2 ∙ ap Some (sym one.0)), r.0, r.1))
      (λ h. let one = h.3.1 in let r = to h.0 one.1 one.2 in (h.0, inr (h.2 ∙ ap Some (sym one.0)), r.0, r.1)),
  λ h.
      let r = row_from place value objects objects (λ w. false) (λ w. refl) is h.0 holder b h.2 h.3 in
      ⊎_elim (λ short. inl (h.0, key, short, (refl, (refl, r.0, r.1)))) (λ long. inr (h.0, key, long, (refl, (refl, r.0, r.1)))) h.1,
)
  where
    is : (number : ℕ) → value objects number ≡ (if option_map_or (λ w. false) (place number) false then None else value objects number)
    is number = one (place number)
      where
        one : (p : Option ℕ) → value objects number ≡ (if option_map_or (λ w. false) p false then None else value objects number)
        one None = refl
        one (Some w) = refl

    to : (number : ℕ) → row_holder place objects (λ w. false) number ≡ Some holder → value objects number ≡ Some b → HolderIs place objects number holder × (value objects number ≡ Some b)
    to number held there = row_to place value objects objects (λ w. false) (λ w. refl) is number holder b held there

module _ (place : ℕ → Option ℕ) (value : Map Object → ℕ → Option ℕ) (objects : Map Object) (s : State) (fs : Trail) (sound : IsSound objects s) where
  pub unfound : (o : ℕ) (r : Registration) → get s.registrations o ≡ Some r → has fs o ≡ false → IsUnfound place value objects s (has fs) o r
  unfound o r registered out = record { registered = registered; outside = and_from (contains_key objects o) (not (has fs o)) (sound.registered o r registered) (ap not out) }
