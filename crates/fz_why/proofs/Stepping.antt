-- Children, and the words by which an object has them.
use Rattle.std.proofs.Common.{◌≡◌, ℕ, ◌+◌, ◌<◌, ◌↔◌, Bool, true, false, not, List, length, Option, Some, None, slice_get, refl, sym, ap, ◌∙◌, subst, ◌&&◌}
use Rattle.std.proofs.lemmas.Option.{none-some, same_Some, slice_get_within}
use Rattle.std.specs.FinMap.{get}
use Rattle.std.specs.Option.{option_map_or}
use Rattle.fz_model.specs.State.{Map, Object}
use Rattle.fz_model.specs.Memory.{points, fill, filled}
use Rattle.fz_model.specs.Reachability.{Child}
use Rattle.fz_model.specs.Pass.{is_dead, is_outside}
use Rattle.fz_model.proofs.Lists.{place_of, contains_at}
use Rattle.fz_model.proofs.Maps.{fill_on, fill_off, filled_here, filled_back, length-fill}
use Rattle.fz_model.proofs.SeenKept.{points-filled}
use Rattle.fz_pass.specs.Marks.{AreTargets}
use Rattle.fz_pass.specs.Places.{StandApart, placed}
use Rattle.fz_pass.proofs.Placing.{placed_back, get_placed}
use Rattle.fz_why.specs.declared.paths.Pointer.{Pointer}
use Rattle.fz_why.specs.Paths.{AreLinks, ArePointers, IsPointer}
use Rattle.fz_why.specs.Trail.{Trail, has, is_lost, IsStepBy}

-- tests that agree count the same words
pub step_as : (objects : Map Object) (p q : ℕ → Bool) (pointers : List Pointer) (b : ℕ) → ((w : ℕ) → p w ≡ q w) → IsStepBy objects p pointers b → IsStepBy objects q pointers b
step_as objects p q pointers b same h = (h.0, h.1, sym (same h.0.word) ∙ h.2, h.3)

-- the words of links that are lost are those of dead links
module _ (place link : ℕ → Option ℕ) (links : AreLinks place link) (objects : Map Object) (es : Trail) (short : Map ℕ) (targets : AreTargets objects short) where
  pub links_apart : StandApart place
  links_apart v w a p q = same_Some v w (sym ((links v a).1 p) ∙ (links w a).1 q)

  pub lost_is : (w : ℕ) → option_map_or (λ number. is_lost es (get short number)) (link w) false ≡ is_dead objects (placed place short) (has es) w
  lost_is w = one (link w) refl
    where
      -- no link that denotes the word has a target
      none : ((target : ℕ) → get (placed place short) w ≡ Some target → ⊥) → (o : Option ℕ) → get (placed place short) w ≡ o → false ≡ option_map_or (is_outside objects (has es)) (get (placed place short) w) false
      none never None at = sym (ap (λ o. option_map_or (is_outside objects (has es)) o false) at)
      none never (Some target) at = absurd (never target at)

      two : (number : ℕ) → link w ≡ Some number → (o : Option ℕ) → get short number ≡ o → option_map_or (λ target. not (has es target)) o false ≡ option_map_or (is_outside objects (has es)) (get (placed place short) w) false
      two number is None at =
          none
          (λ target found.
          let b = placed_back place links_apart short w target found in
          let same : number ≡ b.0 = same_Some number b.0 (sym is ∙ (links b.0 w).1 b.1) in
          none-some target (sym at ∙ ap (get short) same ∙ b.2)) (get (placed place short) w) refl
      two number is (Some target) at =
          sym (ap (λ o. option_map_or (is_outside objects (has es)) o false) (get_placed place links_apart short number w target ((links number w).0 is) at) ∙ ap (λ b. b && not (has es target)) (targets number target at))

      one : (l : Option ℕ) → link w ≡ l → option_map_or (λ number. is_lost es (get short number)) l false ≡ option_map_or (is_outside objects (has es)) (get (placed place short) w) false
      one None is =
          none (λ target found. let b = placed_back place links_apart short w target found in none-some b.0 (sym is ∙ (links b.0 w).1 b.1)) (get (placed place short) w) refl
      one (Some number) is = two number is (get short number) refl

module _ (objects : Map Object) (a : ℕ) (pointers : List Pointer) (are : ArePointers objects a pointers) where
  pub step_child : (b : ℕ) → IsStepBy objects (λ w. false) pointers b ↔ Child objects a b
  step_child b = (
    λ h.
        let i = are.each h.0 h.1 in
        record { object = i.object; here = i.here; scanned = i.scanned; word = h.0.value; within = contains_at i.object.words i.place h.0.value i.is; pointed = h.3 },
    λ c.
        let at = place_of c.object.words c.word c.within in
        let p : Pointer = record { word = a + at.0; value = c.word } in
        (p, are.whole p b (record { object = c.object; here = c.here; scanned = c.scanned; place = at.0; at = refl; is = at.1 }) c.pointed, refl, c.pointed),
  )

  module _ (test : ℕ → Bool) (zero : points objects 0 ≡ None) where
    pub step_filled : (b : ℕ) → IsStepBy objects test pointers b ↔ Child (filled test 0 objects) a b
    step_filled b = (to, from)
      where
        to : IsStepBy objects test pointers b → Child (filled test 0 objects) a b
        to h =
            let i = are.each h.0 h.1 in
            let live : test (a + i.place) ≡ false = ap test (sym i.at) ∙ h.2 in
            record {
              object = record i.object { words = fill test 0 a i.object.words };
              here = filled_here test 0 objects a i.object i.here;
              scanned = i.scanned;
              word = h.0.value;
              within = contains_at (fill test 0 a i.object.words) i.place h.0.value (fill_off test 0 a i.object.words i.place live ∙ i.is);
              pointed = points-filled test 0 objects h.0.value ∙ h.3;
            }

        from : Child (filled test 0 objects) a b → IsStepBy objects test pointers b
        from c = one (test (a + at.0)) refl
          where
            before : (old : Object) × (get objects a ≡ Some old) × (c.object ≡ record old { words = fill test 0 a old.words })
            before = filled_back test 0 objects a c.object c.here

            at : (k : ℕ) × (slice_get c.object.words k ≡ Some c.word)
            at = place_of c.object.words c.word c.within

            filled_at : slice_get (fill test 0 a before.0.words) at.0 ≡ Some c.word
            filled_at = ap (λ (o : Object). slice_get o.words at.0) (sym before.2) ∙ at.1

            pointed : points objects c.word ≡ Some b
            pointed = sym (points-filled test 0 objects c.word) ∙ c.pointed

            low : at.0 < length before.0.words
            low = subst (λ n. at.0 < n) (length-fill test 0 a before.0.words) (slice_get_within (fill test 0 a before.0.words) at.0 c.word filled_at)

            one : (v : Bool) → test (a + at.0) ≡ v → IsStepBy objects test pointers b
            one true dead =
                let none : c.word ≡ 0 = same_Some c.word 0 (sym filled_at ∙ fill_on test 0 a before.0.words at.0 low dead) in
                absurd (none-some b (sym zero ∙ ap (points objects) (sym none) ∙ pointed))
            one false live =
                let p : Pointer = record { word = a + at.0; value = c.word } in
                let i : IsPointer objects a p = record {
                  object = before.0;
                  here = before.1;
                  scanned = sym (ap (λ (o : Object). o.kind) before.2) ∙ c.scanned;
                  place = at.0;
                  at = refl;
                  is = sym (fill_off test 0 a before.0.words at.0 live) ∙ filled_at;
                } in
                (p, are.whole p b i pointed, live, pointed)
