-- What loops have added so far.
use Rattle.std.proofs.Common.{◌≡◌, ◌≢◌, ℕ, ◌+◌, ◌<◌, ◌↔◌, ◌⊎◌, ◌++◌, ◌&&◌, Bool, false, not, List, [], ◌∷◌, Option, Some, None, slice_get, sym, ap, ◌∙◌, subst, inl, inr, ⊎_elim, arith, Contains}
use Rattle.std.proofs.lemmas.Bool.{cases_lt}
use Rattle.std.proofs.lemmas.Option.{same_Some, slice_get_within}
use Rattle.std.proofs.lemmas.List.Elements.{Contains-append_left, Contains-push, Contains-push_cases}
use Rattle.std.specs.FinMap.{get}
use Rattle.std.specs.FinSet.{contains}
use Rattle.fz_model.specs.declared.answers.Entry.{Entry}
use Rattle.fz_model.specs.declared.answers.Registration.{Registration}
use Rattle.fz_model.specs.State.{Map, Object}
use Rattle.fz_model.specs.Memory.{points}
use Rattle.fz_model.proofs.Lists.{place_of, contains_at}
use Rattle.fz_model.proofs.KeyedEntries.{got, listed}
use Rattle.fz_finalizers.specs.States.{State}
use Rattle.fz_finalizers.specs.Walks.{AreCleanups, AreRegistrations}
use Rattle.fz_finalizers.specs.declared.cleanups.Attached.{Attached}
use Rattle.fz_why.specs.declared.paths.Pointer.{Pointer}
use Rattle.fz_why.specs.declared.origin.Origin.{Origin}
use Rattle.fz_why.specs.declared.origin.Origin.TheVariants.{Root}
use Rattle.fz_why.specs.declared.reason.RootOf.TheVariants.{Host, RegisteredData, CleanupData, HeldObject, HeldData}
use Rattle.fz_why.specs.Trail.{Trail, is_cut, IsStepBut, IsByHost, IsByRegistration, IsByCleanup, IsByOther, IsByUnfound}
use Rattle.fz_why.proofs.Spreading.{past_end}

-- by one of the first elements of a list, and by one of all
abbrev pub ByBelow : {X : Type 0} → ℕ → List X → (ℕ → X → Origin → ℕ → Type 0) → Origin → ℕ → Type 0
ByBelow {X} n xs R o b = (k : ℕ) × (x : X) × (k < n) × (slice_get xs k ≡ Some x) × R k x o b

abbrev pub ByAny : {X : Type 0} → List X → (X → Origin → ℕ → Type 0) → Origin → ℕ → Type 0
ByAny {X} xs R o b = (x : X) × Contains xs x × R x o b

module _ {X : Type 0} (xs : List X) (R : ℕ → X → Origin → ℕ → Type 0) where
  pub below_none : (o : Origin) (b : ℕ) → ByBelow 0 xs R o b → ⊥
  below_none o b h = absurd (omega (arith, h.2))

  pub below_more : (n : ℕ) (x : X) → slice_get xs n ≡ Some x → (o : Origin) (b : ℕ) → ByBelow (n + 1) xs R o b ↔ (ByBelow n xs R o b ⊎ R n x o b)
  below_more n x here o b = (
    λ h.
        ⊎_elim (λ low. inl (h.0, h.1, low, h.3, h.4))
        (λ past.
        let last : h.0 ≡ n = omega (arith, h.2, past) in
        let same : h.1 ≡ x = same_Some h.1 x (sym h.3 ∙ ap (slice_get xs) last ∙ here) in
        inr (subst (λ k. R k x o b) last (subst (λ y. R h.0 y o b) same h.4))) (cases_lt h.0 n),
    ⊎_elim (λ h. (h.0, h.1, omega (arith, h.2), h.3, h.4)) (λ r. (n, x, omega arith, here, r)),
  )

module _ {X : Type 0} (R : X → Origin → ℕ → Type 0) where
  pub any_none : (o : Origin) (b : ℕ) → ByAny [] R o b → ⊥
  any_none o b h = absurd (omega (arith, h.1.1))

  pub any_more : (xs : List X) (x : X) (o : Origin) (b : ℕ) → ByAny (xs ++ x ∷ []) R o b ↔ (ByAny xs R o b ⊎ R x o b)
  any_more xs x o b = (
    λ h. ⊎_elim (λ before. inl (h.0, before, h.2)) (λ same. inr (subst (λ y. R y o b) (sym same) h.2)) (Contains-push_cases xs x h.0 h.1),
    ⊎_elim (λ h. (h.0, Contains-append_left xs (x ∷ []) h.0 h.1, h.2)) (λ r. (x, Contains-push xs x, r)),
  )

-- ---- the steps of an object

abbrev pub ByPointer : Map Object → (ℕ → Bool) → Option ℕ → Origin → ℕ → Pointer → Origin → ℕ → Type 0
ByPointer objects cut except origin k p o b = (o ≡ origin) × (cut p.word ≡ false) × (points objects p.value ≡ Some b) × (except ≢ Some b)

pub steps_all : (objects : Map Object) (cut : ℕ → Bool) (pointers : List Pointer) (except : Option ℕ) (origin : Origin) (n : ℕ) → slice_get pointers n ≡ None → (o : Origin) (b : ℕ) → ((o ≡ origin) × IsStepBut objects cut pointers except b) ↔ ByBelow n pointers (ByPointer objects cut except origin) o b
steps_all objects cut pointers except origin n none o b = (
  λ h.
      let s = h.1.0 in
      let at = place_of pointers s.0 s.1 in
      (at.0, s.0, omega (arith, slice_get_within pointers at.0 s.0 at.1, past_end pointers n none), at.1, (h.0, s.2, s.3, h.1.1)),
  λ h. (h.4.0, ((h.1, contains_at pointers h.0 h.1 h.3, h.4.1, h.4.2), h.4.3)),
)

-- ---- roots

abbrev pub ByHostRoot : Map Object → ℕ → ℕ → Origin → ℕ → Type 0
ByHostRoot objects k word o b = (o ≡ Root (Host k)) × (points objects word ≡ Some b)

pub host_all : (objects : Map Object) (roots : List ℕ) (n : ℕ) → slice_get roots n ≡ None → (o : Origin) (b : ℕ) → IsByHost objects roots o b ↔ ByBelow n roots (ByHostRoot objects) o b
host_all objects roots n none o b = (
  λ h. (h.0, h.1, omega (arith, slice_get_within roots h.0 h.1 h.2, past_end roots n none), h.2, (h.3, h.4)),
  λ h. (h.0, h.1, h.3, h.4.0, h.4.1),
)

abbrev pub ByData : Map Object → ℕ × Registration → Origin → ℕ → Type 0
ByData objects e o b = (o ≡ Root (RegisteredData e.1.number)) × (points objects e.1.cd ≡ Some b)

pub registered_all : (objects : Map Object) (s : State) (es : List (ℕ × Registration)) → AreRegistrations s es → (o : Origin) (b : ℕ) → IsByRegistration objects s.registrations o b ↔ ByAny es (ByData objects) o b
registered_all objects s es are o b = (
  λ h. let e : ℕ × Registration = (h.0, h.1) in (e, listed es h.0 h.1 (ap (λ (m : Map Registration). get m h.0) are.0 ∙ h.2), (h.3, h.4)),
  λ h. (h.0.0, h.0.1, ap (λ (m : Map Registration). get m h.0.0) (sym are.0) ∙ got es h.0.0 h.0.1 are.1 h.1, h.2.0, h.2.1),
)

abbrev pub ByAttached : Map Object → ℕ × Attached → Origin → ℕ → Type 0
ByAttached objects e o b = (o ≡ Root (CleanupData e.0)) × (points objects e.1.cleanup.client_data ≡ Some b)

pub attached_all : (objects : Map Object) (s : State) (es : List (ℕ × Attached)) → AreCleanups s es → (o : Origin) (b : ℕ) → IsByCleanup objects s.cleanups o b ↔ ByAny es (ByAttached objects) o b
attached_all objects s es are o b = (
  λ h. let e : ℕ × Attached = (h.0, h.1) in (e, listed es h.0 h.1 (ap (λ (m : Map Attached). get m h.0) are.0 ∙ h.2), (h.3, h.4)),
  λ h. (h.0.0, h.0.1, ap (λ (m : Map Attached). get m h.0.0) (sym are.0) ∙ got es h.0.0 h.0.1 are.1 h.1, h.2.0, h.2.1),
)

abbrev pub ByHeld : Map Object → Entry → Origin → ℕ → Type 0
ByHeld objects e o b = ((o ≡ Root (HeldObject e.seq)) × (points objects e.obj ≡ Some b)) ⊎ ((o ≡ Root (HeldData e.seq)) × (points objects e.cd ≡ Some b))

-- ---- with what the search from others begins

abbrev pub ByFirst : (ℕ → Option ℕ) → Map Object → State → Trail → (ℕ → List Pointer) → Bool → ℕ → ℕ × Registration → Origin → ℕ → Type 0
ByFirst link objects s found pointers late object e = IsByUnfound objects (is_cut link s (Some found)) (pointers e.0) found object e.0 (late && not (contains s.late e.0)) e.1.kind

pub others_all : (link : ℕ → Option ℕ) (objects : Map Object) (s : State) (found : Trail) (pointers : ℕ → List Pointer) (late : Bool) (object : ℕ) (es : List (ℕ × Registration)) → AreRegistrations s es → (o : Origin) (b : ℕ) → IsByOther link objects s found pointers late object o b ↔ ByAny es (ByFirst link objects s found pointers late object) o b
others_all link objects s found pointers late object es are o b = (
  λ h. let e : ℕ × Registration = (h.0, h.1) in (e, listed es h.0 h.1 (ap (λ (m : Map Registration). get m h.0) are.0 ∙ h.2), (h.3, h.4, h.5)),
  λ h. (h.0.0, h.0.1, ap (λ (m : Map Registration). get m h.0.0) (sym are.0) ∙ got es h.0.0 h.0.1 are.1 h.1, h.2.0, h.2.1, h.2.2),
)
