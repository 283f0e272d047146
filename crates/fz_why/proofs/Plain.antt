-- Without ephemerons all is by paths of children.
use Rattle.std.proofs.Common.{◌≡◌, ◌≢◌, ◌↔◌, ◌||◌, ℕ, Bool, true, false, List, Option, Some, None, refl, sym, ap, ◌∙◌, subst, inl, inr, ⊎_elim, IsTrue, IsFalse}
use Rattle.std.proofs.lemmas.Bool.{both_ways, cases_eq}
use Rattle.std.proofs.lemmas.Option.{none-some}
use Rattle.std.specs.FinMap.{get, empty, get-empty}
use Rattle.std.specs.FinSet.{contains}
use Rattle.std.specs.Option.{option_map_or}
use Rattle.std.specs.Ordering.{nat_cmp}
use Rattle.fz_model.specs.declared.kinds.RegKind.{RegKind}
use Rattle.fz_model.specs.declared.kinds.RegKind.TheVariants.{Normal}
use Rattle.fz_model.specs.State.{Map, Object}
use Rattle.fz_model.specs.Memory.{points}
use Rattle.fz_model.specs.Reachability.{Child, Itself, Leads, OneMore}
use Rattle.fz_model.specs.Pass.{LeadsFirst, cleared, is_dead, is_outside}
use Rattle.fz_pass.specs.Flagged.{AreNormal}
use Rattle.fz_pass.specs.Holds.{ByChild, IsOfKey, Member, no_ephemerons}
use Rattle.fz_pass.specs.Marks.{IsClosed}
use Rattle.fz_pass.specs.Places.{StandApart, placed}
use Rattle.fz_pass.proofs.ByPaths.{by_path}
use Rattle.fz_pass.proofs.Children.{child_before, first_child}
use Rattle.fz_pass.proofs.Filling.{filled_same}
use Rattle.fz_pass.proofs.Holding.{holds_leads}
use Rattle.fz_pass.proofs.Marking.{closed_leads}
use Rattle.fz_pass.proofs.Placing.{placed_back}
use Rattle.fz_finalizers.specs.States.{State}
use Rattle.fz_why.specs.Why.{heap_judged, HoldsJudged, IsAtRoot, IsFirstOf, IsHeldBy, IsHeldByRings, IsHeldToward, IsKeyJudged, IsReached}
use Rattle.fz_why.specs.Laws.{GoesByPaths, LeadsBack}
use Rattle.fz_why.proofs.Held.{not_found}
use Rattle.fz_why.proofs.Holding.{dead, judged_is, left_was}

-- an object that reaches another has a first step to it
lead_first : (objects : Map Object) (a b : ℕ) → a ≢ b → Leads objects a b → (first : ℕ) × Child objects a first × Leads objects first b
lead_first objects a b ne Itself = absurd (ne refl)
lead_first objects a b ne (OneMore {b = m} leads child) =
    ⊎_elim (λ same. (b, subst (λ x. Child objects x b) (sym same) child, Itself)) (λ other. let f = lead_first objects a m other leads in (f.0, f.1, OneMore f.2 child)) (cases_eq a m)

nothing_at : (w t : ℕ) → get {R = nat_cmp} empty w ≡ Some t → ⊥
nothing_at w t at = none-some t (sym (get-empty nat_cmp w) ∙ at)

module _ (place : ℕ → Option ℕ) (apart : StandApart place) (value : Map Object → ℕ → Option ℕ) (objects : Map Object) (s : State) (plain : s.ephemerons ≡ no_ephemerons) where
  no_key : (w k : ℕ) → IsOfKey s.ephemerons w k → ⊥
  no_key w k (inl is) = nothing_at w k (ap (λ e. get e.short w) (sym plain) ∙ is)
  no_key w k (inr is) = nothing_at w k (ap (λ e. get e.long w) (sym plain) ∙ is)

  module _ (zero : points objects 0 ≡ None) (found : ℕ → Bool) where
    abbrev clear : Map Object
    clear = cleared (placed place s.short) found objects

    heap : Map Object
    heap = heap_judged place value objects s found

    alive : (w : ℕ) → is_dead objects (placed place s.ephemerons.short) found w ≡ false
    alive w = one (get (placed place s.ephemerons.short) w) refl
      where
        one : (o : Option ℕ) → get (placed place s.ephemerons.short) w ≡ o → option_map_or (is_outside objects found) (get (placed place s.ephemerons.short) w) false ≡ false
        one None none = ap (λ o. option_map_or (is_outside objects found) o false) none
        one (Some t) at = let b = placed_back place apart s.ephemerons.short w t at in absurd (no_key b.0 t (inl b.2))

    clear_is : heap_judged place value objects s found ≡ clear
    clear_is = judged_is place value objects s found ∙ filled_same (dead place value objects s found) (is_dead objects (placed place s.short) found) 0 objects (λ w. ap (λ b. is_dead objects (placed place s.short) found w || b) (alive w) ∙ or_false (is_dead objects (placed place s.short) found w))
      where
        or_false : (b : Bool) → (b || false) ≡ b
        or_false true = refl
        or_false false = refl

    no_row : (w k : ℕ) → IsKeyJudged place value objects s found w k → ⊥
    no_row w k = ⊎_elim (λ short. no_key w k (inl (left_was s.ephemerons.short found w k short).0)) (λ long. no_key w k (inr long))

    -- what a set holds a member leads to, and the other way
    path : (set : ℕ → Type 0) (a : ℕ) → HoldsJudged place value objects s found set a → (b : ℕ) × set b × Leads clear b a
    path set a h =
        let way = by_path place value (heap_judged place value objects s found) (IsKeyJudged place value objects s found) no_row set a h in
        (way.0, way.1, subst (λ (m : Map Object). Leads m way.0 a) clear_is way.2)

    held : (set : ℕ → Type 0) (a b : ℕ) → HoldsJudged place value objects s found set a → Leads clear a b → HoldsJudged place value objects s found set b
    held set a b h leads =
        holds_leads place value (heap_judged place value objects s found) (IsKeyJudged place value objects s found) set a b h (subst (λ (m : Map Object). Leads m a b) (sym clear_is) leads)

    to_clear : (from : ℕ) (kind : RegKind) (first : ℕ) → LeadsFirst (heap_judged place value objects s found) from kind first → LeadsFirst clear from kind first
    to_clear from kind first = subst (λ (m : Map Object). LeadsFirst m from kind first) clear_is

    from_clear : (from : ℕ) (kind : RegKind) (first : ℕ) → LeadsFirst clear from kind first → LeadsFirst (heap_judged place value objects s found) from kind first
    from_clear from kind first = subst (λ (m : Map Object). LeadsFirst m from kind first) (sym clear_is)

    abbrev Back : Bool → ℕ → ℕ → Type 0
    Back = LeadsBack place value objects s found

    module _ (closed : IsClosed objects found) (o : ℕ) (out : IsFalse (found o)) where
      -- no found object leads to it
      stays_out : (b : ℕ) → IsTrue (found b) → Leads clear b o → ⊥
      stays_out b on leads =
          both_ways (found o) out
          (closed_leads ⊥ clear found (λ x y x_on child. closed x y x_on (child_before (is_dead objects (placed place s.short) found) objects zero x y child)) b o on leads)

      -- a first step, as a path has it, and as a set does
      back_of : (from b : ℕ) → IsFirstOf place value objects s found from b → Leads clear b o → Back false from o
      back_of from b h leads = record { by = h.0; unfound = h.1; first = b; step = to_clear from h.0.kind b h.2; leads = leads }

      first_of : (from a : ℕ) (b : Back false from a) → IsFirstOf place value objects s found from b.first
      first_of from a b = (b.by, b.unfound, from_clear from b.by.kind b.first b.step)

      ring : IsHeldBy place value objects s found o o ↔ Back false o o
      ring = (
        λ h. let p = path _ o h in ⊎_elim (λ on. absurd (stays_out p.0 on p.2)) (λ first. back_of o p.0 first p.2) p.1,
        λ b. held _ b.first o (Member (inr (first_of o o b))) b.leads,
      )

      held_false : IsHeldToward place value objects s found false o ↔ ((from : ℕ) × Back false from o)
      held_false = (
        λ h. let p = path _ o h in ⊎_elim (λ on. absurd (stays_out p.0 on p.2)) (λ first. (first.0, back_of first.0 p.0 (first.1, first.2, first.3) p.2)) p.1,
        λ b. let first = first_of b.0 o b.1 in held _ b.1.first o (Member (inr (b.0, first.0, first.1, first.2))) b.1.leads,
      )

      held_true : AreNormal s.registrations (contains s.late) → IsTrue (contains s.late o) → IsHeldToward place value objects s found true o ↔ ((from : ℕ) × Back true from o)
      held_true normal late = (
        λ h.
            let p = path _ o h in
            ⊎_elim (λ on. absurd (stays_out p.0 on p.2))
            (⊎_elim
            (λ first.
            (first.0, record { by = first.1; unfound = first.2; first = p.0; step = first_child clear first.0 first.1.kind p.0 (to_clear first.0 first.1.kind p.0 first.3); leads = p.2 }))
            (λ early.
            let ne : p.0 ≢ o = (λ same. both_ways (contains s.late o) (ap (contains s.late) (sym same) ∙ early.1) late) in
            let f = lead_first clear p.0 o ne p.2 in
            (p.0, record { by = early.0.0; unfound = early.0.1; first = f.0; step = f.1; leads = f.2 }))) p.1,
        λ b. held _ b.1.first o (by_flag b.0 b.1 (contains s.late b.0) refl) b.1.leads,
      )
        where
          by_flag : (from : ℕ) (b : Back true from o) (flag : Bool) → contains s.late from ≡ flag → IsHeldToward place value objects s found true b.first
          by_flag from b true flagged =
              let is : b.by.kind ≡ Normal = normal from b.by b.unfound.registered flagged in
              Member (inr (inl (from, b.by, b.unfound, from_clear from b.by.kind b.first (subst (λ k. LeadsFirst clear from k b.first) (sym is) b.step))))
          by_flag from b false early = ByChild (Member (inr (inr ((b.by, b.unfound), early)))) (from_clear from Normal b.first b.step)

      held_is : AreNormal s.registrations (contains s.late) → (flag : Bool) → contains s.late o ≡ flag → IsHeldToward place value objects s found (contains s.late o) o ↔ ((from : ℕ) × Back (contains s.late o) from o)
      held_is normal true late = subst (λ b. IsHeldToward place value objects s found b o ↔ ((from : ℕ) × Back b from o)) (sym late) (held_true normal late)
      held_is normal false late = subst (λ b. IsHeldToward place value objects s found b o ↔ ((from : ℕ) × Back b from o)) (sym late) held_false

    module _ (closed : IsClosed objects found) where
      ring_of : (from : ℕ) (b : ℕ) → IsFirstOf place value objects s found from b → IsHeldBy place value objects s found from from ↔ Back false from from
      ring_of from b first = ring closed from (not_found place value objects s found from first.0 first.1)

      stuck : (o : ℕ) → IsFalse (found o) → IsHeldByRings place value objects s found o ↔ ((from : ℕ) × Back false from from × Back false from o)
      stuck o out = (
        λ h.
            let p = path _ o h in
            ⊎_elim (λ on. absurd (stays_out closed o out p.0 on p.2)) (λ c. (c.0, (ring_of c.0 p.0 c.2).0 c.1, back_of closed o out c.0 p.0 c.2 p.2)) p.1,
        λ b.
            let first = first_of closed o out b.0 o b.2 in
            held _ b.2.first o (Member (inr (b.0, (ring_of b.0 b.2.first first).1 b.1, first))) b.2.leads,
      )

pub goes_by_paths : (place : ℕ → Option ℕ) (value : Map Object → ℕ → Option ℕ) (objects : Map Object) (roots : List ℕ) (s : State) (found : ℕ → Bool) → GoesByPaths place value objects roots s found
goes_by_paths place value objects roots s found normal plain apart zero = (
  reached,
  λ comp o out.
      let closed : IsClosed objects found = (λ a b on child. (comp b).1 (ByChild ((comp a).0 on) child)) in
      record {
        ring = ring place apart value objects s plain zero found closed o out;
        held = held_is place apart value objects s plain zero found closed o out normal (contains s.late o) refl;
        stuck = stuck place apart value objects s plain zero found closed o out;
      },
)
  where
    reached : (a : ℕ) → IsReached place value objects roots s a ↔ ((first : ℕ) × IsAtRoot objects roots s first × Leads objects first a)
    reached a = (
      by_path place value objects (IsOfKey s.ephemerons) (no_key place apart value objects s plain) (IsAtRoot objects roots s) a,
      λ h. holds_leads place value objects (IsOfKey s.ephemerons) (IsAtRoot objects roots s) h.0 a (Member h.1) h.2,
    )
