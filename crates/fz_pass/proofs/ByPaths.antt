-- Without ephemerons a pass decides by paths.
use Rattle.std.proofs.Common.{◌≡◌, ◌⊎◌, ℕ, ◌∷◌, ◌&&◌, not, cond, Bool, true, false, List, [], length, Option, None, refl, sym, ap, ◌∙◌, subst, inl, inr, ⊎_elim, arith, IsTrue}
use Rattle.std.proofs.lemmas.Bool.{both_ways, and_parts, not-true}
use Rattle.std.proofs.lemmas.Option.{none-some}
use Rattle.std.specs.FinMap.{get, contains_key, empty, entries, from_entries, retain_keys, get-empty, len-empty, len-entries}
use Rattle.std.specs.Option.{option_map_or}
use Rattle.std.specs.Cmp.{nat_cmp_total}
use Rattle.std.specs.Ordering.{nat_cmp}
use Rattle.std.specs.FinMap.{same_map, nat_cmp-IsAntisymmetric}
use Rattle.fz_model.specs.State.{Map, Object}
use Rattle.fz_model.specs.declared.answers.Entry.{Entry}
use Rattle.fz_model.specs.declared.answers.Pick.{Pick}
use Rattle.fz_model.specs.declared.answers.Registration.{Registration}
use Rattle.fz_model.proofs.KeyedEntries.{empty_made}
use Rattle.fz_model.proofs.Maps.{get-retain}
use Rattle.fz_model.specs.Memory.{points}
use Rattle.fz_model.specs.Reachability.{Leads, Itself, OneMore}
use Rattle.fz_model.specs.Pass.{LeadsFirst, IsLedTo, IsKept, IsPicked, FoundItself, LedFrom, is_dead, is_outside, cleared, without_picks}
use Rattle.fz_pass.specs.Decides.{Parts}
use Rattle.fz_pass.specs.Flagged.{AreNormal, DecidesFlagged, IsLast, IsUnfound}
use Rattle.fz_pass.specs.Holds.{Ephemerons, Holds, Member, ByChild, ByHolder, ByKey, IsOfKey, no_ephemerons}
use Rattle.fz_pass.specs.Leading.{IsLeading}
use Rattle.fz_pass.specs.Marks.{IsClosed}
use Rattle.fz_pass.specs.Places.{is_held, placed, placed_entries, links_held}
use Rattle.fz_pass.specs.Whole.{DecidesWhole, IsFirst, IsHeldEarly, IsHeldFirst, IsLost, IsLostEarly, IsPickedThen, IsRetained, ephemerons_judged, objects_judged}
use Rattle.fz_pass.specs.WholeLaws.{DecidesByPaths, IsByPaths, NothingSettles}
use Rattle.fz_pass.proofs.Children.{child_before}
use Rattle.fz_pass.proofs.Filling.{filled_never}
use Rattle.fz_pass.proofs.Holding.{holds_leads, whole_from}
use Rattle.fz_pass.proofs.Marking.{by_another, closed_leads}
use Rattle.fz_pass.proofs.Picked.{all_map}

-- ---- maps without entries

module _ (place : ℕ → Option ℕ) (value : Map Object → ℕ → Option ℕ) (objects : Map Object) where
  -- where there are no ephemerons, what a set holds a member leads to
  pub by_path : (IsOf : ℕ → ℕ → Type 0) → ((w k : ℕ) → IsOf w k → ⊥) → (set : ℕ → Type 0) (a : ℕ) → Holds place value objects IsOf set a → (b : ℕ) × set b × Leads objects b a
  by_path IsOf none set a (Member h) = (a, h, Itself)
  by_path IsOf none set a (ByChild {a = b} h child) = let way = by_path IsOf none set b h in (way.0, way.1, OneMore way.2 child)
  by_path IsOf none set a (ByHolder {word = w} {key = k} is key holder there points) = absurd (none w k is)
  by_path IsOf none set a (ByKey {word = w} {key = k} is key nowhere points) = absurd (none w k is)

-- ---- maps without entries

no_entries : {X : Type 0} (xs : List X) → length xs ≡ 0 → xs ≡ []
no_entries [] none = refl
no_entries (x ∷ xs) none = absurd (omega (arith, none))

none_placed : (place : ℕ → Option ℕ) → placed place empty ≡ empty
none_placed place = ap (λ es. from_entries {R = nat_cmp} (placed_entries place es)) (no_entries (entries {X = ℕ} {R = nat_cmp} empty) (sym (len-entries {X = ℕ} {R = nat_cmp} empty) ∙ len-empty nat_cmp ℕ)) ∙ empty_made [] refl

none_cleared : (place : ℕ → Option ℕ) (set : ℕ → Bool) (objects : Map Object) → cleared (placed place empty) set objects ≡ objects
none_cleared place set objects =
    ap (λ (m : Map ℕ). cleared m set objects) (none_placed place)
    ∙ filled_never (is_dead objects empty set) 0 objects (λ a. ap (λ o. option_map_or (is_outside objects set) o false) (get-empty nat_cmp a))

none_retained : (test : ℕ → Bool) (w : ℕ) → get (retain_keys (no_ephemerons.short) test) w ≡ None
none_retained test w = get-retain empty test w ∙ ap (λ o. cond (test w) o None) (get-empty nat_cmp w) ∙ both (test w)
  where
    both : (b : Bool) → cond {A = Option ℕ} b None None ≡ None
    both true = refl
    both false = refl

none_held : (test : ℕ → Bool) → retain_keys (no_ephemerons.short) test ≡ empty
none_held test = same_map nat_cmp_total nat_cmp-IsAntisymmetric _ _ (λ w. none_retained test w ∙ sym (get-empty nat_cmp w))

none_before : (w k : ℕ) → IsOfKey no_ephemerons w k → ⊥
none_before w k (inl is) = none-some k (sym (get-empty nat_cmp w) ∙ is)
none_before w k (inr is) = none-some k (sym (get-empty nat_cmp w) ∙ is)

pub nothing_settles : (place : ℕ → Option ℕ) (value : Map Object → ℕ → Option ℕ) (objects : Map Object) → NothingSettles place value objects
nothing_settles place value objects marked found closed = (
  whole_from place value objects (IsOfKey no_ephemerons) marked closed (λ w k is. absurd (none_before w k is)),
  λ s a. (λ on. let way = by_path place value objects (IsOfKey no_ephemerons) none_before (λ b. IsTrue (marked b)) a (s.most tt a on) in closed_leads ⊥ objects marked closed way.0 a way.1 way.2, s.more a),
)

module _ (Exact : Type 0) (place : ℕ → Option ℕ) (value : Map Object → ℕ → Option ℕ) (late : ℕ → Bool) (old : Parts) (normal : AreNormal old.registrations late) (zero : points old.objects 0 ≡ None)
    (pass first : ℕ) (found : ℕ → Bool) (new : Parts) (new_ephemerons : Ephemerons) (queue new_queue : List Entry) (closed : IsClosed old.objects found)
    (d : DecidesWhole Exact place value late pass first old no_ephemerons found new new_ephemerons queue new_queue) where
  abbrev words : Map ℕ
  words = placed place old.short

  abbrev clear : Map Object
  clear = cleared words found old.objects

  abbrev judged : Map Object
  judged = objects_judged place value old no_ephemerons found

  abbrev Of : ℕ → ℕ → Type 0
  Of = IsOfKey (ephemerons_judged place value old no_ephemerons found)

  judged_is : judged ≡ clear
  judged_is = none_cleared place found clear

  none_then : (w k : ℕ) → Of w k → ⊥
  none_then w k (inl is) = none-some k (sym (none_retained _ w) ∙ is)
  none_then w k (inr is) = none-some k (sym (get-empty nat_cmp w) ∙ is)

  -- ---- paths

  to_judged : (a b : ℕ) → Leads clear a b → Leads judged a b
  to_judged a b = subst (λ (m : Map Object). Leads m a b) (sym judged_is)

  from_judged : (a b : ℕ) → Leads judged a b → Leads clear a b
  from_judged a b = subst (λ (m : Map Object). Leads m a b) judged_is

  found_closed : IsClosed clear found
  found_closed a b on child = closed a b on (child_before (is_dead old.objects words found) old.objects zero a b child)

  path : (set : ℕ → Type 0) (a : ℕ) → Holds place value judged Of set a → (b : ℕ) × set b × Leads clear b a
  path set a h = let way = by_path place value judged Of none_then set a h in (way.0, way.1, from_judged way.0 a way.2)

  held : (set : ℕ → Type 0) (a b : ℕ) → set a → Leads clear a b → Holds place value judged Of set b
  held set a b on leads = holds_leads place value judged Of set a b (Member on) (to_judged a b leads)

  abbrev Firsts : ℕ → Type 0
  Firsts a = IsTrue (found a) ⊎ IsFirst place value old no_ephemerons found a

  abbrev Early : ℕ → Type 0
  Early a = IsTrue (found a) ⊎ (IsFirst place value old no_ephemerons found a ⊎ IsLostEarly place value old no_ephemerons found late a)

  abbrev Lost : ℕ → Type 0
  Lost a = IsTrue (found a) ⊎ IsLost place value old no_ephemerons found a

  not_found : (o : ℕ) (r : Registration) → IsUnfound place old found o r → found o ≡ false
  not_found o r un = not-true (found o) (and_parts (contains_key old.objects o) (not (found o)) un.outside).1

  found_leads : (a b : ℕ) → IsTrue (found a) → Leads clear a b → IsTrue (found b)
  found_leads a b on leads = closed_leads Exact clear found found_closed a b on leads

  -- ---- what is led to

  held_first : (x : ℕ) → IsLedTo old.objects old.registrations words found x → IsHeldFirst place value old no_ephemerons found x
  held_first x l = held Firsts l.first x (inr (l.from, l.by, l.unreachable, subst (λ (m : Map Object). LeadsFirst m l.from l.by.kind l.first) (sym judged_is) l.step)) l.rest

  led_to : (x b : ℕ) → IsFirst place value old no_ephemerons found b → Leads clear b x → IsLedTo old.objects old.registrations words found x
  led_to x b (o, r, un, step) leads = record { from = o; by = r; unreachable = un; first = b; step = subst (λ (m : Map Object). LeadsFirst m o r.kind b) judged_is step; rest = leads }

  is_last : (o : ℕ) → IsTrue (late o) → (IsHeldFirst place value old no_ephemerons found o → ⊥) → (IsHeldEarly place value old no_ephemerons found late o → ⊥) → IsLast place old found o
  is_last o on none_first none_early other r un ne leads = by_flag (late other) refl
    where
      by_flag : (b : Bool) → late other ≡ b → ⊥
      by_flag false flag = none_early (held Early other o (inr (inr ((r, un), flag))) leads)
      by_flag true flag =
          let step : IsLeading clear other r.kind o = ⊎_elim (λ same. absurd (ne (sym same))) (λ (c, step, rest). (c, subst (λ k. LeadsFirst clear other k c) (sym (normal other r un.registered flag)) step.0, rest)) (by_another Exact clear other o leads) in
          none_first (held_first o (record { from = other; by = r; unreachable = un; first = step.0; step = step.1; rest = step.2 }))

  picked : (p : Pick) → IsPickedThen place value old no_ephemerons found late p → IsPicked old.objects old.registrations words found p × (IsTrue (late p.obj) → IsLast place old found p.obj)
  picked p x = (
    record { registration = x.registration; object = x.object; unreachable = x.unreachable; here = x.here; is = x.is; free = λ l. x.free (held_first p.obj l) },
    λ on. is_last p.obj on x.free (x.last on),
  )

  none_first : (o : ℕ) (r : Registration) → IsUnfound place old found o r → (IsLedTo old.objects old.registrations words found o → ⊥) → IsHeldFirst place value old no_ephemerons found o → ⊥
  none_first o r un none h =
      let way = path Firsts o h in
      ⊎_elim (λ on. both_ways (found o) (not_found o r un) (found_leads way.0 o on way.2)) (λ f. none (led_to o way.0 f way.2)) way.1

  none_early : (o : ℕ) (r : Registration) → IsUnfound place old found o r → (IsLedTo old.objects old.registrations words found o → ⊥) → (IsTrue (late o) → IsLast place old found o) → IsTrue (late o) → IsHeldEarly place value old no_ephemerons found late o → ⊥
  none_early o r un none may on h =
      let way = path Early o h in
      ⊎_elim (λ was. both_ways (found o) (not_found o r un) (found_leads way.0 o was way.2))
      (⊎_elim (λ f. none (led_to o way.0 f way.2)) (λ early. may on way.0 early.0.0 early.0.1 (λ same. both_ways (late o) (sym (ap late same) ∙ early.1) on) way.2)) way.1

  -- ---- the same decision

  flagged : DecidesFlagged Exact place late pass first old found new queue new_queue
  flagged = record {
    picks = d.picks;
    picked = record {
      ordered = d.picked.ordered;
      each = all_map (IsPickedThen place value old no_ephemerons found late) (λ (p : Pick). IsPicked old.objects old.registrations words found p × (IsTrue (late p.obj) → IsLast place old found p.obj)) picked d.picks d.picked.each;
      whole = λ exact o r un none may. d.picked.whole exact o r un (none_first o r un none) (none_early o r un none may);
    };
    queued = d.queued;
    kept = d.kept;
    keeps = λ a k. d.keeps a (retained a k);
    most = λ exact a on. kept_by a (path Lost a (d.most exact a on));
    is = d.is ∙ (λ i. record {
      objects = retain_keys ((none_cleared place d.kept (cleared (placed place old.long) d.kept judged) ∙ ap (cleared (placed place old.long) d.kept) judged_is) i) d.kept;
      registrations = without_picks old.registrations d.picks;
      short = links_held place old.objects old.short found d.kept;
      long = links_held place old.objects old.long d.kept d.kept;
    });
  }
    where
      retained : (a : ℕ) → IsKept old.objects old.registrations words found a → IsRetained place value old no_ephemerons found a
      retained a (FoundItself on) = Member (inl on)
      retained a (LedFrom o r un leads) = held Lost o a (inr (r, un)) leads

      kept_by : (a : ℕ) → (b : ℕ) × Lost b × Leads clear b a → IsKept old.objects old.registrations words found a
      kept_by a (b, inl on, leads) = FoundItself (found_leads b a on leads)
      kept_by a (b, inr (r, un), leads) = LedFrom b r un leads

  pub by_paths : IsByPaths Exact place value late pass first old found new new_ephemerons queue new_queue d
  unfolding flagged
  by_paths = record {
    flagged = flagged;
    picks = refl;
    kept = refl;
    none = d.left ∙ (λ i. record { short = none_held (λ w. option_map_or found (get no_ephemerons.short w) false && is_held place old.objects d.kept w) i; long = none_held (λ w. option_map_or d.kept (get no_ephemerons.long w) false && is_held place old.objects d.kept w) i });
  }

pub decides_by_paths : (Exact : Type 0) (place : ℕ → Option ℕ) (value : Map Object → ℕ → Option ℕ) (late : ℕ → Bool) (old : Parts) → DecidesByPaths Exact place value late old
decides_by_paths Exact place value late old normal zero pass first found new new_ephemerons queue new_queue closed d = by_paths Exact place value late old normal zero pass first found new new_ephemerons queue new_queue closed d
