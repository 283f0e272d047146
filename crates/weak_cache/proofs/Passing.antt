-- What a collection leaves of the cache, by the laws of a pass.
use Rattle.std.proofs.Common.{◌≡◌, ℕ, ◌+◌, ◌<◌, ◌⊎◌, inl, ⊎_elim, List, [], ◌∷◌, length, Option, Some, None, Result, Ok, Err, Contains, refl, sym, ap, ◌∙◌, subst, arith, add-zero, unwrap_or, slice_get}
use Rattle.std.proofs.lemmas.Option.{none-some, same_Some}
use Rattle.std.proofs.lemmas.List.Elements.{Contains-get_or}
use Rattle.std.specs.FinMap.{get}
use Rattle.fz_model.specs.declared.refusal.Refusal.{Refusal}
use Rattle.fz_model.specs.declared.answers.Passed.{Passed}
use Rattle.fz_model.specs.State.{Object, Core, State}
use Rattle.fz_model.specs.Extents.{extents, extent_of, AreApart, AreWithin}
use Rattle.fz_model.specs.Memory.{points, slot_word}
use Rattle.fz_model.specs.Reachability.{IsReachable}
use Rattle.fz_model.specs.declared.call.Call.TheVariants.{Collect}
use Rattle.fz_model.specs.Places.{slot_at}
use Rattle.fz_model.specs.Events.{Make}
use Rattle.fz_model.specs.Steps.{Step, IsReached}
use Rattle.fz_model.specs.CallLaws.{Stands}
use Rattle.fz_model.specs.PassLaws.{HasLost, IsLawful, EachPassIsLawful}
use Rattle.fz_model.proofs.Objects.{points_at, to_covers}
use Rattle.fz_model.proofs.Standing.{get_extent}
use Rattle.fz_world.specs.World.{WorldView}
use Rattle.fz_world.specs.Does.{Does}
use Rattle.weak_cache.specs.declared.cache.TheConstants.{LIST}
use Rattle.weak_cache.specs.Cached.{CacheView, list_in, cached_in, IsCache, IsWhole}
use Rattle.weak_cache.proofs.Keeping.{reached_on}

-- the list's slot is in a frame
list_root : (frames : List (List ℕ)) → 0 < slot_word frames (slot_at 0 LIST) → (f : List ℕ) × Contains frames f × Contains f (slot_word frames (slot_at 0 LIST))
list_root [] h = absurd (omega (arith, h))
list_root ([] ∷ rest) h = absurd (omega (arith, h))
list_root ((w ∷ ws) ∷ rest) h = (w ∷ ws, Contains-get_or ((w ∷ ws) ∷ rest) 0 [] (omega arith), Contains-get_or (w ∷ ws) 0 0 (omega arith))

-- each word of the list points to it
pub points_here : (keys : ℕ) (c : Core) (h : IsCache keys c) → AreApart (extents c.objects) → (key : ℕ) → key < keys → points c.objects (list_in c + key) ≡ Some (list_in c)
points_here keys c h apart key few =
    let size = h.size in
    points_at (extents c.objects) apart (list_in c) (list_in c + key) (extent_of h.list) (get_extent c.objects (list_in c) h.list h.here)
    (to_covers (list_in c) (list_in c + key) (extent_of h.list) (omega arith) (omega (arith, few, size)))

module _ (keys : ℕ) (s t : State) (passed : Passed) (apart : AreApart (extents s.objects)) (within : AreWithin s.blocks (extents s.objects)) (lawful : IsLawful s (IsReachable s.core) passed t) (frames : t.frames ≡ s.frames) (h : IsCache keys s.core) where
  list_stays : list_in t.core ≡ list_in s.core
  list_stays = ap (λ (f : List (List ℕ)). slot_word f (slot_at 0 LIST)) frames

  stands : Stands t.objects (list_in s.core)
  stands =
      let start = list_in s.core in
      let bounds = within start (extent_of h.list) (get_extent s.objects start h.list h.here) in
      let low = bounds.0 in
      let some = bounds.1 in
      let size = h.size in
      let root = list_root s.frames (omega (arith, low)) in
      lawful.stays.slots root.0 start start root.1 root.2
      (subst (λ w. points s.objects w ≡ Some start) (add-zero start) (points_here keys s.core h apart 0 (omega (arith, some, size))))

  after : Object
  after = stands.0

  same : (before : Object) × (get s.objects (list_in s.core) ≡ Some before) × Rattle.fz_model.specs.PassLaws.IsSameBut s t (list_in s.core) before after
  unfolding after stands
  same = lawful.stays.same (list_in s.core) after stands.1

  before_is : same.0 ≡ h.list
  before_is = same_Some _ _ (sym same.1 ∙ h.here)

  words_at : (key : ℕ) → (slice_get after.words key ≡ slice_get h.list.words key) ⊎ ((slice_get after.words key ≡ Some 0) × (HasLost s.short t.short (list_in s.core + key) ⊎ HasLost s.long t.long (list_in s.core + key)))
  words_at key = subst (λ (o : Object). (slice_get after.words key ≡ slice_get o.words key) ⊎ ((slice_get after.words key ≡ Some 0) × (HasLost s.short t.short (list_in s.core + key) ⊎ HasLost s.long t.long (list_in s.core + key)))) before_is (same.2.words key)

  -- a lost link's word is zero, and an empty one stays so
  gone : (key : ℕ) → key < keys → get t.short (list_in s.core + key) ≡ None → (old : Option ℕ) → get s.short (list_in s.core + key) ≡ old → slice_get after.words key ≡ Some 0
  unfolding after stands
  gone key few lost None was = ⊎_elim (λ same. same ∙ h.words key few ∙ ap (λ o. Some (unwrap_or o 0)) was) (λ zero. zero.0) (words_at key)
  gone key few lost (Some a) was =
      let zero = lawful.links.zero (list_in s.core + key) (list_in s.core) after (inl ((a, was), lost)) (points_here keys s.core h apart key few) stands.1 in
      let place = zero.1 in
      let same : zero.0 ≡ key = omega (arith, place) in
      subst (λ k. slice_get after.words k ≡ Some 0) same zero.2

  word : (key : ℕ) → key < keys → (new : Option ℕ) → get t.short (list_in s.core + key) ≡ new → slice_get after.words key ≡ Some (unwrap_or new 0)
  word key few None lost = gone key few lost (get s.short (list_in s.core + key)) refl
  word key few (Some a) kept =
      let was = h.words key few ∙ ap (λ o. Some (unwrap_or o 0)) (lawful.links.short (list_in s.core + key) a kept).0 in
      ⊎_elim
      (λ same. same ∙ was)
      (λ zero. ⊎_elim (λ lost. absurd (none-some a (sym lost.1 ∙ kept))) (λ lost. absurd (none-some lost.0.0 (sym (h.no_long (list_in s.core + key)) ∙ lost.0.1))) zero.1)
      (words_at key)

  none_long : (place : ℕ) (new : Option ℕ) → get t.long place ≡ new → new ≡ None
  none_long place None is = refl
  none_long place (Some a) is = absurd (none-some a (sym (h.no_long place) ∙ ((lawful.links.long place a).0 is).0))

  pub passed_whole : IsCache keys t.core
  unfolding after stands
  passed_whole = record {
    list = after;
    here = ap (λ l. get t.objects l) list_stays ∙ stands.1;
    size = same.2.size ∙ ap (λ (o : Object). length o.words) before_is ∙ h.size;
    words = λ key few. word key few (get t.short (list_in s.core + key)) refl ∙ ap (λ l. Some (unwrap_or (get t.short (l + key)) 0)) (sym list_stays);
    no_long = λ place. none_long place (get t.long place) refl;
  }

  pub passed_kept : (key a : ℕ) → cached_in t.core key ≡ Some a → cached_in s.core key ≡ Some a
  passed_kept key a is = (lawful.links.short (list_in s.core + key) a (ap (λ l. get t.short (l + key)) (sym list_stays) ∙ is)).0

  pub passed_reachable : (key a : ℕ) → key < keys → cached_in s.core key ≡ Some a → IsReachable s.core a → cached_in t.core key ≡ Some a
  passed_reachable key a few is reachable =
      ap (λ l. get t.short (l + key)) list_stays
      ∙ lawful.links.short_reachable (list_in s.core + key) a is reachable (list_in s.core, points_here keys s.core h apart key few, stands)

-- what a collection leaves: the cache is whole, what is cached was cached before, and what was reachable still is
pub record Collected (keys : ℕ) (c d : Core) : Type 0 where
  pub whole : IsCache keys d
  pub kept : (key a : ℕ) → cached_in d key ≡ Some a → cached_in c key ≡ Some a
  pub reachable : (key a : ℕ) → key < keys → cached_in c key ≡ Some a → IsReachable c a → cached_in d key ≡ Some a

module _ (apart : (s : State) → IsReached s → AreApart (extents s.objects)) (within : (s : State) → IsReached s → AreWithin s.blocks (extents s.objects)) (laws : (s : State) → IsReached s → EachPassIsLawful s) where
  pass_step : (keys : ℕ) (s t : State) (reply : Result Passed Refusal) → IsReached s → Step s (Make Collect) reply t → IsCache keys s.core → Collected keys s.core t.core
  pass_step keys s t (Err r) reached step h =
      subst (λ (u : State). Collected keys s.core u.core) (sym step.1) (record { whole = h; kept = λ key a is. is; reachable = λ key a few is _. is })
  pass_step keys s t (Ok passed) reached step h =
      let lawful = (laws s reached).collect passed t step in
      let frames = ap (λ (c : Core). c.frames) step.1.2.is in
      record {
        whole = passed_whole keys s t passed (apart s reached) (within s reached) lawful frames h;
        kept = passed_kept keys s t passed (apart s reached) (within s reached) lawful frames h;
        reachable = passed_reachable keys s t passed (apart s reached) (within s reached) lawful frames h;
      }

  pub pass_whole : (keys : ℕ) (old new : WorldView) (reply : Result Passed Refusal) → Does old (Make Collect) reply new → IsWhole keys old → IsWhole keys new
  unfolding Does
  pass_whole keys old new reply does w =
      let next = does.1 w.state w.stands in
      record { state = next.0; reached = reached_on w.state (Make Collect) reply next.0 w.reached next.1; stands = next.2; shown = does.0 ∙ w.shown; cache = (pass_step keys w.state next.0 reply w.reached next.1 w.cache).whole }

  pub pass_kept : (keys : ℕ) (cache : CacheView) (old new : WorldView) (reply : Result Passed Refusal) → record { keys = keys; world = old } ≡ cache → Does old (Make Collect) reply new → IsWhole keys old
      → Collected keys cache.world.core new.core
  unfolding Does
  pass_kept keys cache old new reply is does w =
      let next = does.1 w.state w.stands in
      subst (λ (c : Core). Collected keys c new.core) (sym w.stands.core ∙ ap (λ (c : CacheView). c.world.core) is)
      (subst (λ (d : Core). Collected keys w.state.core d) (sym next.2.core) (pass_step keys w.state next.0 reply w.reached next.1 w.cache))
