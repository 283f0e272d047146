-- What is read under a key.
use Rattle.std.proofs.Common.{◌≡◌, ◌≢◌, ℕ, ◌+◌, ◌-◌, ◌<◌, Option, Some, None, Ok, refl, sym, ap, ◌∙◌, subst, arith, unwrap_or, option_map, option_and_then, slice_index}
use Rattle.std.proofs.lemmas.Option.{get_or_from_slice_get}
use Rattle.std.specs.FinMap.{get}
use Rattle.fz_model.specs.State.{Object, Core, State}
use Rattle.fz_model.specs.Extents.{extents, extent_of, AreApart, AreWithin}
use Rattle.fz_model.specs.Memory.{word_at}
use Rattle.fz_model.specs.declared.call.Call.TheVariants.{Load}
use Rattle.fz_model.specs.Places.{slot_at, place_at}
use Rattle.fz_model.specs.Events.{Make}
use Rattle.fz_model.specs.Steps.{IsReached}
use Rattle.fz_model.specs.CallLaws.{Stands, LinksStand}
use Rattle.fz_model.proofs.Standing.{get_extent}
use Rattle.fz_world.specs.World.{WorldView}
use Rattle.fz_world.specs.Does.{Does}
use Rattle.weak_cache.specs.declared.cache.TheConstants.{LIST, HAND}
use Rattle.weak_cache.specs.Cached.{CacheView, list_in, cached_in, IsCache, IsWhole}
use Rattle.weak_cache.proofs.Passing.{points_here}

-- the word under a key is what is cached there, or zero
read : (keys : ℕ) (c : Core) (h : IsCache keys c) → AreApart (extents c.objects) → (key : ℕ) → key < keys → word_at c.objects (list_in c + key) ≡ unwrap_or (cached_in c key) 0
read keys c h apart key few =
    let start = list_in c in
    let back : start + key - start ≡ key = omega arith in
    ap (λ p. unwrap_or (option_and_then (λ a. option_map (λ (o : Object). slice_index o.words (start + key - a)) (get c.objects a)) p) 0) (points_here keys c h apart key few)
    ∙ ap (λ o. unwrap_or (option_map (λ (o : Object). slice_index o.words (start + key - start)) o) 0) h.here
    ∙ ap (λ k. slice_index h.list.words k) back
    ∙ get_or_from_slice_get h.list.words key (unwrap_or (cached_in c key) 0) 0 (h.words key few)

-- what a word under a key tells
pub record IsFound (c : Core) (key word : ℕ) : Type 0 where
  pub none : word ≡ 0 → None ≡ cached_in c key
  pub some : word ≢ 0 → Some word ≡ cached_in c key
  pub stands : word ≢ 0 → Stands c.objects word

found : (c : Core) (key word : ℕ) → AreWithin c.blocks (extents c.objects) → LinksStand c.objects c.short → (o : Option ℕ) → cached_in c key ≡ o → word ≡ unwrap_or o 0 → IsFound c key word
found c key word within links None is empty = record { none = λ _. sym is; some = λ ne. absurd (ne empty); stands = λ ne. absurd (ne empty) }
found c key word within links (Some a) is same =
    let target = (links (list_in c + key) a is).0 in
    let bounds = within a (extent_of target.0) (get_extent c.objects a target.0 target.1) in
    let low = bounds.0 in
    record {
      none = λ zero. absurd (omega (arith, zero, same, low));
      some = λ _. ap Some same ∙ sym is;
      stands = λ _. subst (Stands c.objects) (sym same) target;
    }

module _ (apart : (s : State) → IsReached s → AreApart (extents s.objects)) (within : (s : State) → IsReached s → AreWithin s.blocks (extents s.objects)) (links : (s : State) → IsReached s → LinksStand s.objects s.short) where
  pub got : (keys : ℕ) (cache : CacheView) (old new : WorldView) (key word : ℕ) → record { keys = keys; world = old } ≡ cache → key < cache.keys → Does old (Make (Load (place_at 0 LIST key) (slot_at 0 HAND))) (Ok word) new → IsWhole keys old → IsFound cache.world.core key word
  unfolding Does
  got keys cache old new key word is few does w =
      let s : State = w.state in
      let next = does.1 s w.stands in
      let within_keys : key < keys = subst (λ n. key < n) (sym (ap (λ (c : CacheView). c.keys) is)) few in
      let same = next.1.1.0 ∙ read keys s.core w.cache (apart s w.reached) key within_keys in
      subst (λ (c : Core). IsFound c key word) (sym w.stands.core ∙ ap (λ (c : CacheView). c.world.core) is)
      (found s.core key word (within s w.reached) (links s w.reached) (cached_in s.core key) refl same)
