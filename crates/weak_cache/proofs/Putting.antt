-- What a link and a store leave of the cache.
use Rattle.std.proofs.Common.{◌≡◌, ◌≢◌, ℕ, zero, suc, ◌+◌, ◌<◌, ◌==◌, ⊎_elim, Bool, true, false, true≢false, cond, List, [], ◌∷◌, ◌++◌, length, Some, None, Result, Ok, Err, refl, sym, ap, ◌∙◌, subst, arith, add-zero, unwrap_or, slice_get, OnOk}
use Rattle.std.proofs.lemmas.Bool.{cases_Bool, cond-true, cond-false, eqb-true, eq-eqb}
use Rattle.std.proofs.lemmas.Option.{none-some}
use Rattle.std.specs.FinMap.{get, insert}
use Rattle.fz_model.specs.declared.kinds.LinkKind.TheVariants.{Short}
use Rattle.fz_model.specs.declared.answers.LinkAnswer.{LinkAnswer}
use Rattle.fz_model.specs.declared.refusal.Refusal.{Refusal}
use Rattle.fz_model.specs.State.{Map, Core, State}
use Rattle.fz_model.specs.declared.refusal.Refusal.TheVariants.{BadSlot}
use Rattle.fz_model.specs.Extents.{extents}
use Rattle.fz_model.specs.Memory.{fill, written, slot_word, lacks_slot}
use Rattle.fz_model.specs.Causes.{Causes, first_cause, no_extent, other_extent, start_causes, full}
use Rattle.fz_model.specs.declared.call.Call.TheVariants.{Link, Store}
use Rattle.fz_model.specs.Places.{slot_at, place_at}
use Rattle.fz_model.specs.Events.{Make, causes}
use Rattle.fz_model.specs.Steps.{Step}
use Rattle.fz_model.proofs.Maps.{filled_here, length-fill, get-insert_same, get-insert_other}
use Rattle.fz_model.proofs.Sound.{first_none}
use Rattle.fz_world.specs.World.{WorldView}
use Rattle.fz_world.specs.Does.{Does}
use Rattle.weak_cache.specs.declared.cache.TheConstants.{LIST, HAND}
use Rattle.weak_cache.specs.Cached.{CacheView, list_in, cached_in, in_hand, IsCache, IsWhole, Puts}
use Rattle.weak_cache.proofs.Keeping.{reached_on}

-- ---- words that are filled in

fill_on : (test : ℕ → Bool) (value a : ℕ) (ws : List ℕ) (k : ℕ) → k < length ws → test (a + k) ≡ true → slice_get (fill test value a ws) k ≡ Some value
fill_on test value a [] k few on = absurd (omega (arith, few))
fill_on test value a (w ∷ ws) zero few on = ap Some (cond-true (test a) value w (subst (λ x. test x ≡ true) (add-zero a) on))
fill_on test value a (w ∷ ws) (suc k) few on =
    let next : a + suc k ≡ (a + 1) + k = omega arith in
    fill_on test value (a + 1) ws k (omega (arith, few)) (subst (λ x. test x ≡ true) next on)

fill_off : (test : ℕ → Bool) (value a : ℕ) (ws : List ℕ) (k : ℕ) → test (a + k) ≡ false → slice_get (fill test value a ws) k ≡ slice_get ws k
fill_off test value a [] k off = refl
fill_off test value a (w ∷ ws) zero off = ap Some (cond-false (test a) value w (subst (λ x. test x ≡ false) (add-zero a) off))
fill_off test value a (w ∷ ws) (suc k) off =
    let next : a + suc k ≡ (a + 1) + k = omega arith in
    fill_off test value (a + 1) ws k (subst (λ x. test x ≡ false) next off)

-- ---- the store after the link

none_from : (cause : Bool × Refusal) (rest : Causes) → cause.0 ≡ false → first_cause rest ≡ None → first_cause (cause ∷ rest) ≡ None
none_from cause rest is none = ap (λ b. cond b (Some cause.1) (first_cause rest)) is ∙ none

-- where the link is accepted, the store is
store_fits : (c : Core) (key : ℕ) (links : Map ℕ) → first_cause (causes c (Make (Link Short (place_at 0 LIST key) (slot_at 0 HAND)))) ≡ None → first_cause (causes (record c { short = links }) (Make (Store (place_at 0 LIST key) (slot_at 0 HAND)))) ≡ None
store_fits c key links none =
    let all = extents c.objects in
    let word : ℕ = slot_word c.frames (slot_at 0 LIST) in
    let list : Bool × Refusal = (lacks_slot c.frames (slot_at 0 LIST), BadSlot) in
    let hand : Bool × Refusal = (lacks_slot c.frames (slot_at 0 HAND), BadSlot) in
    let object : Bool × Refusal = no_extent all word in
    let outside : Bool × Refusal = other_extent all word (word + key) in
    let rest : Causes = start_causes c.objects (slot_word c.frames (slot_at 0 HAND)) ++ full c.short (word + key) ∷ [] in
    let first = first_none list (hand ∷ object ∷ outside ∷ rest) none in
    let second = first_none hand (object ∷ outside ∷ rest) first.1 in
    let third = first_none object (outside ∷ rest) second.1 in
    let fourth = first_none outside rest third.1 in
    none_from list (hand ∷ object ∷ outside ∷ []) first.0 (none_from hand (object ∷ outside ∷ []) second.0 (none_from object (outside ∷ []) third.0 (none_from outside [] fourth.0 refl)))

-- so it is in the world that the link leaves
pub store_stands : (keys : ℕ) (old mid : WorldView) (key : ℕ) (answer : LinkAnswer) → Does old (Make (Link Short (place_at 0 LIST key) (slot_at 0 HAND))) (Ok answer) mid → IsWhole keys old → first_cause (causes mid.core (Make (Store (place_at 0 LIST key) (slot_at 0 HAND)))) ≡ None
unfolding Does
store_stands keys old mid key answer link w =
    let s : State = w.state in
    let first = link.1 s w.stands in
    subst (λ (c : Core). first_cause (causes c (Make (Store (place_at 0 LIST key) (slot_at 0 HAND)))) ≡ None) (sym (first.2.core ∙ first.1.1.1))
    (store_fits s.core key (insert s.short (list_in s.core + key) (slot_word s.frames (slot_at 0 HAND))) first.1.0)

-- the core with the link and the word
abbrev pub with_put : Core → ℕ → Core
with_put c key =
    let place = list_in c + key in
    let target = slot_word c.frames (slot_at 0 HAND) in
    record c { short = insert c.short place target; objects = written place target c.objects }

put_whole : (keys : ℕ) (c : Core) (key : ℕ) → IsCache keys c → IsCache keys (with_put c key)
unfolding written
put_whole keys c key h =
    let place = list_in c + key in
    let target = slot_word c.frames (slot_at 0 HAND) in
    let test : ℕ → Bool = λ a. a == place in
    let size = h.size in
    record {
      list = record h.list { words = fill test target (list_in c) h.list.words };
      here = filled_here test target c.objects (list_in c) h.list h.here;
      size = length-fill test target (list_in c) h.list.words ∙ h.size;
      words = λ k few.
          ⊎_elim
          (λ on.
          let here = eqb-true (list_in c + k) place on in
          fill_on test target (list_in c) h.list.words k (omega (arith, few, size)) on
          ∙ sym (ap (λ o. Some (unwrap_or o 0)) (ap (λ a. get (insert c.short place target) a) here ∙ get-insert_same c.short place target)))
          (λ off.
          let other : list_in c + k ≢ place = λ same. true≢false (sym (eq-eqb (list_in c + k) place same) ∙ off) in
          fill_off test target (list_in c) h.list.words k off
          ∙ h.words k few
          ∙ ap (λ o. Some (unwrap_or o 0)) (sym (get-insert_other c.short place target (list_in c + k) other)))
          (cases_Bool (test (list_in c + k)));
      no_long = h.no_long;
    }

-- both steps together
both : (s t u : State) (key : ℕ) (answer : LinkAnswer) (reply : Result (Unit {0}) Refusal) → Step s (Make (Link Short (place_at 0 LIST key) (slot_at 0 HAND))) (Ok answer) t → Step t (Make (Store (place_at 0 LIST key) (slot_at 0 HAND))) reply u → u.core ≡ with_put s.core key
both s t u key answer (Ok done) link store = store.1 ∙ ap (λ (c : Core). record c { objects = written (list_in c + key) (slot_word c.frames (slot_at 0 HAND)) c.objects }) link.1.1
both s t u key answer (Err r) link store =
    let fits = subst (λ (c : Core). first_cause (causes c (Make (Store (place_at 0 LIST key) (slot_at 0 HAND)))) ≡ None) (sym link.1.1) (store_fits s.core key (insert s.short (list_in s.core + key) (slot_word s.frames (slot_at 0 HAND))) link.0) in
    ⊎_elim (λ cause. absurd (none-some r (sym fits ∙ cause))) (λ lacks. absurd (true≢false (sym lacks.2))) store.0

pub record IsPut (keys : ℕ) (old new : WorldView) (key : ℕ) : Type 0 where
  pub whole : IsWhole keys new
  pub is : new.core ≡ with_put old.core key

pub puts : (keys : ℕ) (old mid new : WorldView) (key : ℕ) (answer : LinkAnswer) (reply : Result (Unit {0}) Refusal) → Does old (Make (Link Short (place_at 0 LIST key) (slot_at 0 HAND))) (Ok answer) mid → Does mid (Make (Store (place_at 0 LIST key) (slot_at 0 HAND))) reply new → IsWhole keys old → IsPut keys old new key
unfolding Does
puts keys old mid new key answer reply link store w =
    let s : State = w.state in
    let first = link.1 s w.stands in
    let last = store.1 first.0 first.2 in
    let is = both s first.0 last.0 key answer reply first.1 last.1 in
    record {
      whole = record {
        state = last.0;
        reached = reached_on first.0 (Make (Store (place_at 0 LIST key) (slot_at 0 HAND))) reply last.0 (reached_on s (Make (Link Short (place_at 0 LIST key) (slot_at 0 HAND))) (Ok answer) first.0 w.reached first.1) last.1;
        stands = last.2;
        shown = store.0 ∙ link.0 ∙ w.shown;
        cache = subst (IsCache keys) (sym is) (put_whole keys s.core key w.cache);
      };
      is = last.2.core ∙ is ∙ ap (λ (c : Core). with_put c key) (sym w.stands.core);
    }

module _ (keys : ℕ) (cache : CacheView) (old new : WorldView) (key : ℕ) (first : record { keys = keys; world = old } ≡ cache) (put : IsPut keys old new key) where
  put_is : new.core ≡ with_put cache.world.core key
  put_is = put.is ∙ ap (λ (c : CacheView). with_put c.world.core key) first

  pub now_cached : cached_in new.core key ≡ Some (in_hand cache)
  now_cached =
      let c : Core = cache.world.core in
      ap (λ (d : Core). cached_in d key) put_is ∙ get-insert_same c.short (list_in c + key) (slot_word c.frames (slot_at 0 HAND))

  pub others_same : (other : ℕ) → other ≢ key → cached_in new.core other ≡ cached_in cache.world.core other
  others_same other ne =
      let c : Core = cache.world.core in
      let apart : list_in c + other ≢ list_in c + key = λ same. ne (omega (arith, same)) in
      ap (λ (d : Core). cached_in d other) put_is ∙ get-insert_other c.short (list_in c + key) (slot_word c.frames (slot_at 0 HAND)) (list_in c + other) apart

-- a refused link changes nothing
pub refused_whole : (keys : ℕ) (old new : WorldView) → new ≡ old → IsWhole keys old → IsWhole keys new
refused_whole keys old new is w = subst (IsWhole keys) (sym is) w

-- both calls
pub is_put : (old mid new : WorldView) (key : ℕ) (answer : LinkAnswer) (reply : Result (Unit {0}) Refusal) → Does old (Make (Link Short (place_at 0 LIST key) (slot_at 0 HAND))) (Ok answer) mid → Does mid (Make (Store (place_at 0 LIST key) (slot_at 0 HAND))) reply new → OnOk reply (Puts old key new)
is_put old mid new key answer (Ok done) link store = (mid, answer, link, store)
is_put old mid new key answer (Err r) link store = tt

pub on_ok : {T E P : Type 0} (r : Result T E) → P → OnOk r P
on_ok (Ok x) p = p
on_ok (Err e) p = tt
