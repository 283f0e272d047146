-- A cache that opens.
use Rattle.std.proofs.Common.{◌≡◌, ℕ, zero, suc, ◌+◌, ◌<◌, Some, None, Ok, refl, ap, ◌∙◌, subst, sym, arith, replicate, unwrap_or, slice_get}
use Rattle.std.proofs.lemmas.List.{length-replicate}
use Rattle.std.specs.FinMap.{get, insert, get-empty}
use Rattle.std.specs.Ordering.{nat_cmp}
use Rattle.fz_model.specs.declared.kinds.ObjKind.TheVariants.{Atomic}
use Rattle.fz_model.specs.State.{Core, State, opening}
use Rattle.fz_model.specs.Memory.{new_object, with_slot}
use Rattle.fz_model.specs.declared.call.Call.TheVariants.{Alloc}
use Rattle.fz_model.specs.Places.{slot_at}
use Rattle.fz_model.specs.Events.{Make}
use Rattle.fz_model.specs.Steps.{NoStep}
use Rattle.fz_model.proofs.Maps.{get-insert_same}
use Rattle.fz_world.specs.World.{WorldView}
use Rattle.fz_world.specs.Does.{Does, StandsFor}
use Rattle.weak_cache.specs.declared.cache.TheConstants.{LIST}
use Rattle.weak_cache.specs.Cached.{cached_in, IsCache, IsWhole}
use Rattle.weak_cache.proofs.Keeping.{reached_on}

zero_at : (n k : ℕ) → k < n → slice_get {X = ℕ} (replicate n 0) k ≡ Some 0
zero_at zero k few = absurd (omega (arith, few))
zero_at (suc n) zero few = refl
zero_at (suc n) (suc k) few = zero_at n k (omega (arith, few))

-- the cache is whole, and empty
pub record IsOpened (keys : ℕ) (world : WorldView) : Type 0 where
  pub whole : IsWhole keys world
  pub empty : (key : ℕ) → cached_in world.core key ≡ None

pub opened : (blocks keys : ℕ) (old new : WorldView) (a birth : ℕ) → StandsFor old (opening blocks 1) → old.forgotten ≡ 0 → Does old (Make (Alloc (slot_at 0 LIST) keys Atomic)) (Ok (a, birth)) new → IsOpened keys new
unfolding Does
opened blocks keys old new a birth stands shown does =
    let s : State = opening blocks 1 in
    let next = does.1 s stands in
    let at = next.1.1 in
    let start : ℕ = at.0 in
    let made = new_object Atomic 0 keys in
    let c : Core = record s.core { objects = insert s.objects start made; next_birth = s.next_birth + 1; frames = with_slot s.frames (slot_at 0 LIST) start } in
    let none : (place : ℕ) → get {X = ℕ} {R = nat_cmp} s.short place ≡ None = get-empty nat_cmp in
    let whole : IsCache keys c = record {
      list = made;
      here = get-insert_same s.objects start made;
      size = length-replicate keys 0;
      words = λ key few. zero_at keys key few ∙ ap (λ o. Some (unwrap_or o 0)) (sym (none (start + key)));
      no_long = none;
    } in
    record {
      whole = record {
        state = next.0;
        reached = reached_on s (Make (Alloc (slot_at 0 LIST) keys Atomic)) (Ok (a, birth)) next.0 (blocks, 1, NoStep) next.1;
        stands = next.2;
        shown = does.0 ∙ shown;
        cache = subst (IsCache keys) (sym at.3) whole;
      };
      empty = λ key. ap (λ (d : Core). cached_in d key) (next.2.core ∙ at.3) ∙ none (start + key);
    }
