-- What a pass leaves alone.
use Rattle.std.proofs.Common.{◌≡◌, ℕ, ◌+◌, ◌<◌, ◌≤◌, ◌&&◌, not, Bool, true, false, cond, List, length, Option, Some, None, option_map, is_some, refl, sym, ap, ◌∙◌, IsTrue}
use Rattle.std.proofs.lemmas.Bool.{and_parts, and_from, not-true, true≢false, cond-true}
use Rattle.std.proofs.lemmas.List.Elements.{All-contains}
use Rattle.std.specs.Option.{option_map_or}
use Rattle.std.specs.FinMap.{get, contains_key, retain_keys}
use Rattle.fz_model.specs.declared.answers.Entry.{Entry}
use Rattle.fz_model.specs.declared.answers.Pick.{Pick}
use Rattle.fz_model.specs.Memory.{points, filled}
use Rattle.fz_model.specs.State.{Map, Object}
use Rattle.fz_model.specs.Pass.{IsPicked, FoundItself, cleared, is_dead, is_outside}
use Rattle.fz_model.proofs.Maps.{get-retain, get-mapped, filling}
use Rattle.fz_pass.specs.Decides.{Parts}
use Rattle.fz_pass.specs.Flagged.{IsLast, DecidesFlagged}
use Rattle.fz_pass.specs.Places.{placed, is_held}
use Rattle.fz_pass.specs.Safe.{LeadsTo, IsSafe, PassesAreSafe}
use Rattle.fz_pass.proofs.Filling.{fill_never, has_filled}

-- no link of the word is dead
pub alive : (objects : Map Object) (links : Map ℕ) (set : ℕ → Bool) (word : ℕ) → LeadsTo links word set → is_dead objects links set word ≡ false
alive objects links set word leads = at (get links word) refl
  where
    none : (a b : Bool) → b ≡ true → (a && not b) ≡ false
    none true true on = refl
    none false true on = refl
    none a false on = absurd (true≢false (sym on))

    at : (o : Option ℕ) → get links word ≡ o → option_map_or (is_outside objects set) o false ≡ false
    at None here = refl
    at (Some target) here = none (contains_key objects target) (set target) (leads target here)

-- an object whose words are all left alone
pub unfilled : (test : ℕ → Bool) (objects : Map Object) (a : ℕ) (o : Object) → get objects a ≡ Some o → ((word : ℕ) → a ≤ word → word < a + length o.words → test word ≡ false) → get (filled test 0 objects) a ≡ Some o
unfilled test objects a o here never = get-mapped (filling test 0) objects a ∙ ap (option_map (filling test 0 a)) here ∙ ap (λ ws. Some (record o { words = ws })) (fill_never test 0 a o.words never)

pub retained : {X : Type 0} (m : Map X) (test : ℕ → Bool) (a : ℕ) → IsTrue (contains_key (retain_keys m test) a) → IsTrue (test a)
retained m test a here = at (test a) (get m a) (sym (ap is_some (get-retain m test a)) ∙ here)
  where
    at : {X : Type 0} (b : Bool) (o : Option X) → is_some (cond b o None) ≡ true → b ≡ true
    at true o on = refl
    at false o on = absurd (true≢false (sym on))

module _ (place : ℕ → Option ℕ) (old : Parts) (late found : ℕ → Bool) (new : Parts) (queue new_queue : List Entry) (pass first : ℕ) (d : DecidesFlagged ⊥ place late pass first old found new queue new_queue) where
  abbrev short : Map ℕ
  short = placed place old.short

  abbrev long : Map ℕ
  long = placed place old.long

  abbrev clear : Map Object
  clear = cleared short found old.objects

  objects_are : new.objects ≡ retain_keys (cleared long d.kept clear) d.kept
  objects_are = ap (λ (p : Parts). p.objects) d.is

  kept_of : (a : ℕ) → IsTrue (contains_key new.objects a) → IsTrue (d.kept a)
  kept_of a here = retained (cleared long d.kept clear) d.kept a (sym (ap (λ (m : Map Object). contains_key m a) objects_are) ∙ here)

  still_held : (o : Option ℕ) → IsTrue (option_map_or (λ a. option_map_or (contains_key new.objects) (points old.objects a) false) o true) → IsTrue (option_map_or (λ a. option_map_or d.kept (points old.objects a) false) o true)
  still_held None h = h
  still_held (Some a) h = at (points old.objects a) h
    where
      at : (p : Option ℕ) → IsTrue (option_map_or (contains_key new.objects) p false) → IsTrue (option_map_or d.kept p false)
      at None h = h
      at (Some b) h = kept_of b h

  outside : (p : Pick) → IsPicked old.objects old.registrations short found p → found p.obj ≡ false
  outside p is = not-true (found p.obj) (and_parts (contains_key old.objects p.obj) (not (found p.obj)) is.unreachable.outside).1

  pub is_safe : IsSafe place old found d.picks new
  is_safe = record {
    unfound = λ p is_in. outside p (All-contains (λ (p : Pick). IsPicked old.objects old.registrations short found p × (IsTrue (late p.obj) → IsLast place old found p.obj)) d.picks p d.picked.each is_in).0;
    stays = λ a on here.
        let kept = d.keeps a (FoundItself on) in
        ap (λ (m : Map Object). contains_key m a) objects_are ∙ ap is_some (get-retain (cleared long d.kept clear) d.kept a ∙ cond-true (d.kept a) _ None kept)
        ∙ has_filled (is_dead clear long d.kept) 0 clear a ∙ has_filled (is_dead old.objects short found) 0 old.objects a ∙ here;
    short = λ link target here on stands.
        ap (λ (p : Parts). get p.short link) d.is ∙ get-retain old.short _ link
        ∙ cond-true _ (get old.short link) None
        (and_from (option_map_or found (get old.short link) false) (is_held place old.objects d.kept link) (ap (λ o. option_map_or found o false) here ∙ on) (still_held (place link) stands))
        ∙ here;
    same = λ a o here stands leads.
        ap (λ (m : Map Object). get m a) objects_are ∙ get-retain (cleared long d.kept clear) d.kept a ∙ cond-true (d.kept a) _ None (kept_of a stands)
        ∙ unfilled (is_dead clear long d.kept) clear a o
        (unfilled (is_dead old.objects short found) old.objects a o here (λ word low high. alive old.objects short found word (leads word low high).0))
        (λ word low high. alive clear long d.kept word (λ target is. kept_of target ((leads word low high).1 target is)));
  }

pub safe : (place : ℕ → Option ℕ) (old : Parts) → PassesAreSafe place old
safe place old late found new queue new_queue pass first d = is_safe place old late found new queue new_queue pass first d
