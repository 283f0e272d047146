-- What a pass with ephemerons leaves alone.
use Rattle.std.proofs.Common.{◌≡◌, ℕ, ◌&&◌, not, Bool, true, false, List, Option, Some, None, is_some, refl, sym, ap, ◌∙◌, inl, IsTrue}
use Rattle.std.proofs.lemmas.Bool.{and_parts, and_from, not-true, cond-true}
use Rattle.std.proofs.lemmas.List.Elements.{All-contains}
use Rattle.std.specs.Option.{option_map_or}
use Rattle.std.specs.FinMap.{get, contains_key, retain_keys}
use Rattle.fz_model.specs.declared.answers.Entry.{Entry}
use Rattle.fz_model.specs.declared.answers.Pick.{Pick}
use Rattle.fz_model.specs.Memory.{points}
use Rattle.fz_model.specs.State.{Map, Object}
use Rattle.fz_model.specs.Pass.{cleared, is_dead}
use Rattle.fz_model.proofs.Maps.{get-retain}
use Rattle.fz_pass.specs.Decides.{Parts}
use Rattle.fz_pass.specs.Holds.{Ephemerons, Member}
use Rattle.fz_pass.specs.Places.{placed, is_held}
use Rattle.fz_pass.specs.Whole.{DecidesWhole, IsPickedThen, objects_judged}
use Rattle.fz_pass.specs.WholeLaws.{IsSafeWhole, WholePassesAreSafe}
use Rattle.fz_pass.proofs.Filling.{has_filled}
use Rattle.fz_pass.proofs.Safe.{alive, retained, unfilled}

module _ (place : ℕ → Option ℕ) (value : Map Object → ℕ → Option ℕ) (old : Parts) (ephemerons : Ephemerons) (late found : ℕ → Bool) (new : Parts) (new_ephemerons : Ephemerons) (queue new_queue : List Entry) (pass first : ℕ)
    (d : DecidesWhole ⊥ place value late pass first old ephemerons found new new_ephemerons queue new_queue) where
  abbrev short : Map ℕ
  short = placed place old.short

  abbrev long : Map ℕ
  long = placed place old.long

  abbrev keyed : Map ℕ
  keyed = placed place ephemerons.short

  abbrev long_keyed : Map ℕ
  long_keyed = placed place ephemerons.long

  abbrev begun : Map Object
  begun = cleared short found old.objects

  abbrev judged : Map Object
  judged = objects_judged place value old ephemerons found

  abbrev late_cleared : Map Object
  late_cleared = cleared long d.kept judged

  objects_are : new.objects ≡ retain_keys (cleared long_keyed d.kept late_cleared) d.kept
  objects_are = ap (λ (p : Parts). p.objects) d.is

  kept_of : (a : ℕ) → IsTrue (contains_key new.objects a) → IsTrue (d.kept a)
  kept_of a here = retained (cleared long_keyed d.kept late_cleared) d.kept a (sym (ap (λ (m : Map Object). contains_key m a) objects_are) ∙ here)

  still_held : (o : Option ℕ) → IsTrue (option_map_or (λ a. option_map_or (contains_key new.objects) (points old.objects a) false) o true) → IsTrue (option_map_or (λ a. option_map_or d.kept (points old.objects a) false) o true)
  still_held None h = h
  still_held (Some a) h = at (points old.objects a) h
    where
      at : (p : Option ℕ) → IsTrue (option_map_or (contains_key new.objects) p false) → IsTrue (option_map_or d.kept p false)
      at None h = h
      at (Some b) h = kept_of b h

  stays_in : (links : Map ℕ) (link target : ℕ) → get links link ≡ Some target → IsTrue (found target) → IsTrue (is_held place old.objects (contains_key new.objects) link)
      → get (retain_keys links (λ w. option_map_or found (get links w) false && is_held place old.objects d.kept w)) link ≡ Some target
  stays_in links link target here on stands =
      get-retain links _ link
      ∙ cond-true _ (get links link) None
      (and_from (option_map_or found (get links link) false) (is_held place old.objects d.kept link) (ap (λ o. option_map_or found o false) here ∙ on) (still_held (place link) stands))
      ∙ here

  pub is_safe : IsSafeWhole place old ephemerons found d.picks new new_ephemerons
  is_safe = record {
    unfound = λ p is_in.
        let picked = All-contains (IsPickedThen place value old ephemerons found late) d.picks p d.picked.each is_in in
        not-true (found p.obj) (and_parts (contains_key old.objects p.obj) (not (found p.obj)) picked.unreachable.outside).1;
    stays = λ a on here.
        let kept = d.keeps a (Member (inl on)) in
        ap (λ (m : Map Object). contains_key m a) objects_are ∙ ap is_some (get-retain (cleared long_keyed d.kept late_cleared) d.kept a ∙ cond-true (d.kept a) _ None kept)
        ∙ has_filled (is_dead late_cleared long_keyed d.kept) 0 late_cleared a ∙ has_filled (is_dead judged long d.kept) 0 judged a ∙ has_filled (is_dead begun keyed found) 0 begun a
        ∙ has_filled (is_dead old.objects short found) 0 old.objects a ∙ here;
    short = λ link target here on stands. ap (λ (p : Parts). get p.short link) d.is ∙ stays_in old.short link target here on stands;
    keyed = λ word key here on stands. ap (λ (e : Ephemerons). get e.short word) d.left ∙ stays_in ephemerons.short word key here on stands;
    same = λ a o here stands leads.
        let one = unfilled (is_dead old.objects short found) old.objects a o here (λ word low high. alive old.objects short found word (leads word low high).0) in
        let two = unfilled (is_dead begun keyed found) begun a o one (λ word low high. alive begun keyed found word (leads word low high).2) in
        let three = unfilled (is_dead judged long d.kept) judged a o two (λ word low high. alive judged long d.kept word (λ target is. kept_of target ((leads word low high).1 target is))) in
        let four = unfilled (is_dead late_cleared long_keyed d.kept) late_cleared a o three (λ word low high. alive late_cleared long_keyed d.kept word (λ target is. kept_of target ((leads word low high).3 target is))) in
        ap (λ (m : Map Object). get m a) objects_are ∙ get-retain (cleared long_keyed d.kept late_cleared) d.kept a ∙ cond-true (d.kept a) _ None (kept_of a stands) ∙ four;
  }

pub safe_whole : (place : ℕ → Option ℕ) (value : Map Object → ℕ → Option ℕ) (old : Parts) (ephemerons : Ephemerons) → WholePassesAreSafe place value old ephemerons
safe_whole place value old ephemerons late found new new_ephemerons queue new_queue pass first d = is_safe place value old ephemerons late found new new_ephemerons queue new_queue pass first d
