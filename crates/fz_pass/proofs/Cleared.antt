-- The words of dead links, cleared one after another.
use Rattle.std.proofs.Common.{◌≡◌, ℕ, ◌||◌, ◌&&◌, ◌++◌, Bool, true, false, List, [], ◌∷◌, Option, Some, None, not, nat_eq, refl, sym, ap, ◌∙◌, Contains, append-nil}
use Rattle.std.proofs.lemmas.Bool.{and_from}
use Rattle.std.specs.List.{IsDistinct}
use Rattle.std.specs.Option.{option_map_or}
use Rattle.std.specs.Map.{keys_of}
use Rattle.std.specs.FinMap.{from_entries, contains_key}
use Rattle.fz_model.specs.State.{Map, Object}
use Rattle.fz_model.specs.Memory.{filled, written}
use Rattle.fz_model.specs.Pass.{is_outside, cleared}
use Rattle.fz_model.proofs.KeyedEntries.{got}
use Rattle.fz_pass.specs.Marks.{AreTargets}
use Rattle.fz_pass.specs.Places.{StandApart, placed_entries, placed}
use Rattle.fz_pass.proofs.Filling.{filled_twice, filled_same, filled_never, has_filled, written_is}
use Rattle.fz_pass.proofs.Dead.{is_dead_in, any_push, dead_links}
use Rattle.fz_pass.proofs.Placing.{placed_push, placed_made, distinct_placed}

-- the words of the dead links so far are zero
abbrev pub cleared_in : Map Object → (ℕ → Bool) → List (ℕ × ℕ) → Map Object
cleared_in objects set es = filled (is_dead_in objects set es) 0 objects

-- the word of one link is, if the link is dead and denotes the word
abbrev pub cleared_word : Map Object → (ℕ → Bool) → ℕ → ℕ → Map Object
cleared_word objects set word target = filled (λ a. nat_eq a word && is_outside objects set target) 0 objects

abbrev pub cleared_one : Map Object → (ℕ → Bool) → Option ℕ → ℕ → Map Object
cleared_one objects set word target = option_map_or (λ w. cleared_word objects set w target) word objects

and_false : (b : Bool) → (b && false) ≡ false
and_false true = refl
and_false false = refl

pub and_true : (b : Bool) → (b && true) ≡ b
and_true true = refl
and_true false = refl

module _ (objects : Map Object) (set : ℕ → Bool) where
  pub cleared_none : objects ≡ cleared_in objects set []
  cleared_none = sym (filled_never (λ a. false) 0 objects (λ a. refl))

  word_more : (now new : Map Object) (es : List (ℕ × ℕ)) (e : ℕ × ℕ) → now ≡ cleared_in objects set es → new ≡ cleared_word now set e.0 e.1 → new ≡ cleared_in objects set (es ++ e ∷ [])
  word_more now new es e now_is new_is =
      new_is ∙ ap (λ (m : Map Object). cleared_word m set e.0 e.1) now_is
      ∙ (filled_twice _ _ 0 objects
      ∙ filled_same _ _ 0 objects
      (λ a. ap (λ b. is_dead_in objects set es a || (nat_eq a e.0 && (b && not (set e.1)))) (has_filled (is_dead_in objects set es) 0 objects e.1)
      ∙ sym (any_push (λ f. nat_eq a f.0 && is_outside objects set f.1) es e)))

  pub cleared_more : (place : ℕ → Option ℕ) (now new : Map Object) (es : List (ℕ × ℕ)) (e : ℕ × ℕ) → now ≡ cleared_in objects set (placed_entries place es) → new ≡ cleared_one now set (place e.0) e.1
      → new ≡ cleared_in objects set (placed_entries place (es ++ e ∷ []))
  cleared_more place now new es e now_is new_is = by (place e.0) new_is ∙ ap (cleared_in objects set) (sym (placed_push place es e))
    where
      by : (o : Option ℕ) → new ≡ cleared_one now set o e.1 → new ≡ cleared_in objects set (placed_entries place es ++ option_map_or (λ a. (a, e.1) ∷ []) o [])
      by None same = same ∙ now_is ∙ ap (cleared_in objects set) (sym (append-nil (placed_entries place es)))
      by (Some a) is = word_more now new (placed_entries place es) (a, e.1) now_is is

  words_all : (es : List (ℕ × ℕ)) → IsDistinct nat_eq (keys_of es) → cleared_in objects set es ≡ cleared (from_entries es) set objects
  words_all es once = filled_same _ _ 0 objects (λ a. dead_links objects set es a once)

  pub cleared_all : (place : ℕ → Option ℕ) → StandApart place → (es : List (ℕ × ℕ)) → IsDistinct nat_eq (keys_of es) → cleared_in objects set (placed_entries place es) ≡ cleared (placed place (from_entries es)) set objects
  cleared_all place apart es once = words_all (placed_entries place es) (distinct_placed place apart es once) ∙ ap (λ (m : Map ℕ). cleared m set objects) (placed_made place apart es)

  -- one link
  pub cleared_live : (word : Option ℕ) (target : ℕ) → set target ≡ true → objects ≡ cleared_one objects set word target
  cleared_live None target live = refl
  cleared_live (Some link) target live = sym (filled_never _ 0 objects (λ a. ap (λ b. nat_eq a link && (contains_key objects target && not b)) live ∙ ap (λ b. nat_eq a link && b) (and_false (contains_key objects target)) ∙ and_false (nat_eq a link)))

  pub cleared_dead : (word : Option ℕ) (target : ℕ) → contains_key objects target ≡ true → set target ≡ false → option_map_or (λ a. written a 0 objects) word objects ≡ cleared_one objects set word target
  cleared_dead None target here dead = refl
  cleared_dead (Some link) target here dead = written_is link 0 objects ∙ filled_same _ _ 0 objects (λ a. sym (ap (λ b. nat_eq a link && b) (and_from (contains_key objects target) (not (set target)) here (ap not dead)) ∙ and_true (nat_eq a link)))

  -- the targets are there still
  pub still_there : (es : List (ℕ × ℕ)) (now : Map Object) (target : ℕ) → now ≡ cleared_in objects set es → contains_key objects target ≡ true → contains_key now target ≡ true
  still_there es now target is here = ap (λ (m : Map Object). contains_key m target) is ∙ has_filled (is_dead_in objects set es) 0 objects target ∙ here

  -- an entry's target is
  pub target_there : (es : List (ℕ × ℕ)) (e : ℕ × ℕ) → IsDistinct nat_eq (keys_of es) → AreTargets objects (from_entries es) → Contains es e → contains_key objects e.1 ≡ true
  target_there es e once targets is_in = targets e.0 e.1 (got es e.0 e.1 once is_in)
