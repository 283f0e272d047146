-- Which word of an object a link denotes. A host numbers its links as it likes: `place` is the word that a number denotes, or none.
-- code: fz_pass/src/host.rt, clearing.rt, dropping.rt
use Rattle.std.specs.Prelude.{◌≡◌, ℕ, Bool, true, false, ◌&&◌, List, [], ◌∷◌, Option, Some}
use Rattle.std.specs.Option.{option_map_or}
use Rattle.std.specs.FinMap.{get, entries, from_entries, retain_keys}
use Rattle.fz_model.specs.Memory.{points, written}
use Rattle.fz_model.specs.State.{Map, Object}

module _ (place : ℕ → Option ℕ) where
  -- no two links denote one word
  abbrev pub StandApart : Type 0
  StandApart = (v w a : ℕ) → place v ≡ Some a → place w ≡ Some a → v ≡ w

  abbrev pub placed_entries : List (ℕ × ℕ) → List (ℕ × ℕ)
  placed_entries [] = []
  placed_entries (e ∷ es) = option_map_or (λ a. (a, e.1) ∷ placed_entries es) (place e.0) (placed_entries es)

  -- the links that denote words, by these words
  abbrev pub placed : Map ℕ → Map ℕ
  placed links = from_entries (placed_entries (entries links))

  -- the objects, with the word of a link set to zero
  abbrev pub written_at : ℕ → Map Object → Map Object
  written_at link objects = option_map_or (λ a. written a 0 objects) (place link) objects

  -- whether the object that contains the word of a link is in the set; a link that denotes no word is held
  abbrev pub is_held : Map Object → (ℕ → Bool) → ℕ → Bool
  is_held objects set link = option_map_or (λ a. option_map_or set (points objects a) false) (place link) true

  -- the links whose targets are in one set, and which are held by another
  abbrev pub links_held : Map Object → Map ℕ → (ℕ → Bool) → (ℕ → Bool) → Map ℕ
  links_held objects links targets containers = retain_keys links (λ link. option_map_or targets (get links link) false && is_held objects containers link)
