-- Definitions for the calls on links: the link at a place, what linking a word does, and the causes of refusal of a link's two ends and of two places, but for their slots.
-- code: fz_world/src/links.rt
use Rattle.std.specs.Prelude.{◌≡◌, ℕ, [], ◌∷◌, ◌++◌, if◌then◌else◌, Option, Result, IfOk, IfErr, OnOk, OnErr}
use Rattle.std.specs.Option.{IsNone}
use Rattle.std.specs.FinMap.{get, contains_key, insert}
use Rattle.fz_model.specs.declared.answers.LinkAnswer.{LinkAnswer}
use Rattle.fz_model.specs.declared.refusal.Refusal.{Refusal}
use Rattle.fz_model.specs.declared.refusal.Refusal.TheVariants.{NoMemory}
use Rattle.fz_model.specs.declared.kinds.LinkKind.{LinkKind}
use Rattle.fz_model.specs.declared.places.Place.{Place}
use Rattle.fz_model.specs.State.{Map, Object, Core}
use Rattle.fz_model.specs.Memory.{address_of}
use Rattle.fz_model.specs.Causes.{Causes, IsJudgedOrLacks, full, place_causes, start_causes}
use Rattle.fz_model.specs.Events.{links_of}

-- the target of the link at a place, if there is one
abbrev pub link_at : Core → LinkKind → Place → Option ℕ
link_at c which place = get (links_of c which) (address_of c.frames place)

-- what linking a word to a target returns, and the links of the kind afterwards
pub record LinksTo (old : Map ℕ) (word target : ℕ) (result : Result LinkAnswer Refusal) (new : Map ℕ) : Type 0 where
  pub judged : IsJudgedOrLacks (full old word ∷ []) result
  -- only a new link can run out of memory
  pub growth : IfErr result (λ r. r ≡ NoMemory → IsNone (get old word))
  pub unchanged : OnErr result (new ≡ old)
  pub answer : IfOk result (λ answer. answer ≡ (if contains_key old word then LinkAnswer.Duplicate else LinkAnswer.Success))
  pub linked : OnOk result (new ≡ insert old word target)

module _ (objects : Map Object) where
  -- the causes of a link's place, which is a word plus an offset, then of its target
  abbrev pub end_causes : ℕ → ℕ → ℕ → Causes
  end_causes word offset target = place_causes objects word offset ++ start_causes objects target

  -- the causes of two places
  abbrev pub two_place_causes : ℕ → ℕ → ℕ → ℕ → Causes
  two_place_causes word offset to to_offset = place_causes objects word offset ++ place_causes objects to to_offset
