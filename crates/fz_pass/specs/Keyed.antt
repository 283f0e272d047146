-- The model of a table of ephemerons, and how it changes. Each word has at most one ephemeron.
-- code: fz_pass/src/ephemerons.rt
use Rattle.std.specs.Prelude.{◌≡◌, ◌+◌, ◌≤◌, ◌||◌, ◌==◌, ℕ, Bool, if◌then◌else◌, List, [], Option, None, Some, refl}
use Rattle.std.specs.Coded.{Coded, code_by, coded×, coded_ℕ}
use Rattle.std.specs.FinMap as map
use Rattle.std.specs.FinMap.{get, insert, remove, len, contains_key}
use Rattle.fz_model.specs.declared.answers.MoveAnswer.{MoveAnswer}
use Rattle.fz_model.specs.declared.answers.MoveAnswer.TheVariants.{Success, Duplicate, NotFound}
use Rattle.fz_model.specs.declared.kinds.LinkKind.{LinkKind}
use Rattle.fz_model.specs.declared.kinds.LinkKind.TheVariants.{Short, Long}
use Rattle.fz_model.specs.State.{Map}
use Rattle.fz_model.specs.Steps.{moved_to}
use Rattle.fz_pass.specs.Holds.{Ephemerons}

pub record Keyed : Type 0 where
  pub ephemerons : Ephemerons
  pub open ephemerons use *

abbrev pub keyed_code : Coded Keyed
keyed_code =
    code_by (Map ℕ × Map ℕ) (coded× (map.code coded_ℕ coded_ℕ) (map.code coded_ℕ coded_ℕ)) (λ k. (k.ephemerons.short, k.ephemerons.long))
    (λ p. record { ephemerons = record { short = p.0; long = p.1 } }) (λ _. refl)

-- the ephemerons of a kind
abbrev pub of_kind : Ephemerons → LinkKind → Map ℕ
of_kind ephemerons Short = ephemerons.short
of_kind ephemerons Long = ephemerons.long

abbrev pub kind_and_key : Option ℕ → Option ℕ → Option (LinkKind × ℕ)
kind_and_key (Some key) long = Some (Short, key)
kind_and_key None (Some key) = Some (Long, key)
kind_and_key None None = None

-- the kind and the key of the word's ephemeron
abbrev pub ephemeron_at : Ephemerons → ℕ → Option (LinkKind × ℕ)
ephemeron_at ephemerons word = kind_and_key (get ephemerons.short word) (get ephemerons.long word)

abbrev pub has_ephemeron : Ephemerons → ℕ → Bool
has_ephemeron ephemerons word = contains_key ephemerons.short word || contains_key ephemerons.long word

-- the word is an ephemeron of this kind, and of this key
abbrev pub with_ephemeron : Ephemerons → LinkKind → ℕ → ℕ → Ephemerons
with_ephemeron ephemerons Short word key = record { short = insert ephemerons.short word key; long = remove ephemerons.long word }
with_ephemeron ephemerons Long word key = record { short = remove ephemerons.short word; long = insert ephemerons.long word key }

-- the word is no ephemeron
abbrev pub without_ephemeron : Ephemerons → ℕ → Ephemerons
without_ephemeron ephemerons word = record { short = remove ephemerons.short word; long = remove ephemerons.long word }

-- what a move of an ephemeron to another word returns, and what it does: it moves only to a word that has none
abbrev pub move_answer : Ephemerons → ℕ → ℕ → MoveAnswer
move_answer ephemerons word to =
    if has_ephemeron ephemerons word then (if word == to then Success else (if has_ephemeron ephemerons to then Duplicate else Success)) else NotFound

abbrev pub moved : Ephemerons → ℕ → ℕ → Ephemerons
moved ephemerons word to =
    if has_ephemeron ephemerons to then ephemerons else record { short = moved_to ephemerons.short word to (get ephemerons.short word); long = moved_to ephemerons.long word to (get ephemerons.long word) }

-- two lists, of waiting ephemerons and of those that were put off, are empty between passes, and each has room for all ephemerons
pub record HasLists (ephemerons : Ephemerons) (waiting rest : List (ℕ × ℕ)) (waiting_room rest_room : ℕ) : Type 0 where
  pub none_waits : waiting ≡ []
  pub none_rests : rest ≡ []
  pub waiting_has : len ephemerons.short + len ephemerons.long ≤ waiting_room
  pub rest_has : len ephemerons.short + len ephemerons.long ≤ rest_room
