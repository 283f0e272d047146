-- A pass over a host that can be called: what its answers are true of.
-- code: fz_machine/src/over.rt
use Rattle.std.specs.Prelude.{◌≡◌, ℕ, ◌<◌, ◌≤◌, List, length, map, take, Option, Some, All}
use Rattle.fz_model.specs.State.{Map, Object}
use Rattle.fz_machine.specs.declared.item.Item.{Item}
use Rattle.fz_machine.specs.declared.pass.Next.{Next}
use Rattle.fz_machine.specs.declared.phase.Phase.{Phase}
use Rattle.fz_machine.specs.declared.question.Ask.{Ask}
use Rattle.fz_machine.specs.Asks.{bits_of}
use Rattle.fz_machine.specs.Graph.{Graph}
use Rattle.fz_machine.specs.Machines.{Machine, Heard, Answers, Words, GoesTo, PassesOver}
use Rattle.fz_machine.specs.Phases.{asks, subject}
use Rattle.fz_machine.specs.Runs.{AreAskable, AreHonest, IsTrueOf}

-- a phase asks this about the first items, whose objects or words these are, and may ask it about each after true answers about those before it
pub record IsAbout (Exact : Type 0) (place : ℕ → Option ℕ) (value : Map Object → ℕ → Option ℕ) (phase : Phase) (ask : Ask) (about : List ℕ) (items : List Item) (g : Graph) : Type 0 where
  pub few : length about ≤ length items
  pub alike : All (λ item. asks phase item ≡ Some ask) (take (length about) items)
  pub same : about ≡ map (subject phase) (take (length about) items)
  pub askable : AreAskable Exact place value phase items g

-- the bits of a word are true answers about these objects or words, whatever phase asks about them
abbrev pub AnswersHonestly : Type 0 → (ℕ → Option ℕ) → (Map Object → ℕ → Option ℕ) → Ask → List ℕ → ℕ → Graph → Graph → Type 0
AnswersHonestly Exact place value ask about bits before after =
    (phase : Phase) (items : List Item) → IsAbout Exact place value phase ask about items before → AreHonest Exact place value phase (take (length about) (bits_of bits)) items before after

-- something that was asked is answered
abbrev pub Advances : Machine → Heard → Machine → Type 0
Advances old (Answers answers) new = (0 < length answers) × (length answers ≤ old.asked)
Advances old (Words words) new = PassesOver old new

-- the last question is answered, by what is true of the graph
pub record Responds (Exact : Type 0) (place : ℕ → Option ℕ) (value : Map Object → ℕ → Option ℕ) (old : Machine) (before : Graph) (new : Machine) (next : Next) (after : Graph) : Type 0 where
  pub heard : Heard
  pub goes : GoesTo old heard new next
  pub honest : IsTrueOf Exact place value old heard goes.phase before after
  pub advances : Advances old heard new
