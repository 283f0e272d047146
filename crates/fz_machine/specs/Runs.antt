-- Runs of a pass over a graph, and their result.
-- code: fz_machine/src/law.rt
use Rattle.std.specs.Prelude.{◌≡◌, ◌≤◌, ◌+◌, ◌*◌, ◌&&◌, ℕ, zero, suc, Bool, true, not, if◌then◌else◌, List, [], ◌∷◌, length, zip, Option, None, Some, IsTrue}
use Rattle.std.specs.FinMap.{len, retain_keys}
use Rattle.fz_model.specs.State.{Map, Object}
use Rattle.fz_pass.specs.Holds.{no_ephemerons}
use Rattle.fz_pass.specs.Marks.{IsClosed, with_targets}
use Rattle.fz_finalizers.specs.Passed.{PassesFor, PassesWhole}
use Rattle.fz_finalizers.specs.Promises.{IsReached, Past}
use Rattle.fz_finalizers.specs.States.{State}
use Rattle.fz_machine.specs.declared.item.Item.{Item}
use Rattle.fz_machine.specs.declared.pass.Next.{Next}
use Rattle.fz_machine.specs.declared.phase.Phase.{Phase}
use Rattle.fz_machine.specs.declared.phase.Phase.TheVariants.{Regions, ShortKeys, ShortKeyWords, LongKeys, LongKeyWords, ShortKeyHolders, LongKeyHolders}
use Rattle.fz_machine.specs.declared.phase.Sweep.{Sweep}
use Rattle.fz_machine.specs.declared.phase.Sweep.TheVariants as sweeps
use Rattle.fz_machine.specs.Going.{ephemerons_in}
use Rattle.fz_machine.specs.Graph.{AreHonestWords, AreOldMarked, Graph, IsHonest, MayBegin, MayBeAsked}
use Rattle.fz_machine.specs.Heard.{most_rows}
use Rattle.fz_machine.specs.Regions.{IsOfSweep}
use Rattle.fz_machine.specs.Machines.{Machine, Heard, Answers, Words, IsBegun, IsBegunFrom, GoesTo, IsTold, IsWorked, Works, is_noted}
use Rattle.fz_machine.specs.Phases.{ask_of, settles, subject, sweep_ask}

-- true answers about the first items, one after another, while the graph changes; also about an item that isn't asked about since it is known
abbrev pub AreHonest : Type 0 → (ℕ → Option ℕ) → (Map Object → ℕ → Option ℕ) → Phase → List Bool → List Item → Graph → Graph → Type 0
AreHonest Exact place value phase [] items old new = new ≡ old
AreHonest Exact place value phase (answer ∷ answers) [] old new = ⊥
AreHonest Exact place value phase (answer ∷ answers) (item ∷ items) old new =
    (between : Graph) × IsHonest Exact place value (ask_of phase item) (subject phase item) old answer between × AreHonest Exact place value phase answers items between new

-- what is heard is true of a graph: answers about items, while it changes; or words about the regions of a question, while it stays. A word has to be true of
-- the places of the sweep's items alone
abbrev pub IsTrueOf : Type 0 → (ℕ → Option ℕ) → (Map Object → ℕ → Option ℕ) → Machine → Heard → Phase → Graph → Graph → Type 0
IsTrueOf Exact place value m (Answers answers) phase old new = AreHonest Exact place value phase answers m.walk.left old new
IsTrueOf Exact place value m (Words words) (Regions sweep) old new = AreHonestWords place (sweep_ask sweep) (IsOfSweep sweep m.finalizers.state) old (zip m.regions words) × (new ≡ old)
IsTrueOf Exact place value m (Words words) phase old new = new ≡ old

-- from the begin of a pass, by questions that an honest host has answered; meanwhile workers take and finish entries, and the host tells keys, whether they are
-- marked or not
pub data Runs (Exact : Type 0) (place : ℕ → Option ℕ) (value : Map Object → ℕ → Option ℕ) (begun : Machine) (before : Graph) : Machine → Graph → Type 0 where
  Begun : Runs Exact place value begun before begun before
  Goes : {m new : Machine} {g after : Graph} {next : Next} (heard : Heard) (goes : GoesTo m heard new next)
      → Runs Exact place value begun before m g → IsTrueOf Exact place value m heard goes.phase g after → Runs Exact place value begun before new after
  Meanwhile : {m new : Machine} {g : Graph} → IsWorked m new → Runs Exact place value begun before m g → Runs Exact place value begun before new g
  Told : {m new : Machine} {g : Graph} (key : ℕ) → IsTold key m new → Runs Exact place value begun before m g → Runs Exact place value begun before new g

-- as for `Finalizers::pass_with_ephemerons`: what the model queues and decides, and that marks stay and are closed; what is taken and finished meanwhile might
-- as well be taken and finished after the pass
pub record MakesPass (Exact : Type 0) (place : ℕ → Option ℕ) (value : Map Object → ℕ → Option ℕ) (old : State) (before : Graph) (new : State) (after : Graph) : Type 0 where
  pub passed : State
  pub passes : PassesWhole Exact place value old before.objects before.marked passed after.objects after.marked
  pub works : Works passed new
  pub marks : (a : ℕ) → IsTrue (before.marked a) → IsTrue (after.marked a)
  pub closed : IsClosed after.objects after.marked

-- after any calls of the finalizers, a run whose answers and words are true of a graph carries out the pass
abbrev pub RunsPass : Type 0 → Type 0
RunsPass Exact = (place : ℕ → Option ℕ) (value : Map Object → ℕ → Option ℕ) (old begun new : Machine) (past : Past) (before after : Graph)
    → IsReached old.finalizers.state past → IsBegun old begun → MayBegin place value old.finalizers.state before → Runs Exact place value begun before new after → new.phase ≡ None
    → MakesPass Exact place value old.finalizers.state before new.finalizers.state after

-- a pass that looks only at registrations and cleanups from a number on carries out the same, if the objects of the earlier ones are marked
abbrev pub RunsYoungPass : Type 0 → Type 0
RunsYoungPass Exact = (from : ℕ) (place : ℕ → Option ℕ) (value : Map Object → ℕ → Option ℕ) (old begun new : Machine) (past : Past) (before after : Graph)
    → IsReached old.finalizers.state past → IsBegunFrom from old begun → MayBegin place value old.finalizers.state before → AreOldMarked from old.finalizers.state before → Runs Exact place value begun before new after → new.phase ≡ None
    → MakesPass Exact place value old.finalizers.state before new.finalizers.state after

-- as for `Finalizers::pass`
pub record MakesPlainPass (Exact : Type 0) (place : ℕ → Option ℕ) (old : State) (before : Graph) (new : State) (after : Graph) : Type 0 where
  pub passed : State
  pub passes : PassesFor Exact place old before.objects before.marked passed after.objects after.marked
  pub works : Works passed new
  pub marks : (a : ℕ) → IsTrue (before.marked a) → IsTrue (after.marked a)
  pub closed : IsClosed after.objects after.marked

-- without ephemerons it carries out a pass that doesn't know of them
abbrev pub RunsPlainPass : Type 0 → Type 0
RunsPlainPass Exact = (place : ℕ → Option ℕ) (value : Map Object → ℕ → Option ℕ) (old begun new : Machine) (past : Past) (before after : Graph)
    → IsReached old.finalizers.state past → old.finalizers.state.ephemerons ≡ no_ephemerons → IsBegun old begun → MayBegin place value old.finalizers.state before → Runs Exact place value begun before new after → new.phase ≡ None
    → MakesPlainPass Exact place old.finalizers.state before new.finalizers.state after

-- so does one without ephemerons
abbrev pub RunsYoungPlainPass : Type 0 → Type 0
RunsYoungPlainPass Exact = (from : ℕ) (place : ℕ → Option ℕ) (value : Map Object → ℕ → Option ℕ) (old begun new : Machine) (past : Past) (before after : Graph)
    → IsReached old.finalizers.state past → old.finalizers.state.ephemerons ≡ no_ephemerons → IsBegunFrom from old begun → MayBegin place value old.finalizers.state before → AreOldMarked from old.finalizers.state before → Runs Exact place value begun before new after → new.phase ≡ None
    → MakesPlainPass Exact place old.finalizers.state before new.finalizers.state after

-- the first item may be asked about, known or not, and each later one after true answers about those before it
abbrev pub AreAskable : Type 0 → (ℕ → Option ℕ) → (Map Object → ℕ → Option ℕ) → Phase → List Item → Graph → Type 0
AreAskable Exact place value phase [] g = Unit {0}
AreAskable Exact place value phase (item ∷ items) g =
    MayBeAsked (ask_of phase item) (subject phase item) g
    × ((answer : Bool) (between : Graph) → IsHonest Exact place value (ask_of phase item) (subject phase item) g answer between → AreAskable Exact place value phase items between)

-- a host that answers for a graph is asked only what it may be asked
abbrev pub AsksRightly : Type 0 → Type 0
AsksRightly Exact = (place : ℕ → Option ℕ) (value : Map Object → ℕ → Option ℕ) (old begun new : Machine) (past : Past) (before after : Graph) (phase : Phase)
    → IsReached old.finalizers.state past → IsBegun old begun → MayBegin place value old.finalizers.state before → Runs Exact place value begun before new after → new.phase ≡ Some phase
    → AreAskable Exact place value phase new.walk.left after

-- and one that looks only at registrations and cleanups from a number on
abbrev pub AsksYoungRightly : Type 0 → Type 0
AsksYoungRightly Exact = (from : ℕ) (place : ℕ → Option ℕ) (value : Map Object → ℕ → Option ℕ) (old begun new : Machine) (past : Past) (before after : Graph) (phase : Phase)
    → IsReached old.finalizers.state past → IsBegunFrom from old begun → MayBegin place value old.finalizers.state before → AreOldMarked from old.finalizers.state before → Runs Exact place value begun before new after → new.phase ≡ Some phase
    → AreAskable Exact place value phase new.walk.left after

-- ---- how many answers a run takes

abbrev pub answers_in : Heard → ℕ
answers_in (Answers answers) = length answers
answers_in (Words words) = 0

-- the number of answers about items that a run has processed
abbrev pub answered : {Exact : Type 0} {place : ℕ → Option ℕ} {value : Map Object → ℕ → Option ℕ} {begun : Machine} {before : Graph} {m : Machine} {g : Graph} → Runs Exact place value begun before m g → ℕ
answered Begun = 0
answered (Goes heard goes runs honest) = answered runs + answers_in heard
answered (Meanwhile worked runs) = answered runs
answered (Told key tells runs) = answered runs

-- whether a phase asks about ephemerons
abbrev pub is_of_rows : Phase → Bool
is_of_rows ShortKeys = true
is_of_rows ShortKeyWords = true
is_of_rows LongKeys = true
is_of_rows LongKeyWords = true
is_of_rows ShortKeyHolders = true
is_of_rows LongKeyHolders = true
is_of_rows phase = settles phase

-- a question about registrations, links or cleanups counts, if there was one
abbrev pub one_question : Phase → ℕ → ℕ
one_question phase zero = 0
one_question phase (suc asked) = if is_of_rows phase then 0 else 1

-- the number of questions about registrations, links and cleanups that a run has answered
abbrev pub questions : {Exact : Type 0} {place : ℕ → Option ℕ} {value : Map Object → ℕ → Option ℕ} {begun : Machine} {before : Graph} {m : Machine} {g : Graph} → Runs Exact place value begun before m g → ℕ
questions Begun = 0
questions (Goes {m = m} heard goes runs honest) = questions runs + one_question goes.phase m.asked
questions (Meanwhile worked runs) = questions runs
questions (Told key tells runs) = questions runs

-- each question about items was answered whole
abbrev pub AreWhole : {Exact : Type 0} {place : ℕ → Option ℕ} {value : Map Object → ℕ → Option ℕ} {begun : Machine} {before : Graph} {m : Machine} {g : Graph} → Runs Exact place value begun before m g → Type 0
AreWhole Begun = Unit {0}
AreWhole (Goes {m = m} heard goes runs honest) = AreWhole runs × (answers_in heard ≡ m.asked)
AreWhole (Meanwhile worked runs) = AreWhole runs
AreWhole (Told key tells runs) = AreWhole runs

-- at most this many are about links of a kind: if all their targets are noted, one about each link whose target isn't marked, and else two about each link; and if
-- not all their words are noted, one more about each
abbrev pub most_about_links : Bool → Bool → (ℕ → Bool) → Map ℕ → ℕ
most_about_links targets words marked links = (if targets then len (with_targets links (λ a. not (marked a))) else 2 * len links) + (if words then 0 else len links)

-- at most this many are processed by a pass that begins with these marks, given for which sweeps all is noted
abbrev pub most_unmarked : (Sweep → Bool) → (ℕ → Bool) → State → ℕ
most_unmarked noted marked s =
    (if noted sweeps.Objects then 5 * len (retain_keys s.registrations (λ a. not (marked a))) else 6 * len s.registrations)
    + most_about_links (noted sweeps.ShortTargets) (noted sweeps.ShortHolders) marked s.short + most_about_links (noted sweeps.LongTargets) (noted sweeps.LongHolders) marked s.long
    + (if noted sweeps.ShortCleanups && noted sweeps.LongCleanups then 0 else len s.cleanups) + most_rows (ephemerons_in s)

-- a run whose answers and words are true of a graph takes no more answers, wherever it is
abbrev pub CostsUnmarked : Type 0 → Type 0
CostsUnmarked Exact = (from : ℕ) (place : ℕ → Option ℕ) (value : Map Object → ℕ → Option ℕ) (old begun new : Machine) (past : Past) (before after : Graph)
    → IsReached old.finalizers.state past → IsBegunFrom from old begun → MayBegin place value old.finalizers.state before → AreOldMarked from old.finalizers.state before → (run : Runs Exact place value begun before new after)
    → answered run ≤ most_unmarked (λ sweep. is_noted sweep old) before.marked old.finalizers.state

-- but for 16, there is a question about registrations, links or cleanups for each 64 answers at most: the last one of each of 12 phases may be about fewer items,
-- and in two phases, where one of two things is asked about an item, the last one of each
abbrev pub AsksBatches : Type 0 → Type 0
AsksBatches Exact = (from : ℕ) (place : ℕ → Option ℕ) (value : Map Object → ℕ → Option ℕ) (old begun new : Machine) (before after : Graph)
    → IsBegunFrom from old begun → (run : Runs Exact place value begun before new after) → AreWhole run
    → 64 * questions run ≤ answered run + 64 * 16
