-- A host's graph, and how an honest host responds to each question about it: as the trait `Host` of fz_pass requires of hosts that can be called.
-- code: fz_machine/src/question.rt; fz_pass/src/host.rt
use Rattle.std.specs.Prelude.{◌≡◌, ◌<◌, ◌^◌, ◌+◌, ◌*◌, ℕ, List, [], ◌∷◌, Bool, true, false, Option, Some, None, IsTrue, IsFalse}
use Rattle.std.specs.FinMap.{get, contains_key}
use Rattle.fz_model.specs.declared.answers.Registration.{Registration}
use Rattle.fz_model.specs.Bits.{has_bit}
use Rattle.fz_model.specs.Memory.{points}
use Rattle.fz_model.specs.Reachability.{Leads}
use Rattle.fz_model.specs.State.{Map, Object}
use Rattle.fz_pass.specs.Holds.{Ephemerons, IsOfKey, IsOfValue}
use Rattle.fz_pass.specs.Marks.{IsClosed, Marks, IsLeadingBut, IsLastToMark, AreRegistered, AreTargets}
use Rattle.fz_pass.specs.Places.{StandApart, written_at, is_held}
use Rattle.fz_finalizers.specs.declared.cleanups.Attached.{Attached}
use Rattle.fz_finalizers.specs.States.{State}
use Rattle.fz_machine.specs.declared.question.Ask.{Ask}
use Rattle.fz_machine.specs.declared.question.Ask.TheVariants.{IsMarked, MarkChildren, MarkOthers, Mark, MarkAlone, Clear, IsHolderMarked, Live, MarkValue, Marks as AskMarks}

pub record Graph : Type 0 where
  pub objects : Map Object  -- by address
  pub marked : ℕ → Bool

abbrev pub graph_of : Map Object → (ℕ → Bool) → Graph
graph_of objects marked = record { objects = objects; marked = marked }

-- only objects of the graph are marked, and only while everything that marked objects reach is marked
abbrev pub CanMark : Graph → ℕ → Type 0
CanMark g object = IsTrue (contains_key g.objects object) × IsClosed g.objects g.marked

abbrev pub MayAsk : Ask → ℕ → Graph → Type 0
MayAsk IsMarked object g = Unit {0}
MayAsk MarkChildren object g = CanMark g object
MayAsk MarkOthers object g = CanMark g object
MayAsk Mark object g = CanMark g object
MayAsk MarkAlone object g = CanMark g object × IsLastToMark g.objects g.marked object
MayAsk Clear word g = Unit {0}
MayAsk IsHolderMarked word g = Unit {0}
MayAsk MarkValue word g = IsClosed g.objects g.marked
MayAsk AskMarks region g = ⊥  -- no item is asked about by these: `IsHonestWord` has their answers
MayAsk Live region g = ⊥

-- if nothing is asked, nothing is required
abbrev pub MayBeAsked : Option Ask → ℕ → Graph → Type 0
MayBeAsked None subject g = Unit {0}
MayBeAsked (Some ask) subject g = MayAsk ask subject g

-- these were added to the marks; if marking is exact, nothing else was added
abbrev pub Gains : Type 0 → Graph → Graph → (ℕ → Type 0) → Type 0
Gains Exact old new gained = (new.objects ≡ old.objects) × Marks Exact old.objects old.marked new.marked gained

-- what an honest host answers, and the graph afterwards; for other commands than `MarkValue` any answer is accepted; `place` is the word of an object that a
-- link or an ephemeron denotes, if it denotes one, and `value` is the object to which the word of an ephemeron points, if any
abbrev pub Answers : Type 0 → (ℕ → Option ℕ) → (Map Object → ℕ → Option ℕ) → Ask → ℕ → Graph → Bool → Graph → Type 0
Answers Exact place value IsMarked object old answer new = (answer ≡ old.marked object) × (new ≡ old)
Answers Exact place value MarkChildren object old answer new = Gains Exact old new (IsLeadingBut old.objects false object)
Answers Exact place value MarkOthers object old answer new = Gains Exact old new (IsLeadingBut old.objects true object)
Answers Exact place value Mark object old answer new = Gains Exact old new (Leads old.objects object)
Answers Exact place value MarkAlone object old answer new = Gains Exact old new (λ a. a ≡ object)
Answers Exact place value Clear word old answer new = new ≡ record old { objects = written_at place word old.objects }
Answers Exact place value IsHolderMarked word old answer new = (answer ≡ is_held place old.objects old.marked word) × (new ≡ old)
Answers Exact place value MarkValue word old answer new =
    Gains Exact old new (IsOfValue value old.objects word) × (IsFalse answer → (a : ℕ) → IsTrue (new.marked a) → IsTrue (old.marked a))
Answers Exact place value AskMarks region old answer new = ⊥
Answers Exact place value Live region old answer new = ⊥

-- the host is bound only if the question may be asked; if nothing is asked, nothing changes
abbrev pub IsHonest : Type 0 → (ℕ → Option ℕ) → (Map Object → ℕ → Option ℕ) → Option Ask → ℕ → Graph → Bool → Graph → Type 0
IsHonest Exact place value (Some ask) subject old answer new = MayAsk ask subject old → Answers Exact place value ask subject old answer new
IsHonest Exact place value None subject old answer new = new ≡ old

-- what the bit of a place says: whether the object that begins there is marked; to `Live`, whether the object that contains the word there is, as for a link
abbrev pub is_told : (ℕ → Option ℕ) → Ask → Graph → ℕ → Bool
is_told place Live g n = is_held place g.objects g.marked n
is_told place ask g n = g.marked n

-- what an honest host answers about a region, in a word: the truth about the places that are asked for; for other places, anything
abbrev pub IsHonestWord : (ℕ → Option ℕ) → Ask → (ℕ → Type 0) → Graph → ℕ → ℕ → Type 0
IsHonestWord place ask IsAskedFor g region word = (i : ℕ) → i < 64 → IsAskedFor (region + 16 * i) → has_bit word i ≡ is_told place ask g (region + 16 * i)

-- a word that is true of all places
abbrev pub IsTrueWord : (ℕ → Option ℕ) → Ask → Graph → ℕ → ℕ → Type 0
IsTrueWord place ask g region word = (i : ℕ) → i < 64 → has_bit word i ≡ is_told place ask g (region + 16 * i)

-- the same of words that were told, each of a region
abbrev pub AreHonestWords : (ℕ → Option ℕ) → Ask → (ℕ → Type 0) → Graph → List (ℕ × ℕ) → Type 0
AreHonestWords place ask IsAskedFor g [] = Unit {0}
AreHonestWords place ask IsAskedFor g (r ∷ told) = IsHonestWord place ask IsAskedFor g r.0 r.1 × AreHonestWords place ask IsAskedFor g told

-- a host without ephemerons has no values
abbrev pub no_value : Map Object → ℕ → Option ℕ
no_value objects word = None

-- clearing a word gives no ephemeron another value: it leaves the value, or takes it away. A cleared word points to nothing
abbrev pub KeepsValues : (ℕ → Option ℕ) → (Map Object → ℕ → Option ℕ) → Ephemerons → Type 0
KeepsValues place value ephemerons =
    (objects : Map Object) (cleared word key first : ℕ) → points objects 0 ≡ None → IsOfKey ephemerons word key
    → value (written_at place cleared objects) word ≡ Some first → value objects word ≡ Some first

-- when a pass may begin: marking is complete, registered objects, targets of links and keys are objects of the graph, no two links denote one word, and
-- ephemerons keep their values while words are cleared
pub record MayBegin (place : ℕ → Option ℕ) (value : Map Object → ℕ → Option ℕ) (s : State) (g : Graph) : Type 0 where
  pub registered : AreRegistered g.objects s.registrations
  pub short : AreTargets g.objects s.short
  pub long : AreTargets g.objects s.long
  pub short_keys : AreTargets g.objects s.ephemerons.short
  pub long_keys : AreTargets g.objects s.ephemerons.long
  pub zero : points g.objects 0 ≡ None  -- a cleared word points to nothing
  pub closed : IsClosed g.objects g.marked
  pub births : (a : ℕ) (o : Object) → get g.objects a ≡ Some o → o.birth ≡ 0  -- no host is asked for births
  pub starts : (a : ℕ) → IsTrue (contains_key g.objects a) → a < 2 ^ 64  -- they are addresses
  pub apart : StandApart place
  pub values : KeepsValues place value s.ephemerons

-- the objects of registrations and cleanups before this number are marked
pub record AreOldMarked (from : ℕ) (s : State) (g : Graph) : Type 0 where
  pub registered : (object : ℕ) (r : Registration) → get s.registrations object ≡ Some r → r.number < from → IsTrue (g.marked object)
  pub attached : (number : ℕ) (c : Attached) → get s.cleanups number ≡ Some c → number < from → IsTrue (g.marked c.object)
