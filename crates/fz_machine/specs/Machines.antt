-- The model of finalizers whose pass asks questions.
-- code: fz_machine/src/machine.rt, pass.rt
use Rattle.std.specs.Prelude.{◌≡◌, ◌⊎◌, ℕ, ◌+◌, ◌-◌, ◌<◌, ◌≤◌, min, zero, suc, Bool, true, false, List, [], ◌∷◌, ◌++◌, length, take, zip, slice_index_or, Option, Some, None, is_some, All, IsTrue, refl}
use Rattle.std.specs.Coded.{Coded, code_by, coded×, coded_ℕ, coded_option, coded_list, coded_bool}
use Rattle.fz_model.specs.declared.answers.Entry.{Entry}
use Rattle.fz_model.specs.declared.kinds.LinkKind.{LinkKind}
use Rattle.fz_model.specs.declared.kinds.LinkKind.TheVariants.{Short, Long}
use Rattle.fz_finalizers.specs.States.{State, View, view_code, waiting}
use Rattle.fz_machine.specs.declared.phase.Moment.{Moment}
use Rattle.fz_machine.specs.declared.phase.Moment.TheVariants.{First, Led, Picked, Last}
use Rattle.fz_machine.specs.declared.phase.Phase.{Phase}
use Rattle.fz_machine.specs.declared.phase.Phase.TheVariants.{Keys, KeysAgain, Holders, Values, Regions, ShortCleanups, ShortTargets, ShortWords, ShortKeys, ShortKeyWords, Objects, Children, Again, Picks, Entries, LateAgain, LatePicks, LongTargets, LongWords, LongKeys, LongKeyWords, ShortHolders, LongHolders, ShortKeyHolders, LongKeyHolders, LongCleanups}
use Rattle.fz_machine.specs.declared.phase.Sweep.{Sweep}
use Rattle.fz_machine.specs.declared.phase.Sweep.TheVariants as sweeps
use Rattle.fz_machine.specs.declared.machine.By.{By}
use Rattle.fz_machine.specs.declared.question.Question.{Question}
use Rattle.fz_machine.specs.declared.question.TheConstants.{BATCH}
use Rattle.fz_machine.specs.declared.pass.Next.{Next}
use Rattle.fz_machine.specs.declared.pass.Step.{Step}
use Rattle.fz_machine.specs.declared.pass.Step.TheVariants as written
use Rattle.fz_machine.specs.declared.pass.Next.TheVariants.{Asks, Ended}
use Rattle.fz_finalizers.specs.Follows.{Event, Follows, Take, TakeFinished, Finish, next_pass}
use Rattle.fz_machine.specs.Going.{AreFewer, going, is_by, questions_to_come}
use Rattle.fz_machine.specs.Off.{PutOff, TellsOff, none_off}
use Rattle.fz_machine.specs.Phases.{swept, sweep_ask}
use Rattle.fz_machine.specs.Regions.{index_of, most_of, place_in}
use Rattle.fz_machine.specs.Steps.{Begins, Going, GoesOn, IsQuestion, steps}
use Rattle.fz_machine.specs.Walks.{Walk, walk_code}

pub record Machine : Type 0 where
  pub finalizers : View
  pub walk : Walk  -- the list of the current phase
  pub phase : Option Phase  -- the phase of the open pass
  pub asked : ℕ  -- how many items the last question was about
  pub before : ℕ  -- how many entries had been queued when the pass began
  pub from : ℕ  -- the least number of the registrations and cleanups that the pass looks at
  pub told : List (ℕ × ℕ)  -- what was told of regions in an open sweep: a word for each
  pub remaining : ℕ  -- of how many regions it isn't told yet
  pub regions : List ℕ  -- the regions that the last question was about
  pub by : By  -- which sweeps ask about regions: if one doesn't, nothing is noted for it
  pub noted : List Bool  -- for each sweep, whether all that it is about is noted: if so, it asks about regions, and the phase behind it about no items
  pub tabled : List ℕ  -- for each sweep, how many regions there are

abbrev moment_code : Coded Moment
moment_code = code_by ℕ coded_ℕ to back same
  where
    to : Moment → ℕ
    to First = 0
    to Led = 1
    to Picked = 2
    to Last = 3

    back : ℕ → Moment
    back zero = First
    back (suc zero) = Led
    back (suc (suc zero)) = Picked
    back (suc (suc (suc n))) = Last

    same : (m : Moment) → back (to m) ≡ m
    same First = refl
    same Led = refl
    same Picked = refl
    same Last = refl

abbrev sweep_code : Coded Sweep
sweep_code = code_by ℕ coded_ℕ index_of back same
  where
    back : ℕ → Sweep
    back zero = sweeps.ShortCleanups
    back (suc zero) = sweeps.ShortTargets
    back (suc (suc zero)) = sweeps.Objects
    back (suc (suc (suc zero))) = sweeps.LongTargets
    back (suc (suc (suc (suc zero)))) = sweeps.ShortHolders
    back (suc (suc (suc (suc (suc zero))))) = sweeps.LongHolders
    back (suc (suc (suc (suc (suc (suc n)))))) = sweeps.LongCleanups

    same : (s : Sweep) → back (index_of s) ≡ s
    same sweeps.ShortCleanups = refl
    same sweeps.ShortTargets = refl
    same sweeps.Objects = refl
    same sweeps.LongTargets = refl
    same sweeps.ShortHolders = refl
    same sweeps.LongHolders = refl
    same sweeps.LongCleanups = refl

abbrev by_code : Coded By
by_code = code_by (Bool × Bool) (coded× coded_bool coded_bool) (λ b. (b.marks, b.live)) (λ p. record { marks = p.0; live = p.1 }) (λ _. refl)

-- a phase is told by a number, and by its moment or its sweep if it has one
abbrev phase_code : Coded Phase
phase_code = code_by (ℕ × (Moment × Sweep)) (coded× coded_ℕ (coded× moment_code sweep_code)) to (λ p. back p.1.0 p.1.1 p.0) same
  where
    to : Phase → ℕ × (Moment × Sweep)
    to (Keys moment) = (0, (moment, sweeps.Objects))
    to (KeysAgain moment) = (1, (moment, sweeps.Objects))
    to (Holders moment) = (2, (moment, sweeps.Objects))
    to (Values moment) = (3, (moment, sweeps.Objects))
    to ShortCleanups = (4, (First, sweeps.Objects))
    to ShortTargets = (5, (First, sweeps.Objects))
    to ShortWords = (6, (First, sweeps.Objects))
    to ShortKeys = (7, (First, sweeps.Objects))
    to ShortKeyWords = (8, (First, sweeps.Objects))
    to Objects = (9, (First, sweeps.Objects))
    to Children = (10, (First, sweeps.Objects))
    to Again = (11, (First, sweeps.Objects))
    to Picks = (12, (First, sweeps.Objects))
    to LateAgain = (13, (First, sweeps.Objects))
    to LatePicks = (14, (First, sweeps.Objects))
    to LongTargets = (15, (First, sweeps.Objects))
    to LongWords = (16, (First, sweeps.Objects))
    to LongKeys = (17, (First, sweeps.Objects))
    to LongKeyWords = (18, (First, sweeps.Objects))
    to ShortHolders = (19, (First, sweeps.Objects))
    to LongHolders = (20, (First, sweeps.Objects))
    to ShortKeyHolders = (21, (First, sweeps.Objects))
    to LongKeyHolders = (22, (First, sweeps.Objects))
    to LongCleanups = (23, (First, sweeps.Objects))
    to Entries = (24, (First, sweeps.Objects))
    to (Regions sweep) = (25, (First, sweep))

    back : Moment → Sweep → ℕ → Phase
    back moment sweep zero = Keys moment
    back moment sweep (suc zero) = KeysAgain moment
    back moment sweep (suc (suc zero)) = Holders moment
    back moment sweep (suc (suc (suc zero))) = Values moment
    back moment sweep (suc (suc (suc (suc zero)))) = ShortCleanups
    back moment sweep (suc (suc (suc (suc (suc zero))))) = ShortTargets
    back moment sweep (suc (suc (suc (suc (suc (suc zero)))))) = ShortWords
    back moment sweep (suc (suc (suc (suc (suc (suc (suc zero))))))) = ShortKeys
    back moment sweep (suc (suc (suc (suc (suc (suc (suc (suc zero)))))))) = ShortKeyWords
    back moment sweep (suc (suc (suc (suc (suc (suc (suc (suc (suc zero))))))))) = Objects
    back moment sweep (suc (suc (suc (suc (suc (suc (suc (suc (suc (suc zero)))))))))) = Children
    back moment sweep (suc (suc (suc (suc (suc (suc (suc (suc (suc (suc (suc zero))))))))))) = Again
    back moment sweep (suc (suc (suc (suc (suc (suc (suc (suc (suc (suc (suc (suc zero)))))))))))) = Picks
    back moment sweep (suc (suc (suc (suc (suc (suc (suc (suc (suc (suc (suc (suc (suc zero))))))))))))) = LateAgain
    back moment sweep (suc (suc (suc (suc (suc (suc (suc (suc (suc (suc (suc (suc (suc (suc zero)))))))))))))) = LatePicks
    back moment sweep (suc (suc (suc (suc (suc (suc (suc (suc (suc (suc (suc (suc (suc (suc (suc zero))))))))))))))) = LongTargets
    back moment sweep (suc (suc (suc (suc (suc (suc (suc (suc (suc (suc (suc (suc (suc (suc (suc (suc zero)))))))))))))))) = LongWords
    back moment sweep (suc (suc (suc (suc (suc (suc (suc (suc (suc (suc (suc (suc (suc (suc (suc (suc (suc zero))))))))))))))))) = LongKeys
    back moment sweep (suc (suc (suc (suc (suc (suc (suc (suc (suc (suc (suc (suc (suc (suc (suc (suc (suc (suc zero)))))))))))))))))) = LongKeyWords
    back moment sweep (suc (suc (suc (suc (suc (suc (suc (suc (suc (suc (suc (suc (suc (suc (suc (suc (suc (suc (suc zero))))))))))))))))))) = ShortHolders
    back moment sweep (suc (suc (suc (suc (suc (suc (suc (suc (suc (suc (suc (suc (suc (suc (suc (suc (suc (suc (suc (suc zero)))))))))))))))))))) = LongHolders
    back moment sweep (suc (suc (suc (suc (suc (suc (suc (suc (suc (suc (suc (suc (suc (suc (suc (suc (suc (suc (suc (suc (suc zero))))))))))))))))))))) = ShortKeyHolders
    back moment sweep (suc (suc (suc (suc (suc (suc (suc (suc (suc (suc (suc (suc (suc (suc (suc (suc (suc (suc (suc (suc (suc (suc zero)))))))))))))))))))))) = LongKeyHolders
    back moment sweep (suc (suc (suc (suc (suc (suc (suc (suc (suc (suc (suc (suc (suc (suc (suc (suc (suc (suc (suc (suc (suc (suc (suc zero))))))))))))))))))))))) = LongCleanups
    back moment sweep (suc (suc (suc (suc (suc (suc (suc (suc (suc (suc (suc (suc (suc (suc (suc (suc (suc (suc (suc (suc (suc (suc (suc (suc zero)))))))))))))))))))))))) = Entries
    back moment sweep (suc (suc (suc (suc (suc (suc (suc (suc (suc (suc (suc (suc (suc (suc (suc (suc (suc (suc (suc (suc (suc (suc (suc (suc (suc n))))))))))))))))))))))))) = Regions sweep

    same : (p : Phase) → back (to p).1.0 (to p).1.1 (to p).0 ≡ p
    same (Keys moment) = refl
    same (KeysAgain moment) = refl
    same (Holders moment) = refl
    same (Values moment) = refl
    same ShortCleanups = refl
    same ShortTargets = refl
    same ShortWords = refl
    same ShortKeys = refl
    same ShortKeyWords = refl
    same Objects = refl
    same Children = refl
    same Again = refl
    same Picks = refl
    same LateAgain = refl
    same LatePicks = refl
    same LongTargets = refl
    same LongWords = refl
    same LongKeys = refl
    same LongKeyWords = refl
    same ShortHolders = refl
    same LongHolders = refl
    same ShortKeyHolders = refl
    same LongKeyHolders = refl
    same LongCleanups = refl
    same Entries = refl
    same (Regions sweep) = refl

abbrev pub machine_code : Coded Machine
machine_code =
    code_by (View × (Walk × (Option Phase × (ℕ × ((ℕ × ℕ) × (List (ℕ × ℕ) × (ℕ × (List ℕ × (By × (List Bool × List ℕ))))))))))
    (coded× view_code (coded× walk_code (coded× (coded_option phase_code) (coded× coded_ℕ (coded× (coded× coded_ℕ coded_ℕ) (coded× (coded_list (coded× coded_ℕ coded_ℕ)) (coded× coded_ℕ (coded× (coded_list coded_ℕ) (coded× by_code (coded× (coded_list coded_bool) (coded_list coded_ℕ)))))))))))
    (λ m. (m.finalizers, (m.walk, (m.phase, (m.asked, ((m.before, m.from), (m.told, (m.remaining, (m.regions, (m.by, (m.noted, m.tabled)))))))))))
    (λ p. record { finalizers = p.0; walk = p.1.0; phase = p.1.1.0; asked = p.1.1.1.0; before = p.1.1.1.1.0.0; from = p.1.1.1.1.0.1; told = p.1.1.1.1.1.0; remaining = p.1.1.1.1.1.1.0; regions = p.1.1.1.1.1.1.1.0; by = p.1.1.1.1.1.1.1.1.0; noted = p.1.1.1.1.1.1.1.1.1.0; tabled = p.1.1.1.1.1.1.1.1.1.1 }) (λ _. refl)

-- a machine without regions
abbrev pub by_none : By
by_none = record { marks = false; live = false }

abbrev pub none_tabled : List ℕ
none_tabled = 0 ∷ 0 ∷ 0 ∷ 0 ∷ 0 ∷ 0 ∷ 0 ∷ []

-- a phase in progress, with what was told
abbrev pub going_of : Machine → Going
going_of m = going m.finalizers m.walk m.told

-- whether all that a sweep is about is noted, and how many regions there are for it
abbrev pub is_noted : Sweep → Machine → Bool
is_noted sweep m = slice_index_or m.noted (index_of sweep) false

abbrev pub tabled_for : Sweep → Machine → ℕ
tabled_for sweep m = slice_index_or m.tabled (index_of sweep) 0

-- how many questions about regions an open pass can still process
abbrev pub questions_left : Machine → ℕ
questions_left m = questions_to_come m.phase m.remaining m.tabled

-- the words of a question about regions are processed: it isn't asked again
abbrev pub PassesOver : Machine → Machine → Type 0
PassesOver old new = questions_left new < questions_left old

-- the regions are those of before
abbrev pub KeepsRegions : Machine → Machine → Type 0
KeepsRegions old new = (new.by ≡ old.by) × (new.noted ≡ old.noted) × (new.tabled ≡ old.tabled)

-- all that was noted of regions still is, in no more of them
abbrev pub KeepsNotes : Machine → Machine → Type 0
KeepsNotes old new = (new.by ≡ old.by) × (new.noted ≡ old.noted) × AreFewer old.tabled new.tabled

-- the regions of a sweep are those of before; or there is one more, or no longer all is noted; or all is noted again, in no more regions than there are items
abbrev pub Keeps : Machine → Machine → Sweep → Type 0
Keeps old new sweep = (is_noted sweep new ≡ is_noted sweep old) × (tabled_for sweep new ≡ tabled_for sweep old)

abbrev pub Notes : Machine → Machine → Sweep → Type 0
Notes old new sweep = (IsTrue (is_noted sweep new) → IsTrue (is_noted sweep old)) × (tabled_for sweep new ≤ tabled_for sweep old + 1)

abbrev pub Renews : Machine → Machine → Sweep → Type 0
Renews old new sweep = IsTrue (is_by sweep old.by) × IsTrue (is_noted sweep new) × (tabled_for sweep new ≤ most_of sweep old.finalizers.state)

-- something is noted for these sweeps at most
abbrev pub NotesFor : (Sweep → Bool) → Machine → Machine → Type 0
NotesFor noted old new = (new.by ≡ old.by) × ((sweep : Sweep) → (IsTrue (noted sweep) × Notes old new sweep) ⊎ Keeps old new sweep)

-- all is noted again for some sweeps
abbrev pub RenewsRegions : Machine → Machine → Type 0
RenewsRegions old new = (new.by ≡ old.by) × ((sweep : Sweep) → Keeps old new sweep ⊎ Renews old new sweep)

-- the sweeps about registered objects, about links of a kind, about their words alone, and about cleanups of a moment
abbrev pub of_objects : Sweep → Bool
of_objects sweeps.Objects = true
of_objects sweep = false

abbrev pub of_links : LinkKind → Sweep → Bool
of_links Short sweeps.ShortTargets = true
of_links Short sweeps.ShortHolders = true
of_links Long sweeps.LongTargets = true
of_links Long sweeps.LongHolders = true
of_links kind sweep = false

abbrev pub of_words : LinkKind → Sweep → Bool
of_words Short sweeps.ShortHolders = true
of_words Long sweeps.LongHolders = true
of_words kind sweep = false

abbrev pub of_cleanups : LinkKind → Sweep → Bool
of_cleanups Short sweeps.ShortCleanups = true
of_cleanups Long sweeps.LongCleanups = true
of_cleanups when sweep = false

-- no pass is open
abbrev pub IsIdle : Machine → Type 0
IsIdle m = m.phase ≡ None

-- the first waiting entry is taken, as this event says; if none waits, the finalizers are unchanged
abbrev pub IsTaken : (Entry → Event) → Machine → Machine → Option Entry → Type 0
IsTaken event old new None = (waiting old.finalizers.state ≡ []) × (new.finalizers.state ≡ old.finalizers.state)
IsTaken event old new (Some e) = Follows old.finalizers.state (event e) new.finalizers.state

-- an open pass is unchanged, and so is its list
abbrev pub KeepsPass : Machine → Machine → Type 0
KeepsPass old new = new ≡ record old { finalizers = new.finalizers }

-- an event of a worker: an entry is taken or finished
pub data IsWork : Event → Type 0 where
  Takes : (e : Entry) → IsWork (Take e)
  TakesFinished : (e : Entry) → IsWork (TakeFinished e)
  Finishes : (e : Entry) → IsWork (Finish e)

-- entries are taken and finished, by one event after another
pub data Works : State → State → Type 0 where
  Begun : {s : State} → Works s s
  Goes : {old mid new : State} (event : Event) → IsWork event → Works old mid → Follows mid event new → Works old new

-- an entry is taken or finished; an open pass is unchanged
pub record IsWorked (old new : Machine) : Type 0 where
  pub event : Event
  pub work : IsWork event
  pub follows : Follows old.finalizers.state event new.finalizers.state
  pub keeps : KeepsPass old new

-- nothing is listed yet
abbrev pub at_begin : State → Going
at_begin s = record { finalizers = s; kept = []; left = []; aside = []; off = none_off; told = [] }

-- a pass has begun over the registrations and cleanups from a number on
pub record IsBegunFrom (number : ℕ) (old new : Machine) : Type 0 where
  pub phase : new.phase ≡ Some (Keys First)
  pub finalizers : new.finalizers.state ≡ record old.finalizers.state { passes = next_pass old.finalizers.passes }
  pub begins : Begins number (Keys First) (at_begin new.finalizers.state) (going_of new)
  pub asked : new.asked ≡ 0
  pub remaining : new.remaining ≡ 0
  pub regions : new.regions ≡ []
  pub before : new.before ≡ length old.finalizers.queue
  pub from : new.from ≡ number
  pub same : KeepsRegions old new

-- a pass has begun over all
abbrev pub IsBegun : Machine → Machine → Type 0
IsBegun = IsBegunFrom 0

-- a question about items: what a sweep is about isn't asked about if all of it is noted
pub record AsksItems (m : Machine) (phase : Phase) (q : Question) : Type 0 where
  pub others : (sweep : Sweep) → phase ≡ swept sweep → is_noted sweep m ≡ false
  pub question : IsQuestion phase m.walk.left q
  pub asked : m.asked ≡ q.count
  pub regions : m.regions ≡ []

-- a question about regions, as many as fit: there is at least one
pub record AsksRegions (m : Machine) (phase : Phase) (q : Question) : Type 0 where
  pub sweep : Sweep
  pub is : phase ≡ Regions sweep
  pub noted : IsTrue (is_noted sweep m)
  pub ask : q.ask ≡ sweep_ask sweep
  pub some : 0 < q.count
  pub most : q.count ≡ min BATCH m.remaining
  pub about : take q.count q.about ≡ m.regions
  pub count : length m.regions ≡ q.count
  pub begin : All (λ region. place_in region ≡ 0) m.regions
  pub asked : m.asked ≡ 0

-- what a pass returns: the question of its phase, or what it has done
abbrev pub Tells : Machine → Next → Type 0
Tells m (Asks question) = (phase : Phase) × (m.phase ≡ Some phase) × (AsksItems m phase question ⊎ AsksRegions m phase question)
Tells m (Ended passed) = (m.phase ≡ None) × (passed.pass ≡ m.finalizers.passes) × (passed.picked ≡ length m.finalizers.queue - m.before)

-- the same where the objects or words of a question are in an array
abbrev pub next_of : Step → List ℕ → Next
next_of (written.Asks ask count) about = Asks (record { ask = ask; about = about; count = count })
next_of (written.Ended passed) about = Ended passed

-- an array is written only for a question
abbrev pub Writes : Step → List ℕ → List ℕ → Type 0
Writes (written.Asks ask count) old new = Unit {0}
Writes (written.Ended passed) old new = new ≡ old

-- what a host answers: about the first items, or a word for each region of the last question
pub data Heard : Type 0 where
  Answers : List Bool → Heard
  Words : List ℕ → Heard

-- a sweep notes words; in other phases there are none to note
abbrev pub heard_by : Phase → List ℕ → Heard → Going → Going
heard_by phase regions (Answers answers) g = steps phase answers g
heard_by (Regions sweep) regions (Words words) g = record g { told = g.told ++ zip regions words }
heard_by phase regions (Words words) g = g

-- a pass processes answers and proceeds
pub record GoesTo (old : Machine) (heard : Heard) (new : Machine) (next : Next) : Type 0 where
  pub phase : Phase
  pub was : old.phase ≡ Some phase
  pub goes : GoesOn old.from phase (heard_by phase old.regions heard (going_of old)) new.phase (going_of new)
  pub tells : Tells new next
  pub before : new.before ≡ old.before
  pub from : new.from ≡ old.from
  pub by : new.by ≡ old.by
  pub noted : new.noted ≡ old.noted
  pub tabled : AreFewer old.tabled new.tabled
  pub fewer : questions_left new ≤ questions_left old

-- an open pass is ended early: the finalizers are unchanged
pub record IsAbandoned (old new : Machine) : Type 0 where
  pub was : IsTrue (is_some old.phase)
  pub idle : IsIdle new
  pub same : new.finalizers ≡ old.finalizers
  pub regions : KeepsRegions old new

-- while values are marked, those that are put off are told by their keys; in other phases nothing is told
abbrev pub TellsIn : Option Phase → ℕ → PutOff → PutOff → Type 0
TellsIn (Some (Values moment)) key old new = TellsOff key old new
TellsIn phase key old new = new ≡ old

-- a host has told that a key is marked: nothing changes but what is put off
pub record IsTold (key : ℕ) (old new : Machine) : Type 0 where
  pub off : TellsIn old.phase key old.walk.off new.walk.off
  pub same : new ≡ record old { walk = record old.walk { off = new.walk.off; off_room = new.walk.off_room } }
