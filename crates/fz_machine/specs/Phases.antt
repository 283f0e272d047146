-- The phases of a pass: each processes a list, with one question for each item.
-- code: fz_machine/src/phase.rt, listing.rt
use Rattle.std.specs.Prelude.{◌≡◌, ℕ, Bool, true, false, not, ◌&&◌, if◌then◌else◌, List, [], filter, Option, Some, None, IsFalse}
use Rattle.std.specs.FinMap.{remove}
use Rattle.fz_model.specs.declared.kinds.LinkKind.TheVariants.{Short, Long}
use Rattle.fz_finalizers.specs.declared.kinds.Kind.{Kind}
use Rattle.fz_finalizers.specs.declared.kinds.Kind.TheVariants.{Normal, IgnoreSelf, NoOrder, Unreachable}
use Rattle.fz_finalizers.specs.Follows.{queued_cleanup, queued_object}
use Rattle.fz_finalizers.specs.Kinds.{is_late}
use Rattle.fz_finalizers.specs.States.{State}
use Rattle.fz_pass.specs.Keyed.{without_ephemeron}
use Rattle.fz_machine.specs.declared.item.Item.{Item}
use Rattle.fz_machine.specs.declared.phase.Moment.{Moment}
use Rattle.fz_machine.specs.declared.phase.Moment.TheVariants.{First, Led, Picked, Last}
use Rattle.fz_machine.specs.declared.phase.Phase.{Phase}
use Rattle.fz_machine.specs.declared.phase.Phase.TheVariants.{Keys, KeysAgain, Holders, Values, Regions, ShortCleanups, ShortTargets, ShortWords, ShortKeys, ShortKeyWords, Objects, Children, Again, Picks, Entries, LateAgain, LatePicks, LongTargets, LongWords, LongKeys, LongKeyWords, ShortHolders, LongHolders, ShortKeyHolders, LongKeyHolders, LongCleanups}
use Rattle.fz_machine.specs.declared.phase.Sweep.{Sweep}
use Rattle.fz_machine.specs.declared.phase.Sweep.TheVariants as sweeps
use Rattle.fz_machine.specs.declared.question.Ask.{Ask}
use Rattle.fz_machine.specs.declared.question.Ask.TheVariants.{IsMarked, MarkChildren, MarkOthers, Mark, MarkAlone, Clear, IsHolderMarked, Marks, Live, MarkValue}
use Rattle.fz_machine.specs.Items.{AreCleanups, AreEphemerons, AreGrouped, AreLinks, AreObjects, AreInTurn, is_still, target_of, word_of}
use Rattle.fz_machine.specs.Off.{PutOff, all_off, none_off, looked_at, looking}

-- the phase that a sweep comes before
abbrev pub swept : Sweep → Phase
swept sweeps.ShortCleanups = ShortCleanups
swept sweeps.ShortTargets = ShortTargets
swept sweeps.Objects = Objects
swept sweeps.LongTargets = LongTargets
swept sweeps.ShortHolders = ShortHolders
swept sweeps.LongHolders = LongHolders
swept sweeps.LongCleanups = LongCleanups

abbrev pub is_swept : Phase → Bool
is_swept ShortCleanups = true
is_swept ShortTargets = true
is_swept Objects = true
is_swept LongTargets = true
is_swept ShortHolders = true
is_swept LongHolders = true
is_swept LongCleanups = true
is_swept phase = false

-- a phase that is neither a sweep nor behind one
abbrev pub IsOther : Phase → Type 0
IsOther (Regions sweep) = ⊥
IsOther phase = IsFalse (is_swept phase)

-- what a sweep asks about regions
abbrev pub sweep_ask : Sweep → Ask
sweep_ask sweeps.ShortHolders = Live
sweep_ask sweeps.LongHolders = Live
sweep_ask sweep = Marks

-- the phase in which the pass goes on once the marks are whole
abbrev pub behind : Moment → Phase
behind First = Regions sweeps.ShortCleanups
behind Led = Again
behind Picked = LateAgain
behind Last = Regions sweeps.LongTargets

-- the next phase: if there is another round, the ephemerons that were put off are looked at again
abbrev pub next_phase : Phase → Bool → Option Phase
next_phase (Keys moment) again = Some (Holders moment)
next_phase (KeysAgain moment) again = Some (Holders moment)
next_phase (Holders moment) again = Some (Values moment)
next_phase (Values moment) false = Some (behind moment)
next_phase (Values moment) true = Some (KeysAgain moment)
next_phase (Regions sweep) again = Some (swept sweep)
next_phase ShortCleanups again = Some (Regions sweeps.ShortTargets)
next_phase ShortTargets again = Some ShortWords
next_phase ShortWords again = Some ShortKeys
next_phase ShortKeys again = Some ShortKeyWords
next_phase ShortKeyWords again = Some (Regions sweeps.Objects)
next_phase Objects again = Some Children
next_phase Children again = Some (Keys Led)
next_phase Again again = Some Picks
next_phase Picks again = Some Entries
next_phase Entries again = Some (Keys Picked)
next_phase LateAgain again = Some LatePicks
next_phase LatePicks again = Some (Keys Last)
next_phase LongTargets again = Some LongWords
next_phase LongWords again = Some LongKeys
next_phase LongKeys again = Some LongKeyWords
next_phase LongKeyWords again = Some (Regions sweeps.ShortHolders)
next_phase ShortHolders again = Some (Regions sweeps.LongHolders)
next_phase LongHolders again = Some ShortKeyHolders
next_phase ShortKeyHolders again = Some LongKeyHolders
next_phase LongKeyHolders again = Some (Regions sweeps.LongCleanups)
next_phase LongCleanups again = None

-- the phases that make the marks whole; their lists are of ephemerons, while another list is set aside
abbrev pub settles : Phase → Bool
settles (Keys moment) = true
settles (KeysAgain moment) = true
settles (Holders moment) = true
settles (Values moment) = true
settles phase = false

abbrev pub settles_in : Option Phase → Bool
settles_in (Some phase) = settles phase
settles_in None = false

-- the command that marks the children of an unmarked object, by its kind
abbrev pub child_ask : Kind → Option Ask
child_ask Normal = Some MarkChildren
child_ask IgnoreSelf = Some MarkOthers
child_ask NoOrder = None
child_ask Unreachable = Some MarkChildren

-- the command that marks an object that is to be queued; one of kind `Unreachable` waits for its phase
abbrev pub pick_ask : Kind → Option Ask
pick_ask Normal = Some MarkAlone
pick_ask IgnoreSelf = Some MarkAlone
pick_ask NoOrder = Some Mark
pick_ask Unreachable = None

-- what a phase asks about an item of which it knows nothing; a sweep asks about no items, but about regions, and one phase only queues
abbrev pub ask_of : Phase → Item → Option Ask
ask_of (Keys moment) item = Some IsMarked
ask_of (KeysAgain moment) item = Some IsMarked
ask_of (Holders moment) item = Some IsHolderMarked
ask_of (Values moment) item = Some MarkValue
ask_of (Regions sweep) item = None
ask_of ShortCleanups item = Some IsMarked
ask_of ShortTargets item = Some IsMarked
ask_of ShortWords item = Some Clear
ask_of ShortKeys item = Some IsMarked
ask_of ShortKeyWords item = Some Clear
ask_of Objects item = Some IsMarked
ask_of Children item = child_ask item.kind
ask_of Again item = Some IsMarked
ask_of Picks item = pick_ask item.kind
ask_of Entries item = None
ask_of LateAgain item = Some IsMarked
ask_of LatePicks item = Some MarkAlone
ask_of LongTargets item = Some IsMarked
ask_of LongWords item = Some Clear
ask_of LongKeys item = Some IsMarked
ask_of LongKeyWords item = Some Clear
ask_of ShortHolders item = Some IsHolderMarked
ask_of LongHolders item = Some IsHolderMarked
ask_of ShortKeyHolders item = Some IsHolderMarked
ask_of LongKeyHolders item = Some IsHolderMarked
ask_of LongCleanups item = Some IsMarked

-- whether what a phase would ask about an item is known to be false
abbrev pub is_known : Phase → Item → Bool
is_known phase item = is_swept phase && item.known

-- what a phase asks about an item
abbrev pub asks : Phase → Item → Option Ask
asks phase item = if is_known phase item then None else ask_of phase item

-- the object or the word that it asks about
abbrev pub subject : Phase → Item → ℕ
subject (Keys moment) item = item.object
subject (KeysAgain moment) item = item.object
subject (Holders moment) item = item.word
subject (Values moment) item = item.word
subject (Regions sweep) item = item.object
subject ShortCleanups item = item.object
subject ShortTargets item = item.object
subject ShortWords item = item.word
subject ShortKeys item = item.object
subject ShortKeyWords item = item.word
subject Objects item = item.object
subject Children item = item.object
subject Again item = item.object
subject Picks item = item.object
subject Entries item = item.object
subject LateAgain item = item.object
subject LatePicks item = item.object
subject LongTargets item = item.object
subject LongWords item = item.word
subject LongKeys item = item.object
subject LongKeyWords item = item.word
subject ShortHolders item = item.word
subject LongHolders item = item.word
subject ShortKeyHolders item = item.word
subject LongKeyHolders item = item.word
subject LongCleanups item = item.object

-- whether the next phase processes the item, too, given the answer: it does if the object isn't marked; an ephemeron if its key or holder is
abbrev pub keeps : Phase → Item → Bool → Bool
keeps (Keys moment) item answer = answer
keeps (KeysAgain moment) item answer = answer
keeps (Holders moment) item answer = answer
keeps (Values moment) item answer = false
keeps (Regions sweep) item answer = false
keeps ShortCleanups item answer = false
keeps ShortTargets item answer = not answer
keeps ShortWords item answer = false
keeps ShortKeys item answer = not answer
keeps ShortKeyWords item answer = false
keeps Objects item answer = not answer
keeps Children item answer = true
keeps Again item answer = not answer
keeps Picks item answer = true
keeps Entries item answer = is_late item.kind
keeps LateAgain item answer = not answer
keeps LatePicks item answer = false
keeps LongTargets item answer = not answer
keeps LongWords item answer = false
keeps LongKeys item answer = not answer
keeps LongKeyWords item answer = false
keeps ShortHolders item answer = false
keeps LongHolders item answer = false
keeps ShortKeyHolders item answer = false
keeps LongKeyHolders item answer = false
keeps LongCleanups item answer = false

abbrev without_short : State → ℕ → State
without_short s word = record s { short = remove s.short word }

abbrev without_long : State → ℕ → State
without_long s word = record s { long = remove s.long word }

abbrev pub without_key : State → ℕ → State
without_key s word = record s { ephemerons = without_ephemeron s.ephemerons word }

-- how the finalizers change: a cleared link or ephemeron is removed, and so is one whose containing object isn't marked; a picked object is queued,
-- and so is a cleanup whose object isn't marked
abbrev pub after : Phase → Item → Bool → State → State
after (Keys moment) item answer s = s
after (KeysAgain moment) item answer s = s
after (Holders moment) item answer s = s
after (Values moment) item answer s = s
after (Regions sweep) item answer s = s
after ShortCleanups item answer s = if answer then s else queued_cleanup s item.word
after ShortTargets item answer s = s
after ShortWords item answer s = without_short s item.word
after ShortKeys item answer s = s
after ShortKeyWords item answer s = without_key s item.word
after Objects item answer s = s
after Children item answer s = s
after Again item answer s = s
after Picks item answer s = s
after Entries item answer s = if is_late item.kind then s else queued_object s item.object
after LateAgain item answer s = s
after LatePicks item answer s = queued_object s item.object
after LongTargets item answer s = s
after LongWords item answer s = without_long s item.word
after LongKeys item answer s = s
after LongKeyWords item answer s = without_key s item.word
after ShortHolders item answer s = if answer then s else without_short s item.word
after LongHolders item answer s = if answer then s else without_long s item.word
after ShortKeyHolders item answer s = if answer then s else without_key s item.word
after LongKeyHolders item answer s = if answer then s else without_key s item.word
after LongCleanups item answer s = if answer then s else queued_cleanup s item.word

-- the list that a phase gets: what the previous phase kept, what is put off, what of it is looked at again, or what was set aside
abbrev pub given : Phase → List Item → List Item → PutOff → List Item
given (Keys moment) kept aside off = all_off off
given (KeysAgain moment) kept aside off = looked_at off
given ShortKeys kept aside off = all_off off
given LongKeys kept aside off = all_off off
given ShortKeyHolders kept aside off = all_off off
given LongKeyHolders kept aside off = all_off off
given Again kept aside off = aside
given LateAgain kept aside off = aside
given phase kept aside off = kept

-- what is set aside when a phase begins, and what is put off
abbrev pub aside_in : Phase → List Item → List Item → List Item
aside_in (Keys moment) kept aside = kept
aside_in (Regions sweeps.ShortCleanups) kept aside = []
aside_in Again kept aside = []
aside_in LateAgain kept aside = []
aside_in (Regions sweeps.LongTargets) kept aside = []
aside_in phase kept aside = aside

abbrev pub off_in : Phase → PutOff → PutOff
off_in (Keys moment) off = none_off
off_in (KeysAgain moment) off = looking off
off_in phase off = off

-- the list that a phase processes, of registrations and cleanups from a number on, given what was told in the sweep before it and the list that it gets. All
-- ephemerons are listed at the first moment alone, and later those that are put off: of the others key and holder stay marked, and so does what their values
-- reach
abbrev pub Lists : Phase → ℕ → List (ℕ × ℕ) → State → List Item → List Item → Type 0
Lists (Keys First) from told s given items = AreEphemerons s.ephemerons items
Lists (Keys moment) from told s given items = items ≡ filter (is_still None s.ephemerons) given
Lists (KeysAgain moment) from told s given items = items ≡ given
Lists (Holders moment) from told s given items = items ≡ given
Lists (Values moment) from told s given items = items ≡ given
Lists (Regions sweep) from told s given items = items ≡ []
Lists ShortCleanups from told s given items = AreCleanups from told Short s.cleanups items
Lists ShortTargets from told s given items = AreLinks target_of told s.short items
Lists ShortWords from told s given items = items ≡ given
Lists ShortKeys from told s given items = items ≡ filter (is_still (Some Short) s.ephemerons) given
Lists ShortKeyWords from told s given items = items ≡ given
Lists Objects from told s given items = AreObjects from told s.registrations s.late items
Lists Children from told s given items = AreGrouped given items
Lists Again from told s given items = items ≡ given
Lists Picks from told s given items = items ≡ given
Lists Entries from told s given items = AreInTurn given items
Lists LateAgain from told s given items = items ≡ given
Lists LatePicks from told s given items = items ≡ given
Lists LongTargets from told s given items = AreLinks target_of told s.long items
Lists LongWords from told s given items = items ≡ given
Lists LongKeys from told s given items = items ≡ filter (is_still (Some Long) s.ephemerons) given
Lists LongKeyWords from told s given items = items ≡ given
Lists ShortHolders from told s given items = AreLinks word_of told s.short items
Lists LongHolders from told s given items = AreLinks word_of told s.long items
Lists ShortKeyHolders from told s given items = items ≡ filter (is_still (Some Short) s.ephemerons) given
Lists LongKeyHolders from told s given items = items ≡ filter (is_still (Some Long) s.ephemerons) given
Lists LongCleanups from told s given items = AreCleanups from told Long s.cleanups items
