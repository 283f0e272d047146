-- Which phases only choose items, which ask about words, and the items that a word chooses.
-- code: fz_machine/src/asking.rt, answers.rt, phase.rt, walk.rt
use Rattle.std.specs.Prelude.{◌≡◌, ℕ, Bool, true, false, List, filter, map, zip, Option, None, Some}
use Rattle.fz_machine.specs.Asks.{bits_of}
use Rattle.fz_machine.specs.declared.item.Item.{Item}
use Rattle.fz_machine.specs.declared.phase.Phase.{Phase}
use Rattle.fz_machine.specs.declared.phase.Phase.TheVariants.{Keys, KeysAgain, Holders, Values, ShortTargets, ShortWords, ShortKeys, ShortKeyWords, ShortCleanups, Objects, Children, Again, Picks, LateAgain, LongTargets, LongWords, LongKeys, LongKeyWords, LongCleanups, ShortHolders, LongHolders, ShortKeyHolders, LongKeyHolders}

-- the phases that keep the items whose answers are false, and change nothing else
abbrev pub keeps_unmarked : Phase → Bool
keeps_unmarked ShortTargets = true
keeps_unmarked ShortKeys = true
keeps_unmarked Objects = true
keeps_unmarked Again = true
keeps_unmarked LateAgain = true
keeps_unmarked LongTargets = true
keeps_unmarked LongKeys = true
keeps_unmarked phase = false

-- the phases that keep the ephemerons whose answers are true, and put off the others
abbrev pub keeps_marked : Phase → Bool
keeps_marked (Keys moment) = true
keeps_marked (KeysAgain moment) = true
keeps_marked (Holders moment) = true
keeps_marked phase = false

-- the phases that keep all items, and change nothing else
abbrev pub keeps_all : Phase → Bool
keeps_all Children = true
keeps_all Picks = true
keeps_all phase = false

-- the phases that ask about each item that isn't known, and keep those that are
abbrev pub keeps_known : Phase → Bool
keeps_known ShortTargets = true
keeps_known Objects = true
keeps_known LongTargets = true
keeps_known phase = false

-- the answer, if there is one, that makes a phase drop an item and change nothing else
abbrev pub idle_answer : Phase → Option Bool
idle_answer (Values moment) = Some false
idle_answer ShortCleanups = Some true
idle_answer LongCleanups = Some true
idle_answer ShortHolders = Some true
idle_answer LongHolders = Some true
idle_answer ShortKeyHolders = Some true
idle_answer LongKeyHolders = Some true
idle_answer phase = None

-- all answers in a word are the same
abbrev pub AreAll : Bool → ℕ → Type 0
AreAll answer bits = bits_of bits ≡ map (λ (bit : Bool). answer) (bits_of bits)

-- the phases that ask about the words of items; the others ask about their objects
abbrev pub is_of_words : Phase → Bool
is_of_words (Holders moment) = true
is_of_words (Values moment) = true
is_of_words ShortWords = true
is_of_words ShortKeyWords = true
is_of_words LongWords = true
is_of_words LongKeyWords = true
is_of_words ShortHolders = true
is_of_words LongHolders = true
is_of_words ShortKeyHolders = true
is_of_words LongKeyHolders = true
is_of_words phase = false

-- those of the first items whose bits are set
abbrev pub chosen : List Bool → List Item → List Item
chosen bits items = map (λ (e : Item × Bool). e.0) (filter (λ (e : Item × Bool). e.1) (zip items bits))
