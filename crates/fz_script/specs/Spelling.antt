-- The spelling of a step: the exact line of a script that means this step, byte by byte.
-- code: fz_script/src/reading.rt (step_of)
use Rattle.std.specs.Prelude.{ℕ, ◌^◌, ◌<◌, List, [], ◌∷◌, ◌++◌, map, codes, decimal, Option, Some, None}
use Rattle.std.specs.List.{join_with_byte, AllByRecursion}
use Rattle.fz_model.specs.declared.kinds.ObjKind.{ObjKind}
use Rattle.fz_model.specs.declared.kinds.ObjKind.TheVariants.{Scanned, Atomic}
use Rattle.fz_model.specs.declared.kinds.RegKind.{RegKind}
use Rattle.fz_model.specs.declared.kinds.RegKind.TheVariants.{Normal, IgnoreSelf, NoOrder}
use Rattle.fz_model.specs.declared.kinds.LinkKind.{LinkKind}
use Rattle.fz_model.specs.declared.kinds.LinkKind.TheVariants.{Short, Long}
use Rattle.fz_model.specs.declared.finalizer.Finalizer.{Finalizer}
use Rattle.fz_model.specs.declared.places.Slot.{Slot}
use Rattle.fz_model.specs.declared.places.Place.{Place}
use Rattle.fz_script.specs.declared.step.Step.{Step}
use Rattle.fz_model.specs.declared.call.Call.{Call as WorldCall}
use Rattle.fz_model.specs.declared.call.Call.TheVariants as calls
use Rattle.fz_script.specs.declared.step.Step.TheVariants.{Open, Call, Take, Hold, Finish, Forfeit}

-- one word of a line: a number, a rank, or literal text
pub data Token : Type 0 where
  Number : (n : ℕ) → Token
  Rank : (n : ℕ) → Token
  Text : (letters : List ℕ) → Token

abbrev pub obj_kind : ObjKind → List ℕ
obj_kind Scanned = codes "scanned"
obj_kind Atomic = codes "atomic"

abbrev pub reg_kind : RegKind → List ℕ
reg_kind Normal = codes "normal"
reg_kind IgnoreSelf = codes "ignore_self"
reg_kind NoOrder = codes "no_order"

abbrev pub link_kind : LinkKind → List ℕ
link_kind Short = codes "short"
link_kind Long = codes "long"

-- the number of the frame, then the number of the slot
abbrev pub slot_words : Slot → List Token
slot_words slot = Number slot.frame ∷ Number slot.slot ∷ []

abbrev pub place_words : Place → List Token
place_words place = slot_words place.slot ++ Number place.offset ∷ []

-- a rank is optional
abbrev pub rank_words : Option ℕ → List Token
rank_words None = []
rank_words (Some rank) = Rank rank ∷ []

abbrev pub finalizer_words : Finalizer → List Token
finalizer_words finalizer = Text (reg_kind finalizer.kind) ∷ Number finalizer.procedure ∷ Number finalizer.client_data ∷ rank_words finalizer.rank

-- The words of a call's line, in order: the verb, then the fields. To add a verb, add a clause here; everything else about lines follows from it.
abbrev pub call_words : WorldCall → List Token
call_words (calls.Alloc slot size kind) = Text (codes "new") ∷ slot_words slot ++ Number size ∷ Text (obj_kind kind) ∷ []
call_words (calls.Copy slot to) = Text (codes "copy") ∷ slot_words slot ++ slot_words to
call_words (calls.Load place to) = Text (codes "load") ∷ place_words place ++ slot_words to
call_words (calls.Store place from) = Text (codes "store") ∷ place_words place ++ slot_words from
call_words (calls.Set slot word) = Text (codes "set") ∷ slot_words slot ++ Number word ∷ []
call_words (calls.Register slot finalizer) = Text (codes "register") ∷ slot_words slot ++ finalizer_words finalizer
call_words (calls.Unregister slot) = Text (codes "unregister") ∷ slot_words slot
call_words (calls.Link which place target) = Text (codes "link") ∷ Text (link_kind which) ∷ place_words place ++ slot_words target
call_words (calls.Unlink which place) = Text (codes "unlink") ∷ Text (link_kind which) ∷ place_words place
call_words (calls.Move which place to) = Text (codes "move") ∷ Text (link_kind which) ∷ place_words place ++ place_words to
call_words calls.Begin = Text (codes "begin") ∷ []
call_words (calls.Mark budget) = Text (codes "mark") ∷ Number budget ∷ []
call_words calls.Pause = Text (codes "pause") ∷ []
call_words calls.Collect = Text (codes "collect") ∷ []
call_words calls.Close = Text (codes "close") ∷ []
call_words calls.Outstanding = Text (codes "outstanding") ∷ []

abbrev pub open_words : ℕ → ℕ → ℕ → List Token
open_words blocks frames workers = Text (codes "open") ∷ Number blocks ∷ Number frames ∷ Number workers ∷ []

-- the words of a step's line
abbrev pub words : Step → List Token
words (Open blocks frames workers) = open_words blocks frames workers
words (Call call) = call_words call
words (Take worker) = Text (codes "take") ∷ Number worker ∷ []
words (Hold worker slot) = Text (codes "hold") ∷ Number worker ∷ slot_words slot
words (Finish worker) = Text (codes "finish") ∷ Number worker ∷ []
words (Forfeit worker) = Text (codes "forfeit") ∷ Number worker ∷ []

-- numbers are decimal: digits only, without leading zeros
abbrev pub text : Token → List ℕ
text (Number n) = decimal n
text (Rank n) = decimal n
text (Text letters) = letters

-- words are separated by one space (byte 32), with none before the first or after the last
abbrev pub spelling : Step → List ℕ
spelling step = join_with_byte 32 (map text (words step))

-- a number in a line is less than 2 ^ 64, and a rank less than 256
abbrev pub IsToken : Token → Type 0
IsToken (Number n) = n < 2 ^ 64
IsToken (Rank n) = n < 2 ^ 8
IsToken (Text letters) = Unit {0}

abbrev pub Fits : Step → Type 0
Fits step = AllByRecursion IsToken (words step)
