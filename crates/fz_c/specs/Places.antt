-- How results are stored in C's variables, and which values of the model C's structs represent.
-- code: fz_c/src/world/objects.rt, finalizers.rt, links.rt, entries.rt, collections.rt
use Rattle.std.specs.Prelude.{◌≡◌, ℕ, Bool, true, false, None}
use Rattle.fz_model.specs.declared.kinds.ObjKind.{ObjKind}
use Rattle.fz_model.specs.declared.kinds.ObjKind.TheVariants as objects
use Rattle.fz_model.specs.declared.kinds.RegKind.{RegKind}
use Rattle.fz_model.specs.declared.kinds.RegKind.TheVariants as kinds
use Rattle.fz_model.specs.declared.answers.Registration as answering
use Rattle.fz_world.specs.declared.shown.Object as showing
use Rattle.fz_model.specs.declared.answers.Entry as answers
use Rattle.fz_model.specs.declared.answers.Passed as passing
use Rattle.fz_model.specs.declared.answers.Progress.{Progress}
use Rattle.fz_model.specs.declared.answers.Progress.TheVariants as progress
use Rattle.fz_model.specs.declared.answers.RegAnswer.{RegAnswer}
use Rattle.fz_model.specs.declared.answers.RegAnswer.TheVariants as registering
use Rattle.fz_model.specs.declared.answers.LinkAnswer.{LinkAnswer}
use Rattle.fz_model.specs.declared.answers.LinkAnswer.TheVariants as linking
use Rattle.fz_model.specs.declared.answers.MoveAnswer.{MoveAnswer}
use Rattle.fz_model.specs.declared.answers.MoveAnswer.TheVariants as moving
use Rattle.fz_c.specs.declared.world.links.TheConstants.{SUCCESS, DUPLICATE, NOT_FOUND}
use Rattle.fz_c.specs.declared.world.objects.Made.{Made}
use Rattle.fz_c.specs.declared.world.collections.Passed.{Passed}
use Rattle.fz_c.specs.declared.world.finalizers.Registered.{Registered}
use Rattle.fz_c.specs.declared.entry.Entry.{Entry}
use Rattle.fz_c.specs.Values.{entry_of, TellsOld}
use Rattle.fz_c.specs.declared.world.shown.Object.{Object}
use Rattle.fz_c.specs.declared.world.shown.Registration.{Registration}
use Rattle.fz_c.specs.declared.world.shown.Linked.{Linked}

abbrev pub kind_of : Bool → ObjKind
kind_of true = objects.Atomic
kind_of false = objects.Scanned

abbrev pub TellsMade : Made → ℕ × ℕ → Type 0
TellsMade made answer = (made.address ≡ answer.0) × (made.birth ≡ answer.1)

abbrev pub TellsWord : ℕ → ℕ → Type 0
TellsWord word answer = word ≡ answer

abbrev pub TellsDone : Bool → Progress → Type 0
TellsDone done progress.More = done ≡ false
TellsDone done progress.Done = done ≡ true

abbrev pub TellsPassed : Passed → passing.Passed → Type 0
TellsPassed passed answer = (passed.pass ≡ answer.pass) × (passed.picked ≡ answer.picked) × (passed.reclaimed ≡ answer.reclaimed)

abbrev pub TellsLinkAnswer : ℕ → LinkAnswer → Type 0
TellsLinkAnswer code linking.Success = code ≡ SUCCESS
TellsLinkAnswer code linking.Duplicate = code ≡ DUPLICATE

abbrev pub TellsUnlinked : Bool → Bool → Type 0
TellsUnlinked was answer = was ≡ answer

abbrev pub TellsMoved : ℕ → MoveAnswer → Type 0
TellsMoved code moving.Success = code ≡ SUCCESS
TellsMoved code moving.Duplicate = code ≡ DUPLICATE
TellsMoved code moving.NotFound = code ≡ NOT_FOUND

abbrev pub TellsRegistered : Registered → RegAnswer → Type 0
TellsRegistered registered registering.Outside = (registered.made ≡ false) × (registered.number ≡ 0) × TellsOld registered.replaced None
TellsRegistered registered (registering.Number number old) = (registered.made ≡ true) × (registered.number ≡ number) × TellsOld registered.replaced old

abbrev pub TellsEntry : Entry → answers.Entry → Type 0
TellsEntry entry answer = entry_of entry ≡ answer

abbrev pub TellsObject : Object → showing.Object → Type 0
TellsObject object shown = (object.start ≡ shown.start) × (object.size ≡ shown.size) × (object.birth ≡ shown.birth) × (kind_of object.atomic ≡ shown.kind)

abbrev pub number_of : RegKind → ℕ
number_of kinds.Normal = 0
number_of kinds.IgnoreSelf = 1
number_of kinds.NoOrder = 2

abbrev pub TellsRegistration : Registration → ℕ × answering.Registration → Type 0
TellsRegistration r (object, shown) =
    (r.object ≡ object) × (r.number ≡ shown.number) × (r.proc ≡ shown.proc) × (r.cd ≡ shown.cd) × (r.kind ≡ number_of shown.kind) × (r.rank ≡ shown.rank)

abbrev pub TellsLinked : Linked → ℕ × ℕ → Type 0
TellsLinked linked (place, target) = (linked.place ≡ place) × (linked.target ≡ target)
