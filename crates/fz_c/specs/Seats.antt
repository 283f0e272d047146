-- What the calls of a seat do through a handle.
-- code: fz_c/src/line/seats.rt, seat_session.rt
use Rattle.std.specs.Prelude.{◌≡◌, ◌+◌, ◌⊎◌, ℕ, Option, Some, None, [], ◌∷◌, ◌++◌}
use Rattle.fz_model.specs.declared.answers.Entry.{Entry}
use Rattle.fz_model.specs.declared.refusal.Refusal.TheVariants as refusals
use Rattle.fz_model.specs.Refusals.{code_of}
use Rattle.fz_line.specs.Takes.{GainsEntry}
use Rattle.fz_line.specs.declared.seat.Take.{Take}
use Rattle.fz_line.specs.declared.seat.Take.TheVariants as take
use Rattle.fz_c.specs.Lines.{LineState}
use Rattle.fz_c.specs.declared.line.codes.TheConstants.{OK, NO_WORLD, HAS_WORLD, EMPTY, BUSY, IN_HAND}
use Rattle.fz_c.specs.declared.line.seat_session.SeatSession.{SeatSession}
use Rattle.fz_c.specs.declared.line.seat_session.SeatSession.TheVariants.{Idle, Working, Away}

---- taking: C gets the entry that the seat took, or its variable is unchanged

abbrev pub Takes : SeatSession → SeatSession → ℕ → (Entry → Type 0) → Type 0 → Type 0
Takes (Idle seat) (Working duty) code told kept = (code ≡ OK) × GainsEntry seat duty × told duty.entry
Takes (Idle seat) (Idle same) code told kept = (same ≡ seat) × ((code ≡ EMPTY) ⊎ (code ≡ BUSY)) × kept
Takes (Idle seat) Away code told kept = ⊥
Takes (Working duty) new code told kept = (new ≡ Working duty) × (code ≡ IN_HAND) × kept
Takes Away new code told kept = (new ≡ Away) × (code ≡ NO_WORLD) × kept

-- the code for what a take returned
abbrev pub code_of_take : Take → ℕ
code_of_take (take.Taken duty) = OK
code_of_take (take.Empty seat) = EMPTY
code_of_take (take.Busy seat) = BUSY

-- an idle seat asks the front once, and the code says what the front replied; the others leave the front as it is
abbrev pub Asks : SeatSession → (Take → Type 0) → Type 0 → ℕ → Type 0
Asks (Idle seat) told same code = (taken : Take) × told taken × (code ≡ code_of_take taken)
Asks (Working duty) told same code = same
Asks Away told same code = same

abbrev pub AsksBehind : Option SeatSession → (Take → Type 0) → Type 0 → ℕ → Type 0
AsksBehind (Some session) told same code = Asks session told same code
AsksBehind None told same code = same

-- each result of the line gives the matching code. Means only.
abbrev pub AnswersTake : Take → SeatSession → ℕ → (Entry → Type 0) → Type 0 → Type 0
AnswersTake (take.Taken duty) (Working same) code told kept = (same ≡ duty) × (code ≡ OK) × told duty.entry
AnswersTake (take.Empty seat) (Idle same) code told kept = (same ≡ seat) × (code ≡ EMPTY) × kept
AnswersTake (take.Busy seat) (Idle same) code told kept = (same ≡ seat) × (code ≡ BUSY) × kept
AnswersTake _ _ _ _ _ = ⊥

abbrev pub TakesBehind : Option SeatSession → Option SeatSession → ℕ → (Entry → Type 0) → Type 0 → Type 0
TakesBehind (Some old) (Some new) code told kept = Takes old new code told kept
TakesBehind (Some old) None code told kept = ⊥
TakesBehind None new code told kept = (new ≡ None) × (code ≡ NO_WORLD) × kept

-- ---- finishing

abbrev pub Finishes : SeatSession → SeatSession → ℕ → Type 0
Finishes (Working duty) new code = (new ≡ Idle (record duty.seat { finished = duty.seat.finished + 1 })) × (code ≡ OK)
Finishes (Idle seat) new code = (new ≡ Idle seat) × (code ≡ EMPTY)
Finishes Away new code = (new ≡ Away) × (code ≡ NO_WORLD)

abbrev pub FinishesBehind : Option SeatSession → Option SeatSession → ℕ → Type 0
FinishesBehind (Some old) (Some new) code = Finishes old new code
FinishesBehind (Some old) None code = ⊥
FinishesBehind None new code = (new ≡ None) × (code ≡ NO_WORLD)

---- getting a seat: the last one that the line has left

abbrev pub HandsNext : LineState → LineState → Option SeatSession → ℕ → Type 0
HandsNext old new (Some (Idle seat)) code = (code ≡ OK) × (old.owner ≡ new.owner) × (old.seats ≡ new.seats ++ seat ∷ [])
HandsNext old new (Some (Working duty)) code = ⊥
HandsNext old new (Some Away) code = ⊥
HandsNext old new None code = (new ≡ old) × (((code ≡ EMPTY) × (old.seats ≡ [])) ⊎ (code ≡ code_of refusals.NoMemory))

abbrev pub HandsOut : Option LineState → Option SeatSession → Option LineState → Option SeatSession → ℕ → Type 0
HandsOut line (Some seat) new handed code = (code ≡ HAS_WORLD) × (new ≡ line) × (handed ≡ Some seat)
HandsOut None None new handed code = (code ≡ NO_WORLD) × (new ≡ None) × (handed ≡ None)
HandsOut (Some old) None (Some new) handed code = HandsNext old new handed code
HandsOut (Some old) None None handed code = ⊥
