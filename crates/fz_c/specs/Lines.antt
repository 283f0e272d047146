-- What the calls of a line do through a handle.
-- code: fz_c/src/line/lines.rt, line_session.rt
use Rattle.std.specs.Prelude.{◌≡◌, ◌≢◌, ◌≤◌, ◌<◌, ◌⊎◌, ℕ, Option, true, Some, None, List, [], ◌∷◌, ◌++◌, length}
use Rattle.fz_model.specs.declared.answers.Entry.{Entry}
use Rattle.fz_model.specs.declared.limits.TheConstants.{MAX_WORKERS}
use Rattle.fz_model.specs.declared.refusal.Refusal.{Refusal}
use Rattle.fz_model.specs.declared.refusal.Refusal.TheVariants as refusals
use Rattle.fz_model.specs.Refusals.{code_of}
use Rattle.fz_model.specs.Causes.{IsRefusedFor, bad_count}
use Rattle.fz_line.specs.States.{OwnerState, SeatState, owner_state, new_seats}
use Rattle.fz_line.specs.Views.{sent_limit}
use Rattle.fz_c.specs.declared.line.codes.TheConstants.{OK, NO_WORLD, HAS_WORLD, NOT_NEXT}
use Rattle.fz_c.specs.declared.line.line_session.TheConstants.{FIRST_ROOM}

pub record LineState : Type 0 where
  pub owner : OwnerState
  pub seats : List SeatState  -- those that C hasn't got yet

-- ---- opening

abbrev pub IsNewLine : ℕ → LineState → Type 0
IsNewLine n l = (l.owner ≡ owner_state l.owner.line n FIRST_ROOM [] []) × (l.seats ≡ new_seats l.owner.line n)

abbrev pub Opened : ℕ → Option LineState → ℕ → Type 0
Opened n (Some l) code = (code ≡ OK) × IsNewLine n l
Opened n None code = (r : Refusal) × (code ≡ code_of r) × IsRefusedFor (bad_count MAX_WORKERS n ∷ []) true r

-- a handle that has a line keeps it
abbrev pub Opens : Option LineState → ℕ → Option LineState → ℕ → Type 0
Opens (Some old) n new code = (code ≡ HAS_WORLD) × (new ≡ Some old)
Opens None n new code = Opened n new code

-- ---- publishing

abbrev pub with_sent : LineState → Entry → LineState
with_sent l entry = record l { owner = record l.owner { sent = l.owner.sent ++ entry ∷ [] } }

-- the first of these: 2^62 entries were sent; the entry doesn't have the next number; memory ran out, but not within the room that the line has from its opening
abbrev pub IsWhyNot : LineState → Entry → ℕ → Type 0
IsWhyNot l entry code =
    ((code ≡ code_of refusals.Exhausted) × (sent_limit ≤ length l.owner.sent))
    ⊎ (((code ≡ NOT_NEXT) × (length l.owner.sent < sent_limit) × (entry.seq ≢ length l.owner.sent))
    ⊎ ((code ≡ code_of refusals.NoMemory) × (length l.owner.sent < sent_limit) × (entry.seq ≡ length l.owner.sent) × (l.owner.room ≤ length l.owner.sent)))

-- the entry with the next number is sent, or nothing changes
abbrev pub Publishes : LineState → Entry → LineState → ℕ → Type 0
Publishes old entry new code = ((code ≡ OK) × (entry.seq ≡ length old.owner.sent) × (new ≡ with_sent old entry)) ⊎ ((new ≡ old) × IsWhyNot old entry code)

abbrev pub PublishesBehind : Option LineState → Entry → Option LineState → ℕ → Type 0
PublishesBehind (Some old) entry (Some new) code = Publishes old entry new code
PublishesBehind None entry None code = code ≡ NO_WORLD
PublishesBehind (Some old) entry None code = ⊥
PublishesBehind None entry (Some new) code = ⊥
