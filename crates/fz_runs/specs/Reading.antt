-- Reading lines one by one.
-- code: fz_runs/src/text/input.rt, chunk.rt
use Rattle.std.specs.Prelude.{◌≡◌, ◌≢◌, ℕ, ◌≤◌, ◌+◌, List, [], ◌∷◌, ◌++◌, Option, Some, None, Bool, true, false, Result, Ok, Err, length, take, drop}
use Rattle.fz_runs.specs.declared.text.chunk.Chunk.{Chunk}
use Rattle.fz_runs.specs.declared.text.input.Ending.{Ending}
use Rattle.fz_runs.specs.declared.text.input.Ending.TheVariants.{Whole, Last, Nothing, TooLong}
use Rattle.std.specs.Io.KnownBytes.{Consumes, IsAtEnd}
use Rattle.fz_runs.specs.Devices.{Feed}
use Rattle.fz_runs.specs.Lines.{IsOneLine, max_line}

-- the bytes of a buffer that were read and not consumed
abbrev pub unread : Chunk → List ℕ
unread chunk = drop chunk.at (take chunk.len chunk.bytes)

-- the bytes that were consumed for a line, depending on how it ends
abbrev pub TakenFor : Ending → List ℕ → List ℕ → Type 0
TakenFor Whole line bytes = bytes ≡ line ++ 10 ∷ []
TakenFor Last line bytes = (bytes ≡ line) × (line ≢ [])
TakenFor Nothing line bytes = (bytes ≡ []) × (line ≡ [])
TakenFor TooLong line bytes = (b : ℕ) × (bytes ≡ line ++ b ∷ []) × (b ≢ 10) × (length line ≡ max_line)

abbrev pub EndsInput : Ending → Option (List ℕ) → Type 0
EndsInput Whole left = Unit {0}
EndsInput Last left = IsAtEnd left
EndsInput Nothing left = IsAtEnd left
EndsInput TooLong left = Unit {0}

-- the next line was read, or the reader failed first
abbrev pub Reads : {E : Type 0} → Feed → Result Ending E → List ℕ → List ℕ → Feed → Type 0
Reads old (Ok ending) line unread new =
    ((bytes : List ℕ) × TakenFor ending line bytes × Consumes old.remaining new.remaining bytes) × EndsInput ending new.remaining × IsOneLine line × (length line ≤ max_line)
    × (new.failures ≡ old.failures)
Reads old (Err e) line unread new =
    Consumes old.remaining new.remaining line × IsOneLine line × (length line ≤ max_line) × (unread ≡ []) × (new.failures ≡ old.failures + 1)

-- the buffer has an unread byte, or the input has ended, or the reader failed
abbrev pub Fills : {E : Type 0} → Feed → Result Bool E → List ℕ → Feed → Type 0
Fills old (Ok true) unread new = Consumes old.remaining new.remaining [] × (unread ≢ []) × (new.failures ≡ old.failures)
Fills old (Ok false) unread new = Consumes old.remaining new.remaining [] × IsAtEnd new.remaining × (new.failures ≡ old.failures)
Fills old (Err e) unread new = Consumes old.remaining new.remaining [] × (unread ≡ []) × (new.failures ≡ old.failures + 1)

-- unread bytes were moved to the end of the line: up to its LF, up to the one byte too many, or all of them
abbrev pub MovesLine : List ℕ → List ℕ → Option Ending → List ℕ → List ℕ → Type 0
MovesLine unread line (Some Whole) unread' line' =
    (part : List ℕ) × (unread ≡ (part ++ 10 ∷ []) ++ unread') × (line' ≡ line ++ part) × IsOneLine part × (length line' ≤ max_line)
MovesLine unread line (Some TooLong) unread' line' =
    (part : List ℕ) × (b : ℕ) × (unread ≡ (part ++ b ∷ []) ++ unread') × (b ≢ 10) × (line' ≡ line ++ part) × IsOneLine part × (length line' ≡ max_line)
MovesLine unread line (Some _) unread' line' = ⊥
MovesLine unread line None unread' line' = (unread' ≡ []) × (line' ≡ line ++ unread) × IsOneLine unread × (length line' ≤ max_line)

-- how a line ends that reaches the end of the input
abbrev pub EndsWithInput : Ending → List ℕ → Type 0
EndsWithInput Whole line = ⊥
EndsWithInput Last line = line ≢ []
EndsWithInput Nothing line = line ≡ []
EndsWithInput TooLong line = ⊥
