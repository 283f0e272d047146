-- What readers deliver and writers receive, in addition to std's definitions. If the bytes of a device aren't known, nothing is claimed about them.
-- code: fz_runs/src/text/device.rt
use Rattle.std.specs.Prelude.{◌≡◌, ◌≢◌, ℕ, zero, suc, ◌+◌, ◌⊎◌, List, [], ◌++◌, Option, Some, None, Result, Ok, Err}
use Rattle.std.specs.Io.KnownBytes.{Appends, prepend_known}

-- the bytes that a reader will deliver, if known, and how many of its reads have failed
pub record Feed : Type 0 where
  pub remaining : Option (List ℕ)
  pub failures : ℕ

-- the reader together with the bytes that were read and not consumed
abbrev pub with_unread : List ℕ → Feed → Feed
with_unread unread feed = record { remaining = prepend_known unread feed.remaining; failures = feed.failures }

-- a read fails if it returns `None`
abbrev pub read_failures : Option ℕ → ℕ
read_failures None = 1
read_failures (Some count) = 0

-- the bytes that a writer received, if known, and how many of its writes have failed
pub record Log : Type 0 where
  pub written : Option (List ℕ)
  pub failures : ℕ

-- a write fails if it returns `None`, or takes none of the bytes offered
abbrev pub write_failures : ℕ → Option ℕ → ℕ
write_failures offered None = 1
write_failures zero (Some count) = 0
write_failures (suc offered) (Some zero) = 1
write_failures (suc offered) (Some (suc count)) = 0

-- the writer received the whole text without a failure
abbrev pub Gains : Log → List ℕ → Log → Type 0
Gains old text new = Appends old.written new.written text × (new.failures ≡ old.failures)

-- the writer received a proper prefix of the text, and failed once
abbrev pub GainsPart : Log → List ℕ → Log → Type 0
GainsPart old text new =
    ((part : List ℕ) × (rest : List ℕ) × (text ≡ part ++ rest) × (rest ≢ []) × Appends old.written new.written part) × (new.failures ≡ old.failures + 1)

-- the whole text was written, or the writer failed meanwhile
abbrev pub Emits : {T E : Type 0} → Log → List ℕ → Result T E → Log → Type 0
Emits old text (Ok x) new = Gains old text new
Emits old text (Err e) new = GainsPart old text new

-- the same, without a result that tells which
abbrev pub Says : Log → List ℕ → Log → Type 0
Says old line new = Gains old line new ⊎ GainsPart old line new
