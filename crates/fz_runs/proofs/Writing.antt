-- Writes in a row.
use Rattle.std.proofs.Common.{◌≡◌, ◌≢◌, ℕ, zero, suc, ◌+◌, ◌-◌, List, ◌++◌, Option, Some, ◌∙◌, ap, sym, refl, append_assoc, take, drop, arith, length, take-append-drop}
use Rattle.std.proofs.KnownBytes.{Appends-trans}
use Rattle.std.proofs.lemmas.List.{take_rest}
use Rattle.std.specs.Io.KnownBytes.{Appends}
use Rattle.fz_runs.specs.Devices.{Log, Gains, write_failures}

-- one more write of a front of what is left
pub written_more : (a b c : Option (List ℕ)) (bytes rest : List ℕ) (n : ℕ) → ((done : List ℕ) × (bytes ≡ done ++ rest) × Appends a b done) → Appends b c (take n rest)
    → (done : List ℕ) × (bytes ≡ done ++ take (length rest - n) (drop n rest)) × Appends a c done
written_more a b c bytes rest n h w = (
  h.0 ++ take n rest,
  h.1 ∙ ap (λ r. h.0 ++ r) (sym (take-append-drop n rest) ∙ ap (λ r. take n rest ++ r) (sym (take_rest rest n))) ∙ sym (append_assoc h.0 (take n rest) (take (length rest - n) (drop n rest))),
  Appends-trans a b c h.0 (take n rest) h.2 w,
)

-- a write that takes a byte hasn't failed
pub still_works : (offered n : ℕ) (before after : ℕ) → n ≢ 0 → after ≡ before + write_failures offered (Some n) → after ≡ before
still_works zero n before after h m = omega (arith, m)
still_works (suc offered) zero before after h m = absurd (h refl)
still_works (suc offered) (suc n) before after h m = omega (arith, m)

-- one text after another
pub gains_more : (a b c : Log) (text more : List ℕ) → Gains a text b → Gains b more c → Gains a (text ++ more) c
gains_more a b c text more g h = (Appends-trans a.written b.written c.written text more g.0 h.0, h.1 ∙ g.1)
