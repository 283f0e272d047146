-- The content of a table: the registrations by the addresses of their objects, and the next number.
-- code: fz_table/src/table.rt
use Rattle.std.specs.Prelude.{ℕ, refl}
use Rattle.std.specs.Coded.{Coded, code_by, coded×, coded_ℕ}
use Rattle.std.specs.FinMap as map
use Rattle.fz_model.specs.declared.answers.Registration.{Registration}
use Rattle.fz_model.specs.State.{Map}
use Rattle.fz_model.specs.Codes.{registration_code}

pub record Registered : Type 0 where
  pub registrations : Map Registration
  pub next_number : ℕ

abbrev pub registered_code : Coded Registered
registered_code =
    code_by (Map Registration × ℕ) (coded× (map.code coded_ℕ registration_code) coded_ℕ) (λ t. (t.registrations, t.next_number))
    (λ p. record { registrations = p.0; next_number = p.1 }) (λ _. refl)
