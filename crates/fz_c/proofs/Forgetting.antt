-- Forgetting through a handle, from what its parts ensure.
use Rattle.std.proofs.Common.{◌≡◌, ℕ, Option, Some, None, refl, sym, subst}
use Rattle.fz_c.specs.declared.world.codes.TheConstants.{OK, NO_WORLD}
use Rattle.fz_c.specs.Owned.{Held}
use Rattle.fz_c.specs.Forgets.{Forgot, Forgets}

pub not_forgot : {old new : Option Held} (count : ℕ) (kept : Type 0) → old ≡ None → new ≡ None → kept → Forgets old new NO_WORLD count kept
unfolding Forgets
not_forgot {old = old} {new = new} count kept o n k =
    subst (λ (v : Option Held). Forgets v new NO_WORLD count kept) (sym o) (subst (λ (v : Option Held). Forgets None v NO_WORLD count kept) (sym n) (refl, k))

pub forgot : {old new : Option Held} (count : ℕ) (kept : Type 0) (before session after : Held) → session ≡ before → old ≡ Some before → new ≡ Some after → Forgot session after OK count → Forgets old new OK count kept
unfolding Forgets
forgot {old = old} {new = new} count kept before session after s o n did =
    subst (λ (v : Option Held). Forgets v new OK count kept) (sym o) (subst (λ (v : Option Held). Forgets (Some before) v OK count kept) (sym n) (subst (λ (b : Held). Forgot b after OK count) s did))
