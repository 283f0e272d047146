-- A look through a handle, from what its parts ensure.
use Rattle.std.proofs.Common.{◌≡◌, ℕ, Option, Some, None, Result, refl, sym, subst}
use Rattle.fz_model.specs.declared.refusal.Refusal.{Refusal}
use Rattle.fz_c.specs.declared.world.codes.TheConstants.{NO_WORLD}
use Rattle.fz_c.specs.Owned.{Held}
use Rattle.fz_c.specs.Told.{IsTold, IsFound, Looks, Reads, Finds}

pub not_looked : {old new : Option Held} (told : Held → Type 0) (kept : Type 0) → old ≡ None → new ≡ None → kept → Looks old new NO_WORLD told kept
unfolding Looks
not_looked {old = old} {new = new} told kept o n k = subst (λ (v : Option Held). Looks v new NO_WORLD told kept) (sym o) (n, refl, k)

-- the session came out of the handle, was looked at, and went back
pub looked : {old new : Option Held} (code : ℕ) (told : Held → Type 0) (kept : Type 0) (before session : Held) → session ≡ before → old ≡ Some before → new ≡ Some before → told session → Looks old new code told kept
unfolding Looks
looked {old = old} {new = new} code told kept before session s o n is = subst (λ (v : Option Held). Looks v new code told kept) (sym o) (n, subst told s is)

pub not_read : {X : Type 0} {old new : Option Held} (Is : Held → Result X Refusal → Type 0) (told : X → Type 0) (kept : Type 0) → old ≡ None → new ≡ None → kept → Reads old new NO_WORLD Is told kept
unfolding Reads
not_read {new = new} Is told kept o n k = subst (λ (v : Option Held). Reads v new NO_WORLD Is told kept) (sym o) (n, refl, k)

pub reads : {X : Type 0} {old new : Option Held} (code : ℕ) (Is : Held → Result X Refusal → Type 0) (told : X → Type 0) (kept : Type 0) (before session : Held) (reply : Result X Refusal)
    → session ≡ before → old ≡ Some before → new ≡ Some before → Is session reply → IsTold reply code told kept → Reads old new code Is told kept
unfolding Reads
reads {new = new} code Is told kept before session reply s o n is is_told =
    subst (λ (v : Option Held). Reads v new code Is told kept) (sym o) (n, (reply, subst (λ (h : Held). Is h reply) s is, is_told))

pub not_found : {X : Type 0} {old new : Option Held} (Is : Held → Option X → Type 0) (told : X → Type 0) (kept : Type 0) → old ≡ None → new ≡ None → kept → Finds old new NO_WORLD Is told kept
unfolding Finds
not_found {new = new} Is told kept o n k = subst (λ (v : Option Held). Finds v new NO_WORLD Is told kept) (sym o) (n, refl, k)

pub finds : {X : Type 0} {old new : Option Held} (code : ℕ) (Is : Held → Option X → Type 0) (told : X → Type 0) (kept : Type 0) (before session : Held) (found : Option X)
    → session ≡ before → old ≡ Some before → new ≡ Some before → Is session found → IsFound found code told kept → Finds old new code Is told kept
unfolding Finds
finds {new = new} code Is told kept before session found s o n is is_told =
    subst (λ (v : Option Held). Finds v new code Is told kept) (sym o) (n, (found, subst (λ (h : Held). Is h found) s is, is_told))
