-- Stretches of a block in which no object starts.
use Rattle.std.proofs.Common.{◌≡◌, ◌≢◌, ℕ, ◌+◌, ◌-◌, ◌/◌, ◌%◌, ◌^◌, ◌<◌, ◌≤◌, false, not, List, is_some, sym, ap, ◌∙◌, ⊎_elim, arith, nat_eq, w64}
use Rattle.std.proofs.lemmas.Nat.{shr-shr, shr_le}
use Rattle.std.proofs.lemmas.Nat.Bits.{bit_at-trailing_zeros}
use Rattle.std.proofs.lemmas.Bool.{cases_eq, cases_Bool, both_ways}
use Rattle.std.specs.Int.{bit_at, trailing_zeros}
use Rattle.std.specs.FinMap.{get, contains_key}
use Rattle.fz_model.specs.Allocation.{block_start}
use Rattle.fz_model.specs.Bits.{has_bit}
use Rattle.fz_model.specs.State.{Map, Object}
use Rattle.fz_model.specs.Parts.{AreSound}
use Rattle.fz_model.specs.declared.answers.Registration.{Registration}
use Rattle.fz_model.specs.declared.answers.Entry.{Entry}
use Rattle.fz_model.proofs.Sound.{is_some_of}
use Rattle.fz_model.proofs.Bits.{no_bits, off_bit}

-- the bits behind a place, as far as they are zero
pub empty_behind : (word place behind p : ℕ) → word < 2 ^ 64 → behind ≡ word / 2 ^ place / 2 ^ 1 → place < p → p < place + 1 + trailing_zeros w64 behind → has_bit word p ≡ false
empty_behind word place behind p fits is after before =
    let at : (place + 1) + (p - place - 1) ≡ p = omega (arith, after) in
    let low : p - place - 1 < trailing_zeros w64 behind = omega (arith, after, before) in
    let all = is ∙ shr-shr word place 1 in
    let bit : bit_at behind (p - place - 1) ≡ bit_at word p = ap (λ n. bit_at n (p - place - 1)) all ∙ ap (λ n. n % 2) (shr-shr word (place + 1) (p - place - 1)) ∙ ap (bit_at word) at in
    ⊎_elim
    (λ (none : behind ≡ 0). ap (λ n. nat_eq n 1) (sym bit) ∙ ap (λ n. has_bit n (p - place - 1)) none ∙ no_bits (p - place - 1))
    (λ (some : behind ≢ 0). ap (λ n. nat_eq n 1) (sym bit) ∙ off_bit behind (p - place - 1) ((bit_at-trailing_zeros w64 behind (omega (arith, some)) (omega (arith, fits, all, shr_le word (place + 1)))).2 (p - place - 1) low))
    (cases_eq behind 0)

-- so no object starts there
pub none_starts : (objects : Map Object) (word address result : ℕ) → word < 2 ^ 64 → 65536 ≤ address → ((place : ℕ) → place < 64 → has_bit word place ≡ contains_key objects (block_start ((address - 65536) / 64) + place)) → (behind empty : ℕ) → behind ≡ word / 2 ^ ((address - 65536) % 64) / 2 ^ 1 → empty ≤ trailing_zeros w64 behind → empty ≤ 63 - (address - 65536) % 64 → result ≡ address + 1 + empty → (a : ℕ) → address < a → a < result → contains_key objects a ≡ false
none_starts objects word address result fits high starts behind empty is few short result_is a after before =
    let place = (address - 65536) % 64 in
    let at : block_start ((address - 65536) / 64) + (place + (a - address)) ≡ a = omega (arith, high, after) in
    let small : place + (a - address) < 64 = omega (arith, short, result_is, before, after) in
    ap (contains_key objects) (sym at) ∙ sym (starts (place + (a - address)) small)
    ∙ empty_behind word place behind (place + (a - address)) fits is (omega (arith, after)) (omega (arith, few, result_is, before, after))

-- and none is registered where none starts
pub none_registered : (objects : Map Object) (registrations : Map Registration) (n : ℕ) (queue held : List Entry) → AreSound objects registrations n queue held → (a : ℕ) → contains_key objects a ≡ false → contains_key registrations a ≡ false
unfolding AreSound
none_registered objects registrations n queue held sound a none =
    ⊎_elim
    (λ on. let r = is_some_of (get registrations a) (ap not on) in let o = sound.exists a r.0 r.1 in absurd (both_ways _ none (ap is_some o.1)))
    (λ off. off)
    (cases_Bool (contains_key registrations a))
