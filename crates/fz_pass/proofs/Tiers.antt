-- The two rounds of a pass.
use Rattle.std.proofs.Common.{◌≡◌, ◌↔◌, ◌&&◌, ◌||◌, ℕ, Bool, true, false, not, nat_lt, List, get_or, Option, Some, None, is_some, sym, ap, ◌∙◌, refl, arith, IsTrue}
use Rattle.std.proofs.lemmas.Bool.Decides.{nat_tests}
use Rattle.std.proofs.lemmas.Bool.{true≢false, and_parts, and_from, not-true}
use Rattle.std.proofs.lemmas.Option.{slice_get-get_or}
use Rattle.std.specs.FinMap.{get, contains_key}
use Rattle.std.specs.FinSet as sets
use Rattle.std.specs.FinSet.{contains}
use Rattle.fz_model.specs.declared.answers.Pick.{Pick}
use Rattle.fz_model.specs.declared.answers.Registration.{Registration}
use Rattle.fz_model.specs.State.{Map, Object}
use Rattle.fz_model.proofs.Sound.{left_other}
use Rattle.fz_table.specs.Tabled.{Content, Set}
use Rattle.fz_table.proofs.Flagged.{none_flagged}
use Rattle.fz_pass.specs.Marks.{AreReached}
use Rattle.fz_pass.specs.Picking.{Picks}
use Rattle.fz_pass.specs.Queued.{is_ready}
use Rattle.fz_pass.specs.Tiers.{is_other, skips, tiered}
use Rattle.fz_pass.proofs.Picked.{flags_other}

-- what a round doesn't pass over isn't marked, and has the round's flag
off : (m o : Bool) → not (m || o) ≡ true → m ≡ false
off false o h = refl
off true o h = absurd (true≢false (sym h))

own : (m o : Bool) → not (m || o) ≡ true → o ≡ false
own false false h = refl
own false true h = absurd (true≢false (sym h))
own true o h = absurd (true≢false (sym h))

flag_is : (second flag : Bool) → is_other second flag ≡ false → flag ≡ second
flag_is true true h = refl
flag_is true false h = absurd (true≢false h)
flag_is false flag h = h

module _ (second : Bool) (late marked : ℕ → Bool) (a : ℕ) where
  pub unskipped_off : IsTrue (not (skips second late marked a)) → marked a ≡ false
  unskipped_off h = off (marked a) (is_other second (late a)) h

  pub unskipped : IsTrue (not (skips second late marked a)) → IsTrue (not (marked a))
  unskipped h = ap not (unskipped_off h)

  pub flag_of_round : IsTrue (not (skips second late marked a)) → late a ≡ second
  flag_of_round h = flag_is second (late a) (own (marked a) (is_other second (late a)) h)

  pub not_skipped : late a ≡ second → marked a ≡ false → IsTrue (not (skips second late marked a))
  not_skipped flag free = ap (λ m. not (m || is_other second (late a))) free ∙ ap (λ f. not (is_other second f)) flag ∙ same second
    where
      same : (s : Bool) → not (is_other s s) ≡ true
      same true = refl
      same false = refl

  module _ (m : Map Registration) where
    pub ready_off : IsTrue (is_ready second late m marked a) → marked a ≡ false
    ready_off h = unskipped_off (and_parts (contains_key m a) (not (skips second late marked a)) h).1

    pub ready_flag : IsTrue (is_ready second late m marked a) → late a ≡ second
    ready_flag h = flag_of_round (and_parts (contains_key m a) (not (skips second late marked a)) h).1

    pub is_ready_now : (r : Registration) → get m a ≡ Some r → late a ≡ second → marked a ≡ false → IsTrue (is_ready second late m marked a)
    is_ready_now r here flag free = and_from (contains_key m a) (not (skips second late marked a)) (ap is_some here) (not_skipped flag free)

-- without tiers, or where no flag is set, there are no flags
pub none_late : (tiers : Bool) (late : Set) → (tiers && nat_lt 0 (sets.len late)) ≡ false → (a : ℕ) → tiered tiers late a ≡ false
none_late false late off a = refl
none_late true late off a = none_flagged late (let none : nat_lt 0 (sets.len late) ≡ false = off in grind (arith, nat_tests)) a

-- two flags that are the same at what is registered
module _ (second : Bool) (late other : ℕ → Bool) (m : Map Registration) (marked : ℕ → Bool) (same : (a : ℕ) (r : Registration) → get m a ≡ Some r → late a ≡ other a) where
  pub same_ready : (a : ℕ) → is_ready second late m marked a ≡ is_ready second other m marked a
  same_ready a = at (get m a) refl
    where
      at : (o : Option Registration) → get m a ≡ o → (is_some (get m a) && not (skips second late marked a)) ≡ (is_some (get m a) && not (skips second other marked a))
      at None gone = ap (λ o. is_some o && not (skips second late marked a)) gone ∙ sym (ap (λ o. is_some o && not (skips second other marked a)) gone)
      at (Some r) here = ap (λ f. is_some (get m a) && not (marked a || is_other second f)) (same a r here)

  pub same_reached : (objects : Map Object) (a : ℕ) → AreReached objects m (skips second late marked) a ↔ AreReached objects m (skips second other marked) a
  same_reached objects a = (
    λ (o, r, here, off, leads). (o, r, here, sym (ap (λ f. not (marked o || is_other second f)) (same o r here)) ∙ off, leads),
    λ (o, r, here, off, leads). (o, r, here, ap (λ f. not (marked o || is_other second f)) (same o r here) ∙ off, leads),
  )

-- what picks leave has its flag as before
pub flag_left : (objects : Map Object) (test : ℕ → Bool) (table mid : Content) (out mid_out : List Pick) → Picks objects test table mid out mid_out → (a : ℕ) (r : Registration) → get mid.registrations a ≡ Some r → contains mid.late a ≡ contains table.late a
flag_left objects test table mid out mid_out p a r here =
    ap (λ (t : Content). contains t.late a) p.table_is
    ∙ flags_other table.late p.picks a (λ i d lt same. left_other table.registrations p.picks a r (ap (λ (t : Content). get t.registrations a) (sym p.table_is) ∙ here) i (get_or p.picks i d) (slice_get-get_or p.picks i d lt) (sym same))

pub unskips : (second : Bool) (late marked : ℕ → Bool) (a : ℕ) → late a ≡ second → marked a ≡ false → skips second late marked a ≡ false
unskips second late marked a flag free = not-true (skips second late marked a) (not_skipped second late marked a flag free)

-- the first round passes over what is flagged
pub skips_flagged : (late marked : ℕ → Bool) (a : ℕ) → late a ≡ true → skips false late marked a ≡ true
skips_flagged late marked a on = ap (λ f. marked a || f) on ∙ either (marked a)
  where
    either : (b : Bool) → (b || true) ≡ true
    either true = refl
    either false = refl
