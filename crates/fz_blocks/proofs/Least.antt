-- The least member of a set, as blocks come and go.
use Rattle.std.proofs.Common.{◌≡◌, ℕ, ◌<◌, ◌≤◌, Bool, true, false, cond, not, ◌||◌, ◌&&◌, ◌==◌, nat_le, Option, Some, None, MatchOption, refl, sym, ap, ◌∙◌, ⊎_elim, arith, IsFalse}
use Rattle.std.proofs.lemmas.Bool.{cases_lt, eq-eqb, eqb-true, ne_eqb, leb-true, leb-false, true≢false}
use Rattle.std.specs.Option.{option_map_or}
use Rattle.std.specs.FinSet.{contains, insert, remove}
use Rattle.fz_model.proofs.Sets.{has_inserted, has_removed}
use Rattle.fz_bits.specs.Flags.{IsNext}
use Rattle.fz_blocks.specs.BlockSets.{BlockNumbers, IsLeast, IsLeastOf, lesser}

module _ (set : BlockNumbers) (block : ℕ) where
  now_in : contains (insert set block) block ≡ true
  now_in = has_inserted set block block ∙ ap (λ b. b || contains set block) (eq-eqb block block refl)

  other_in : (n : ℕ) → (n ≡ block → ⊥) → contains (insert set block) n ≡ contains set n
  other_in n ne = has_inserted set block n ∙ ap (λ b. b || contains set n) (ne_eqb n block ne)

  still_in : (n : ℕ) → contains set n ≡ true → contains (insert set block) n ≡ true
  still_in n on = has_inserted set block n ∙ ap (λ b. n == block || b) on ∙ or_true (n == block)
    where
      or_true : (b : Bool) → (b || true) ≡ true
      or_true true = refl
      or_true false = refl

  pub least_inserted : (least : Option ℕ) → IsLeastOf set least → IsLeast (insert set block) (lesser least block)
  least_inserted None none = record { member = now_in; before = λ n lt. other_in n (λ same. omega (arith, lt, same)) ∙ none n }
  least_inserted (Some least) is = at (nat_le least block) refl
    where
      at : (b : Bool) → nat_le least block ≡ b → IsLeast (insert set block) (cond b least block)
      at true low = let le = leb-true least block low in record { member = still_in least is.member; before = λ n lt. other_in n (λ same. omega (arith, lt, same, le)) ∙ is.before n lt }
      at false high = let more = leb-false least block high in record { member = now_in; before = λ n lt. other_in n (λ same. omega (arith, lt, same)) ∙ is.before n (omega (arith, lt, more)) }

  other_left : (n : ℕ) → (n ≡ block → ⊥) → contains (remove set block) n ≡ contains set n
  other_left n ne = has_removed set block n ∙ ap (λ b. not b && contains set n) (ne_eqb n block ne)

  out_still : (n : ℕ) → contains set n ≡ false → contains (remove set block) n ≡ false
  out_still n off = has_removed set block n ∙ ap (λ b. not (n == block) && b) off ∙ and_false (not (n == block))
    where
      and_false : (b : Bool) → (b && false) ≡ false
      and_false true = refl
      and_false false = refl

  -- what the code asks
  pub it_is : (least : Option ℕ) → option_map_or (λ b. b == block) least false ≡ true → least ≡ Some block
  it_is None on = absurd (true≢false (sym on))
  it_is (Some least) on = ap Some (eqb-true least block on)

  pub it_isnt : (least : Option ℕ) → option_map_or (λ b. b == block) least false ≡ false → least ≡ Some block → ⊥
  it_isnt least off same = true≢false (sym (ap (λ o. option_map_or (λ b. b == block) o false) same ∙ eq-eqb block block refl) ∙ off)

  -- where another is the least
  pub least_stays : (least : Option ℕ) → (least ≡ Some block → ⊥) → IsLeastOf set least → IsLeastOf (remove set block) least
  least_stays None other none = λ n. out_still n (none n)
  least_stays (Some least) other is = record { member = other_left least (λ same. other (ap Some same)) ∙ is.member; before = λ n lt. out_still n (is.before n lt) }

  -- where it was the least
  pub least_next : (next : Option ℕ) → IsLeast set block → MatchOption next ((n : ℕ) → block ≤ n → IsFalse (contains (remove set block) n)) (λ b. IsNext (remove set block) block b) → IsLeastOf (remove set block) next
  least_next None was none = λ n. ⊎_elim (λ (low : n < block). out_still n (was.before n low)) (λ (high : block ≤ n). none n high) (cases_lt n block)
  least_next (Some b) was is = record {
    member = is.member;
    before = λ n lt. ⊎_elim (λ (low : n < block). out_still n (was.before n low)) (λ (high : block ≤ n). is.before n high lt) (cases_lt n block);
  }
