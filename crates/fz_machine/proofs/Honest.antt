-- What words that are true of a graph say about the places of a sweep's items.
use Rattle.std.proofs.Common.{◌≡◌, ◌∙◌, ◌++◌, ◌∷◌, ◌+◌, ◌*◌, [], ℕ, Bool, true, false, cond, List, Option, Some, IsTrue, nat_eq, not, refl, ap, sym, subst}
use Rattle.std.proofs.lemmas.Bool.{eqb-true, not-true, both_ways, true≢false}
use Rattle.std.proofs.lemmas.Option.{none-some, same_Some}
use Rattle.std.specs.Map.{lookup}
use Rattle.fz_model.specs.Bits.{has_bit}
use Rattle.fz_pass.proofs.Picked.{map_or_true}
use Rattle.fz_machine.specs.declared.item.Item.{Item}
use Rattle.fz_machine.specs.declared.question.Ask.{Ask}
use Rattle.fz_machine.specs.Graph.{AreHonestWords, Graph, is_told}
use Rattle.fz_machine.specs.Regions.{is_marked, is_unmarked, place_in, region_of}
use Rattle.fz_machine.proofs.Among.{Each}
use Rattle.fz_machine.proofs.Places.{object_back, place_less}

-- of these numbers, those that were told marked pass the test, and those that were told unmarked don't
pub record Knows (test : ℕ → Bool) (P : ℕ → Type 0) (told : List (ℕ × ℕ)) : Type 0 where
  pub on : (n : ℕ) → P n → is_marked told n ≡ true → test n ≡ true
  pub off : (n : ℕ) → P n → is_unmarked told n ≡ true → test n ≡ false

-- so one that doesn't pass wasn't told marked
pub not_told : (test : ℕ → Bool) (P : ℕ → Type 0) (told : List (ℕ × ℕ)) → Knows test P told → (n : ℕ) → P n → test n ≡ false → is_marked told n ≡ false
not_told test P told knows n of un = by (is_marked told n) refl
  where
    by : (b : Bool) → is_marked told n ≡ b → b ≡ false
    by false is = refl
    by true is = absurd (both_ways (test n) un (knows.on n of is))

-- what is asked about an item is known to be false
abbrev pub IsFalseOf : (ℕ → Bool) → (Item → ℕ) → Item → Type 0
IsFalseOf test number item = IsTrue item.known → test (number item) ≡ false

-- an item's object, and its word
abbrev pub object_of : Item → ℕ
object_of item = item.object

abbrev pub word_in : Item → ℕ
word_in item = item.word

-- of nothing that was told, nothing is known
pub none_known : (test : ℕ → Bool) (P : ℕ → Type 0) → Knows test P []
none_known test P = record { on = λ n of is. absurd (true≢false (sym is)); off = λ n of is. absurd (true≢false (sym is)) }

-- what was told unmarked is known to be false
pub known_false : (test : ℕ → Bool) (P : ℕ → Type 0) (told : List (ℕ × ℕ)) (number : Item → ℕ) → Knows test P told → (items : List Item) → Each (λ (i : Item). P (number i)) items → Each (λ (i : Item). IsTrue i.known → is_unmarked told (number i) ≡ true) items
    → Each (IsFalseOf test number) items
known_false test P told number knows [] of known = tt
known_false test P told number knows (item ∷ items) of known = (λ is. knows.off (number item) of.0 (known.0 is), known_false test P told number knows items of.1 known.1)

module _ (place : ℕ → Option ℕ) (ask : Ask) (P : ℕ → Type 0) (g : Graph) where
  says : (told : List (ℕ × ℕ)) → AreHonestWords place ask P g told → (n word : ℕ) → P n → lookup (nat_eq (region_of n)) told ≡ Some word → has_bit word (place_in n) ≡ is_told place ask g n
  says [] honest n word of is = absurd (none-some word is)
  says (r ∷ told) honest n word of is = by (nat_eq (region_of n) r.0) refl is (λ it. says told honest.1 n word of it)
    where
      by : (b : Bool) → nat_eq (region_of n) r.0 ≡ b → cond b (Some r.1) (lookup (nat_eq (region_of n)) told) ≡ Some word → (lookup (nat_eq (region_of n)) told ≡ Some word → has_bit word (place_in n) ≡ is_told place ask g n) → has_bit word (place_in n) ≡ is_told place ask g n
      by true here it rest =
          let same : r.0 + 16 * place_in n ≡ n = ap (λ x. x + 16 * place_in n) (sym (eqb-true (region_of n) r.0 here)) ∙ object_back n in
          ap (λ w. has_bit w (place_in n)) (sym (same_Some r.1 word it)) ∙ honest.0 (place_in n) (place_less n) (subst P (sym same) of) ∙ ap (is_told place ask g) same
      by false there it rest = rest it

  pub knows : (told : List (ℕ × ℕ)) → AreHonestWords place ask P g told → Knows (is_told place ask g) P told
  knows told honest = record {
    on = λ n of is. let w = map_or_true (λ (word : ℕ). has_bit word (place_in n)) (lookup (nat_eq (region_of n)) told) is in sym (says told honest n w.0 of w.1) ∙ w.2;
    off = λ n of is. let w = map_or_true (λ (word : ℕ). not (has_bit word (place_in n))) (lookup (nat_eq (region_of n)) told) is in sym (says told honest n w.0 of w.1) ∙ not-true (has_bit w.0 (place_in n)) w.2;
  }

  -- words that are told one after another
  pub honest_more : (told more : List (ℕ × ℕ)) → AreHonestWords place ask P g told → AreHonestWords place ask P g more → AreHonestWords place ask P g (told ++ more)
  honest_more [] more h k = k
  honest_more (r ∷ told) more h k = (h.0, honest_more told more h.1 k)
