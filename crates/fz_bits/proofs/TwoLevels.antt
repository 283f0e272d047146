-- A second set with the words of a first one that have members.
use Rattle.std.proofs.Common.{◌≡◌, ◌≢◌, ℕ, ◌*◌, ◌/◌, ◌^◌, ◌≤◌, ◌<◌, ◌⊎◌, true, false, not, ◌||◌, ◌&&◌, nat_cmp, Option, Some, None, IfSome, MatchOption, refl, inl, inr, sym, ap, ◌∙◌, ⊎_elim, arith}
use Rattle.std.proofs.lemmas.Bool.{both_ways, cases_eq, eq-eqb, ne_eqb}
use Rattle.std.specs.Option.{is_some}
use Rattle.std.specs.FinSet.{contains, insert, remove, empty, contains-empty}
use Rattle.fz_bits.specs.Flags.{Set, Flagged, IsNext, AreWordsOf, word_of}
use Rattle.fz_model.proofs.Sets.{has_inserted, has_removed}

pub no_words : (flags words : Flagged) → flags.members ≡ empty → words.members ≡ empty → flags.size ≤ 2 ^ 64 → flags.size ≤ 64 * words.size → AreWordsOf flags words
no_words flags words none none_noted fits room = record {
  fits = fits;
  room = room;
  within = λ n is. absurd (both_ways (contains flags.members n) (ap (λ s. contains s n) none ∙ contains-empty nat_cmp n) is);
  noted = λ n is. absurd (both_ways (contains flags.members n) (ap (λ s. contains s n) none ∙ contains-empty nat_cmp n) is);
  some = λ word is. absurd (both_ways (contains words.members word) (ap (λ s. contains s word) none_noted ∙ contains-empty nat_cmp word) is);
}

-- ---- one number is put in, or taken out

is_in : (s : Set) (n q : ℕ) → contains s q ≡ true → contains (insert s n) q ≡ true
is_in s n q is = has_inserted s n q ∙ ⊎_elim (λ (same : q ≡ n). ap (λ t. t || contains s q) (eq-eqb q n same)) (λ (ne : q ≢ n). ap (λ t. t || contains s q) (ne_eqb q n ne) ∙ is) (cases_eq q n)

itself_in : (s : Set) (n q : ℕ) → q ≡ n → contains (insert s n) q ≡ true
itself_in s n q same = has_inserted s n q ∙ ap (λ t. t || contains s q) (eq-eqb q n same)

was_in : (s : Set) (n q : ℕ) → contains (insert s n) q ≡ true → (q ≡ n) ⊎ (contains s q ≡ true)
was_in s n q is = ⊎_elim inl (λ (ne : q ≢ n). inr (sym (has_inserted s n q ∙ ap (λ t. t || contains s q) (ne_eqb q n ne)) ∙ is)) (cases_eq q n)

still_in : (s : Set) (n q : ℕ) → q ≢ n → contains s q ≡ true → contains (remove s n) q ≡ true
still_in s n q ne is = has_removed s n q ∙ ap (λ t. not t && contains s q) (ne_eqb q n ne) ∙ is

other_in : (s : Set) (n q : ℕ) → contains (remove s n) q ≡ true → (q ≢ n) × (contains s q ≡ true)
other_in s n q is =
    ⊎_elim
    (λ (same : q ≡ n). absurd (both_ways (contains (remove s n) q) (has_removed s n q ∙ ap (λ t. not t && contains s q) (eq-eqb q n same)) is))
    (λ (ne : q ≢ n). (ne, sym (has_removed s n q ∙ ap (λ t. not t && contains s q) (ne_eqb q n ne)) ∙ is))
    (cases_eq q n)

module _ (flags words : Flagged) (are : AreWordsOf flags words) where
  pub words_kept : (new_flags new_words : Flagged) → new_flags.members ≡ flags.members → new_words.members ≡ words.members → flags.size ≤ new_flags.size → new_flags.size ≤ 2 ^ 64 → new_flags.size ≤ 64 * new_words.size → AreWordsOf new_flags new_words
  words_kept new_flags new_words same same_words more fits room = record {
    fits = fits;
    room = room;
    within = λ n is. let lt = are.within n (ap (λ s. contains s n) (sym same) ∙ is) in omega (arith, lt, more);
    noted = λ n is. ap (λ s. contains s (n / 64)) same_words ∙ are.noted n (ap (λ s. contains s n) (sym same) ∙ is);
    some = λ word is. let one = are.some word (ap (λ s. contains s word) (sym same_words) ∙ is) in (one.0, one.1, ap (λ s. contains s one.0) same ∙ one.2);
  }

  pub word_more : (n : ℕ) → n < flags.size → AreWordsOf (record flags { members = insert flags.members n }) (record words { members = insert words.members (n / 64) })
  word_more n lt = record {
    fits = are.fits;
    room = are.room;
    within = λ q is. ⊎_elim (λ (same : q ≡ n). omega (arith, same, lt)) (λ was. are.within q was) (was_in flags.members n q is);
    noted = λ q is.
        ⊎_elim (λ (same : q ≡ n). itself_in words.members (n / 64) (q / 64) (ap (λ k. k / 64) same)) (λ was. is_in words.members (n / 64) (q / 64) (are.noted q was)) (was_in flags.members n q is);
    some = λ word is.
        ⊎_elim
        (λ (same : word ≡ n / 64). (n, sym same, itself_in flags.members n n refl))
        (λ was. let one = are.some word was in (one.0, one.1, is_in flags.members n one.0 one.2))
        (was_in words.members (n / 64) word is);
  }

  -- a number goes: its word does too, if no other member is in it
  module _ (n : ℕ) (new : Flagged) (is : new ≡ record flags { members = remove flags.members n }) where
    size : new.size ≡ flags.size
    size = ap (λ (f : Flagged). f.size) is

    members : new.members ≡ remove flags.members n
    members = ap (λ (f : Flagged). f.members) is

    left : (q : ℕ) → contains new.members q ≡ true → contains flags.members q ≡ true
    left q has = (other_in flags.members n q (ap (λ s. contains s q) (sym members) ∙ has)).1

    within_new : (q : ℕ) → contains new.members q ≡ true → q < new.size
    within_new q has = let lt = are.within q (left q has) in omega (arith, lt, size)

    fits_new : new.size ≤ 2 ^ 64
    fits_new = let fits = are.fits in omega (arith, fits, size)

    room_new : new.size ≤ 64 * words.size
    room_new = let room = are.room in omega (arith, room, size)

    -- a member of another word is still there
    some_other : (word : ℕ) → word ≢ n / 64 → contains words.members word ≡ true → (q : ℕ) × (q / 64 ≡ word) × (contains new.members q ≡ true)
    some_other word ne has =
        let one = are.some word has in
        let at = one.1 in
        (one.0, at, ap (λ s. contains s one.0) members ∙ still_in flags.members n one.0 (λ same. ne (sym at ∙ ap (λ k. k / 64) same)) one.2)

    -- what the look at the number's word finds
    abbrev pub Found : Option ℕ → Type 0
    Found next = MatchOption next ((q : ℕ) → 64 * (n / 64) ≤ q → word_of 0 q ≡ word_of 0 (64 * (n / 64)) → contains new.members q ≡ false) (λ next. IsNext new.members (64 * (n / 64)) next)

    pub word_less : (next : Option ℕ) → is_some next ≡ false → Found next → AreWordsOf new (record words { members = remove words.members (n / 64) })
    word_less None is_none none = record {
      fits = fits_new;
      room = room_new;
      within = within_new;
      noted = λ q has. still_in words.members (n / 64) (q / 64) (λ same. absurd (both_ways (contains new.members q) (none q (omega (arith, same)) (omega (arith, same))) has)) (are.noted q (left q has));
      some = λ word has. let other = other_in words.members (n / 64) word has in some_other word other.0 other.1;
    }
    word_less (Some next) is_none one = absurd (both_ways true is_none refl)

    pub word_left : (next : Option ℕ) → is_some next ≡ true → Found next → IfSome next (λ q. word_of 0 q ≡ word_of 0 (64 * (n / 64))) → AreWordsOf new words
    word_left None has_one none near = absurd (both_ways false refl has_one)
    word_left (Some next) has_one one near = record {
      fits = fits_new;
      room = room_new;
      within = within_new;
      noted = λ q has. are.noted q (left q has);
      some = λ word has. ⊎_elim (λ (same : word ≡ n / 64). (next, omega (arith, same, near), one.member)) (λ (ne : word ≢ n / 64). some_other word ne has) (cases_eq word (n / 64));
    }
