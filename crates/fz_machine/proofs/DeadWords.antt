-- Links that go: with the words of the dead ones, and where the word's holder isn't marked.
use Rattle.std.proofs.Common.{◌≡◌, ◌≢◌, ◌⊎◌, ◌||◌, ◌&&◌, ◌∷◌, ◌∙◌, [], ℕ, Bool, true, false, not, cond, List, Option, Some, None, refl, sym, ap, subst, inl, inr, ⊎_elim, nat_eq}
use Rattle.std.proofs.lemmas.Option.{none-some, same_Some}
use Rattle.std.proofs.lemmas.Bool.{and_parts, and_from, not-true, both_ways, true≢false, cases_eq, eq-eqb, ne_eqb, eqb-true}
use Rattle.std.specs.Cmp.{nat_cmp_total}
use Rattle.std.specs.Option.{option_map_or}
use Rattle.std.specs.FinMap.{get, contains_key, remove, retain_keys, same_map, nat_cmp-IsAntisymmetric}
use Rattle.fz_model.specs.State.{Map, Object}
use Rattle.fz_model.specs.Memory.{filled, written}
use Rattle.fz_model.specs.Pass.{is_outside, is_dead, cleared}
use Rattle.fz_model.proofs.Maps.{get-retain, get-remove_same, get-remove_other}
use Rattle.fz_pass.specs.Marks.{AreTargets, with_targets, with_holders}
use Rattle.fz_pass.specs.Places.{StandApart, placed, written_at, is_held}
use Rattle.fz_pass.proofs.Filling.{filled_twice, filled_never, filled_same, written_is}
use Rattle.fz_pass.proofs.Picked.{map_or_true, same_test}
use Rattle.fz_pass.proofs.Placing.{placed_back, get_placed}
use Rattle.fz_machine.specs.declared.item.Item.{Item}
use Rattle.fz_machine.proofs.Among.{Each, OneOf, each_as, one_as}
use Rattle.fz_machine.proofs.Sifting.{IsAt, Sifted, sifted}

pub or_parts : (a b : Bool) → (a || b) ≡ true → (a ≡ true) ⊎ (b ≡ true)
or_parts true b on = inl refl
or_parts false b on = inr on

pub or_left : (a b : Bool) → a ≡ true → (a || b) ≡ true
or_left a b on = ap (λ c. c || b) on

pub or_right : (a b : Bool) → b ≡ true → (a || b) ≡ true
or_right true b on = refl
or_right false b on = on

-- ---- links of these words are gone

abbrev pub IsGone : (ℕ → Bool) → Map ℕ → Map ℕ → Type 0
IsGone gone links now = (a : ℕ) → get now a ≡ cond (gone a) None (get links a)

-- and of one word more
abbrev pub more : (ℕ → Bool) → ℕ → ℕ → Bool
more gone word a = gone a || nat_eq a word

pub gone_more : (gone : ℕ → Bool) (links now : Map ℕ) (word : ℕ) → IsGone gone links now → IsGone (more gone word) links (remove now word)
gone_more gone links now word is a = ⊎_elim same other (cases_eq a word)
  where
    both : (b : Bool) (o : Option ℕ) → None ≡ cond (b || true) None o
    both true o = refl
    both false o = refl

    one : (b : Bool) (o : Option ℕ) → cond b None o ≡ cond (b || false) None o
    one true o = refl
    one false o = refl

    same : a ≡ word → get (remove now word) a ≡ cond (more gone word a) None (get links a)
    same at = ap (get (remove now word)) at ∙ get-remove_same now word ∙ both (gone a) (get links a) ∙ ap (λ b. cond (gone a || b) None (get links a)) (sym (eq-eqb a word at))

    other : a ≢ word → get (remove now word) a ≡ cond (more gone word a) None (get links a)
    other apart = get-remove_other now word a apart ∙ is a ∙ one (gone a) (get links a) ∙ ap (λ b. cond (gone a || b) None (get links a)) (sym (ne_eqb a word apart))

-- what is left, where all that fail a test are gone
gone_all : (gone keep : ℕ → Bool) (links now : Map ℕ) → IsGone gone links now → ((a t : ℕ) → get links a ≡ Some t → gone a ≡ not (keep a)) → now ≡ retain_keys links keep
gone_all gone keep links now is all = same_map nat_cmp_total nat_cmp-IsAntisymmetric _ _ (λ a. is a ∙ at a (get links a) refl ∙ sym (get-retain links keep a))
  where
    none : (b c : Bool) → cond b None None ≡ cond {A = Option ℕ} c None None
    none true true = refl
    none true false = refl
    none false true = refl
    none false false = refl

    turned : (c : Bool) (o : Option ℕ) → cond (not c) None o ≡ cond c o None
    turned true o = refl
    turned false o = refl

    at : (a : ℕ) (o : Option ℕ) → get links a ≡ o → cond (gone a) None (get links a) ≡ cond (keep a) (get links a) None
    at a None here = (λ i. cond (gone a) None (here i)) ∙ none (gone a) (keep a) ∙ (λ i. cond (keep a) (sym here i) None)
    at a (Some t) here = ap (λ b. cond b None (get links a)) (all a t here) ∙ turned (keep a) (get links a)

-- ---- a word without a link

pub remove_none : (m : Map ℕ) (word : ℕ) → get m word ≡ None → remove m word ≡ m
remove_none m word none = same_map nat_cmp_total nat_cmp-IsAntisymmetric _ _ (λ a. ⊎_elim (same a) (λ apart. get-remove_other m word a apart) (cases_eq a word))
  where
    same : (a : ℕ) → a ≡ word → get (remove m word) a ≡ get m a
    same a is = ap (get (remove m word)) is ∙ get-remove_same m word ∙ sym none ∙ ap (get m) (sym is)

pub retained_none : (m : Map ℕ) (keep : ℕ → Bool) (word : ℕ) → get m word ≡ None → get (retain_keys m keep) word ≡ None
retained_none m keep word none = get-retain m keep word ∙ ap (λ o. cond (keep word) o None) none ∙ by (keep word)
  where
    by : (b : Bool) → cond {A = Option ℕ} b None None ≡ None
    by true = refl
    by false = refl

pub retained_before : (m : Map ℕ) (keep : ℕ → Bool) (word target : ℕ) → get (retain_keys m keep) word ≡ Some target → get m word ≡ Some target
retained_before m keep word target here = by (keep word) (sym (get-retain m keep word) ∙ here)
  where
    by : (b : Bool) → cond b (get m word) None ≡ Some target → get m word ≡ Some target
    by true is = is
    by false is = absurd (none-some target is)

-- ---- words of dead links

module _ (word_of : ℕ → Option ℕ) (objects : Map Object) (links : Map ℕ) (marked : ℕ → Bool) where
  abbrev IsDead : ℕ → Type 0
  IsDead a = is_dead objects links marked a ≡ true

  -- the words so far are zero, and their links gone
  pub record AreCleared (left : List Item) (now : Map Object) (now_links : Map ℕ) : Type 0 where
    pub gone : ℕ → Bool
    pub blank : ℕ → Bool
    pub objects_are : now ≡ filled blank 0 objects
    pub links_are : IsGone gone links now_links
    pub blanked : (a : ℕ) → blank a ≡ true → (w : ℕ) × (word_of w ≡ Some a) × (gone w ≡ true)
    pub blanks : (w a : ℕ) → gone w ≡ true → word_of w ≡ Some a → blank a ≡ true
    pub only : (a : ℕ) → gone a ≡ true → IsDead a
    pub left_are : Each (λ i. IsDead i.word) left
    pub rest : (a : ℕ) → IsDead a → (gone a ≡ true) ⊎ OneOf (λ (i : Item). i.word ≡ a) left

  -- it is one of the links
  pub dead_link : (a : ℕ) → IsDead a → (t : ℕ) × (get links a ≡ Some t)
  dead_link a on = let t = map_or_true (is_outside objects marked) (get links a) on in (t.0, t.1)

  abbrev pub IsLink : Item → Type 0
  IsLink i = get links i.word ≡ Some i.object

  abbrev pub IsLinkAt : ℕ → ℕ → Type 0
  IsLinkAt object word = get links word ≡ Some object

  module _ (targets : AreTargets objects links) where
    dead_in : (m : Map ℕ) (a t : ℕ) → get m a ≡ Some t → contains_key objects t ≡ true → marked t ≡ false → is_dead objects m marked a ≡ true
    dead_in m a t here there off = ap (λ o. option_map_or (is_outside objects marked) o false) here ∙ and_from (contains_key objects t) (not (marked t)) there (ap not off)

    dead : (a t : ℕ) → get links a ≡ Some t → marked t ≡ false → IsDead a
    dead a t here off = dead_in links a t here (targets a t here) off

    target_in : (m : Map ℕ) (a : ℕ) → is_dead objects m marked a ≡ true → (t : ℕ) × (get m a ≡ Some t) × (marked t ≡ false)
    target_in m a on = let t = map_or_true (is_outside objects marked) (get m a) on in (t.0, t.1, not-true (marked t.0) (and_parts (contains_key objects t.0) (not (marked t.0)) t.2).1)

    its_target : (a : ℕ) → IsDead a → (t : ℕ) × (get links a ≡ Some t) × (marked t ≡ false)
    its_target a on = target_in links a on

    pub clearing_begins : (kept : List Item) → Sifted marked IsLink IsLinkAt kept [] → AreCleared kept objects links
    clearing_begins kept s = record {
      gone = λ a. false;
      blank = λ a. false;
      objects_are = sym (filled_never (λ a. false) 0 objects (λ a. refl));
      links_are = λ a. refl;
      blanked = λ a on. absurd (true≢false (sym on));
      blanks = λ w a on at. absurd (true≢false (sym on));
      only = λ a on. absurd (true≢false (sym on));
      left_are = each_as (λ i. IsLink i × (marked i.object ≡ false)) (λ i. IsDead i.word) (λ i is. dead i.word i.object is.0 is.1) kept s.kept_are;
      rest = λ a on. let t = its_target a on in inr (one_as (IsAt t.0 a) (λ i. i.word ≡ a) (λ i at. at.1) kept (sifted marked IsLink IsLinkAt kept s t.0 a t.1 t.2));
    }

    -- all dead links have gone
    pub cleared_all : StandApart word_of → (now : Map Object) (now_links : Map ℕ) → AreCleared [] now now_links → (now ≡ cleared (placed word_of links) marked objects) × (now_links ≡ with_targets links marked)
    cleared_all apart now now_links c = (
      c.objects_are ∙ filled_same c.blank (is_dead objects (placed word_of links) marked) 0 objects (λ a. same_test (c.blank a) (is_dead objects (placed word_of links) marked a) (to a) (back a)),
      gone_all c.gone (λ a. option_map_or marked (get links a) false) links now_links c.links_are
          (λ a t here. is a ∙ ap (λ o. option_map_or (is_outside objects marked) o false) here ∙ there t (targets a t here) ∙ ap (λ o. not (option_map_or marked o false)) (sym here)),
    )
      where
        went : (a : ℕ) → IsDead a → c.gone a ≡ true
        went a on = ⊎_elim (λ h. h) (λ h. absurd h) (c.rest a on)

        is : (a : ℕ) → c.gone a ≡ is_dead objects links marked a
        is a = same_test (c.gone a) (is_dead objects links marked a) (c.only a) (went a)

        there : (t : ℕ) → contains_key objects t ≡ true → is_outside objects marked t ≡ not (marked t)
        there t here = ap (λ b. b && not (marked t)) here

        to : (a : ℕ) → c.blank a ≡ true → is_dead objects (placed word_of links) marked a ≡ true
        to a on =
            let w = c.blanked a on in
            let t = its_target w.0 (c.only w.0 w.2) in
            dead_in (placed word_of links) a t.0 (get_placed word_of apart links w.0 a t.0 w.1 t.1) (targets w.0 t.0 t.1) t.2

        back : (a : ℕ) → is_dead objects (placed word_of links) marked a ≡ true → c.blank a ≡ true
        back a on =
            let t = target_in (placed word_of links) a on in
            let w = placed_back word_of apart links a t.0 t.1 in
            c.blanks w.0 a (went w.0 (dead w.0 t.0 w.2 t.2)) w.1

  module _ (left : List Item) (item : Item) (now : Map Object) (now_links : Map ℕ) (c : AreCleared (item ∷ left) now now_links) where
    only_more : (a : ℕ) → more c.gone item.word a ≡ true → IsDead a
    only_more a on = ⊎_elim (c.only a) (λ is. subst IsDead (sym (eqb-true a item.word is)) c.left_are.0) (or_parts (c.gone a) (nat_eq a item.word) on)

    rest_more : (a : ℕ) → IsDead a → (more c.gone item.word a ≡ true) ⊎ OneOf (λ (i : Item). i.word ≡ a) left
    rest_more a on = ⊎_elim (λ h. inl (or_left (c.gone a) (nat_eq a item.word) h)) by (c.rest a on)
      where
        by : OneOf (λ (i : Item). i.word ≡ a) (item ∷ left) → (more c.gone item.word a ≡ true) ⊎ OneOf (λ (i : Item). i.word ≡ a) left
        by (inl at) = inl (or_right (c.gone a) (nat_eq a item.word) (eq-eqb a item.word (sym at)))
        by (inr h) = inr h

    -- the link denotes no word
    clear_none : word_of item.word ≡ None → AreCleared left now (remove now_links item.word)
    clear_none none = record {
      gone = more c.gone item.word;
      blank = c.blank;
      objects_are = c.objects_are;
      links_are = gone_more c.gone links now_links item.word c.links_are;
      blanked = λ a on. let w = c.blanked a on in (w.0, w.1, or_left (c.gone w.0) (nat_eq w.0 item.word) w.2);
      blanks = λ w a on at.
          ⊎_elim (λ was. c.blanks w a was at) (λ is. absurd (none-some a (sym none ∙ ap word_of (sym (eqb-true w item.word is)) ∙ at))) (or_parts (c.gone w) (nat_eq w item.word) on);
      only = only_more;
      left_are = c.left_are.1;
      rest = rest_more;
    }

    clear_word : (word : ℕ) → word_of item.word ≡ Some word → AreCleared left (written word 0 now) (remove now_links item.word)
    clear_word word stands = record {
      gone = more c.gone item.word;
      blank = more c.blank word;
      objects_are = ap (written word 0) c.objects_are ∙ written_is word 0 (filled c.blank 0 objects) ∙ filled_twice (λ a. nat_eq a word) c.blank 0 objects;
      links_are = gone_more c.gone links now_links item.word c.links_are;
      blanked = λ a on.
          ⊎_elim (λ was. let w = c.blanked a was in (w.0, w.1, or_left (c.gone w.0) (nat_eq w.0 item.word) w.2))
          (λ is. (item.word, stands ∙ ap Some (sym (eqb-true a word is)), or_right (c.gone item.word) (nat_eq item.word item.word) (eq-eqb item.word item.word refl)))
          (or_parts (c.blank a) (nat_eq a word) on);
      blanks = λ w a on at.
          ⊎_elim (λ was. or_left (c.blank a) (nat_eq a word) (c.blanks w a was at))
          (λ is. or_right (c.blank a) (nat_eq a word) (eq-eqb a word (same_Some a word (sym at ∙ ap word_of (eqb-true w item.word is) ∙ stands))))
          (or_parts (c.gone w) (nat_eq w item.word) on);
      only = only_more;
      left_are = c.left_are.1;
      rest = rest_more;
    }

    pub clear_more : AreCleared left (written_at word_of item.word now) (remove now_links item.word)
    clear_more = by (word_of item.word) refl
      where
        by : (o : Option ℕ) → word_of item.word ≡ o → AreCleared left (option_map_or (λ a. written a 0 now) o now) (remove now_links item.word)
        by None none = clear_none none
        by (Some word) stands = clear_word word stands

-- ---- links whose word's holder isn't marked

module _ (word_of : ℕ → Option ℕ) (objects : Map Object) (links : Map ℕ) (marked : ℕ → Bool) where
  abbrev lies : ℕ → Bool
  lies a = is_held word_of objects marked a

  pub record AreHeld (left : List Item) (now_links : Map ℕ) : Type 0 where
    pub gone : ℕ → Bool
    pub links_are : IsGone gone links now_links
    pub only : (a : ℕ) → gone a ≡ true → lies a ≡ false
    pub rest : (a t : ℕ) → get links a ≡ Some t → lies a ≡ false → (gone a ≡ true) ⊎ OneOf (λ (i : Item). i.word ≡ a) left

  pub holding_begins : (items : List Item) → ((object word : ℕ) → get links word ≡ Some object → lies word ≡ false → OneOf (IsAt object word) items) → AreHeld items links
  holding_begins items all = record {
    gone = λ a. false;
    links_are = λ a. refl;
    only = λ a on. absurd (true≢false (sym on));
    rest = λ a t here off. inr (one_as (IsAt t a) (λ i. i.word ≡ a) (λ i at. at.1) items (all t a here off));
  }

  module _ (left : List Item) (item : Item) (now_links : Map ℕ) (h : AreHeld (item ∷ left) now_links) where
    stays : lies item.word ≡ true → AreHeld left now_links
    stays on = record {
      gone = h.gone;
      links_are = h.links_are;
      only = h.only;
      rest = λ a t here off. ⊎_elim inl (λ k. inr (by a off k)) (h.rest a t here off);
    }
      where
        by : (a : ℕ) → lies a ≡ false → OneOf (λ (i : Item). i.word ≡ a) (item ∷ left) → OneOf (λ (i : Item). i.word ≡ a) left
        by a off (inl at) = absurd (both_ways (lies a) off (ap lies (sym at) ∙ on))
        by a off (inr k) = k

    goes : lies item.word ≡ false → AreHeld left (remove now_links item.word)
    goes off = record {
      gone = more h.gone item.word;
      links_are = gone_more h.gone links now_links item.word h.links_are;
      only = λ a on. ⊎_elim (h.only a) (λ is. ap lies (eqb-true a item.word is) ∙ off) (or_parts (h.gone a) (nat_eq a item.word) on);
      rest = λ a t here un. ⊎_elim (λ k. inl (or_left (h.gone a) (nat_eq a item.word) k)) (by a) (h.rest a t here un);
    }
      where
        by : (a : ℕ) → OneOf (λ (i : Item). i.word ≡ a) (item ∷ left) → (more h.gone item.word a ≡ true) ⊎ OneOf (λ (i : Item). i.word ≡ a) left
        by a (inl at) = inl (or_right (h.gone a) (nat_eq a item.word) (eq-eqb a item.word (sym at)))
        by a (inr k) = inr k

    pub hold_more : (answer : Bool) → answer ≡ lies item.word → AreHeld left (cond answer now_links (remove now_links item.word))
    hold_more true is = stays (sym is)
    hold_more false is = goes (sym is)

  pub held_all : (now_links : Map ℕ) → AreHeld [] now_links → now_links ≡ with_holders word_of objects links marked
  held_all now_links h =
      gone_all h.gone (λ a. option_map_or (λ _. lies a) (get links a) false) links now_links h.links_are
      (λ a t here. at a t here (lies a) refl ∙ ap (λ o. not (option_map_or (λ _. lies a) o false)) (sym here))
    where
      at : (a t : ℕ) → get links a ≡ Some t → (b : Bool) → lies a ≡ b → h.gone a ≡ not (lies a)
      at a t here true is = off (h.gone a) refl ∙ ap not (sym is)
        where
          off : (b : Bool) → h.gone a ≡ b → b ≡ false
          off false on = refl
          off true on = absurd (both_ways (lies a) (h.only a on) is)
      at a t here false is = ⊎_elim (λ k. k) (λ k. absurd k) (h.rest a t here is) ∙ ap not (sym is)
