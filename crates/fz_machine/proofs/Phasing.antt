-- Phases that ask and clear, over whichever links and registrations.
use Rattle.std.proofs.Common.{◌≡◌, ◌++◌, ◌∷◌, ◌∙◌, [], ℕ, Bool, true, false, not, cond, List, Some, is_some, sym, ap, subst, Option, IsTrue}
use Rattle.std.specs.FinMap.{contains_key, get, remove}
use Rattle.fz_model.specs.State.{Map, Object}
use Rattle.fz_model.specs.Pass.{cleared}
use Rattle.fz_pass.specs.Marks.{AreTargets, with_targets, with_holders}
use Rattle.fz_pass.specs.Places.{StandApart, placed, is_held}
use Rattle.fz_finalizers.specs.States.{State}
use Rattle.fz_machine.specs.declared.item.Item.{Item}
use Rattle.fz_machine.specs.declared.question.Ask.TheVariants.{IsMarked, Clear, IsHolderMarked}
use Rattle.fz_machine.specs.Graph.{Graph, IsHonest}
use Rattle.fz_machine.specs.Items.{AreLinks}
use Rattle.fz_machine.specs.Items as the
use Rattle.fz_machine.proofs.Among.{Each, OneOf, each_as}
use Rattle.fz_machine.proofs.DeadWords.{AreCleared, AreHeld, IsLink, IsLinkAt, clearing_begins, clear_more, cleared_all, dead_link, hold_more, holding_begins, held_all}
use Rattle.fz_machine.proofs.Entered.{links_all, links_each, links_known}
use Rattle.fz_machine.proofs.Honest.{IsFalseOf, Knows, known_false, not_told, object_of, word_in}
use Rattle.fz_machine.proofs.Sifting.{Sifted, IsAt, sift, sift_begins}

-- whether an item is kept, as a phase goes on
abbrev pub kept_on : Bool → List Item → Item → List Item
kept_on keeps kept item = cond keeps (kept ++ item ∷ []) kept

-- ---- which objects are marked

module _ (E : Type 0) (word_of : ℕ → Option ℕ) (value : Map Object → ℕ → Option ℕ) (at : State) (objects : Map Object) (marked : ℕ → Bool) (P : Item → Type 0) (Wanted : ℕ → ℕ → Type 0) where
  pub record Sifts (s : State) (kept left : List Item) (h : Graph) : Type 0 where
    pub state : s ≡ at
    pub objects_are : h.objects ≡ objects
    pub marks_are : h.marked ≡ marked
    pub sifted : Sifted marked P Wanted kept left

  pub sifts_on : (s : State) (kept left : List Item) (item : Item) (h new : Graph) → Sifts s kept (item ∷ left) h → (answer : Bool) → IsHonest E word_of value (Some IsMarked) item.object h answer new
      → Sifts s (kept_on (not answer) kept item) left new
  sifts_on s kept left item h new p answer honest =
      let is = honest tt in
      record {
        state = p.state;
        objects_are = ap (λ (x : Graph). x.objects) is.1 ∙ p.objects_are;
        marks_are = ap (λ (x : Graph). x.marked) is.1 ∙ p.marks_are;
        sifted = sift marked P Wanted kept left item p.sifted answer (is.0 ∙ ap (λ (m : ℕ → Bool). m item.object) p.marks_are);
      }

  pub sifts_begin : (s : State) (items : List Item) (h : Graph) → s ≡ at → h.objects ≡ objects → h.marked ≡ marked → Each P items
      → ((object word : ℕ) → Wanted object word → marked object ≡ false → OneOf (IsAt object word) items) → Sifts s [] items h
  sifts_begin s items h state objects_are marks_are are all = record { state = state; objects_are = objects_are; marks_are = marks_are; sifted = sift_begins marked P Wanted items are all }

-- ---- which targets of links are marked

module _ (E : Type 0) (word_of : ℕ → Option ℕ) (value : Map Object → ℕ → Option ℕ) (at : State) (objects : Map Object) (links : Map ℕ) (marked : ℕ → Bool) where
  abbrev IsTarget : ℕ → Type 0
  IsTarget n = (word : ℕ) × (get links word ≡ Some n)

  pub targets_begin : (told : List (ℕ × ℕ)) → Knows marked IsTarget told → (s : State) (items : List Item) (h : Graph) → s ≡ at → h.objects ≡ objects → h.marked ≡ marked → AreLinks the.target_of told links items
      → Sifts E word_of value at objects marked (IsLink word_of objects links marked) (IsLinkAt word_of objects links marked) s [] items h × Each (IsFalseOf marked object_of) items
  targets_begin told knows s items h state objects_are marks_are are = (
    sifts_begin E word_of value at objects marked (IsLink word_of objects links marked) (IsLinkAt word_of objects links marked) s items h state objects_are marks_are (links_each the.target_of told links items are)
        (λ object word here off. links_all the.target_of told links items are object word here (not_told marked IsTarget told knows object (word, here) off)),
    known_false marked IsTarget told object_of knows items
        (each_as (λ (i : Item). get links i.word ≡ Some i.object) (λ (i : Item). IsTarget i.object) (λ i here. (i.word, here)) items (links_each the.target_of told links items are)) (links_known the.target_of told links items are),
  )

-- ---- words of dead links are cleared

module _ (E : Type 0) (word_of : ℕ → Option ℕ) (value : Map Object → ℕ → Option ℕ) (at : Map ℕ → State) (objects : Map Object) (links : Map ℕ) (marked : ℕ → Bool) where
  pub record Clears (s : State) (left : List Item) (h : Graph) : Type 0 where
    pub now : Map ℕ
    pub state : s ≡ at now
    pub marks_are : h.marked ≡ marked
    pub are : AreCleared word_of objects links marked left h.objects now

  pub clears_on : (without : State → ℕ → State) → ((now : Map ℕ) (word target : ℕ) → get links word ≡ Some target → without (at now) word ≡ at (remove now word)) → (s : State) (left : List Item) (item : Item) (h new : Graph)
      → Clears s (item ∷ left) h → (answer : Bool) → IsHonest E word_of value (Some Clear) item.word h answer new → Clears (without s item.word) left new
  clears_on without goes s left item h new p answer honest =
      let is = honest tt in
      let link = dead_link word_of objects links marked item.word p.are.left_are.0 in
      record {
        now = remove p.now item.word;
        state = ap (λ (t : State). without t item.word) p.state ∙ goes p.now item.word link.0 link.1;
        marks_are = ap (λ (x : Graph). x.marked) is ∙ p.marks_are;
        are = subst (λ (m : Map Object). AreCleared word_of objects links marked left m (remove p.now item.word)) (sym (ap (λ (x : Graph). x.objects) is)) (clear_more word_of objects links marked left item h.objects p.now p.are);
      }

  module _ (targets : AreTargets objects links) where
    pub clears_begin : (s : State) (kept items : List Item) (h : Graph) → Sifts E word_of value (at links) objects marked (IsLink word_of objects links marked) (IsLinkAt word_of objects links marked) s kept [] h → items ≡ kept → Clears s items h
    clears_begin s kept items h p is = record {
      now = links;
      state = p.state;
      marks_are = p.marks_are;
      are = subst (λ (xs : List Item). AreCleared word_of objects links marked xs h.objects links) (sym is)
          (subst (λ (m : Map Object). AreCleared word_of objects links marked kept m links) (sym p.objects_are) (clearing_begins word_of objects links marked targets kept p.sifted));
    }

    -- all are, with the links
    pub clears_all : StandApart word_of → (s : State) (h : Graph) → Clears s [] h → (s ≡ at (with_targets links marked)) × (h.objects ≡ cleared (placed word_of links) marked objects) × (h.marked ≡ marked)
    clears_all apart s h p = let all = cleared_all word_of objects links marked targets apart h.objects p.now p.are in (p.state ∙ ap at all.1, all.0, p.marks_are)

-- ---- which links lie in marked objects

module _ (E : Type 0) (word_of : ℕ → Option ℕ) (value : Map Object → ℕ → Option ℕ) (at : Map ℕ → State) (objects : Map Object) (links : Map ℕ) (marked : ℕ → Bool) where
  pub record Holds (s : State) (left : List Item) (h : Graph) : Type 0 where
    pub now : Map ℕ
    pub state : s ≡ at now
    pub objects_are : h.objects ≡ objects
    pub marks_are : h.marked ≡ marked
    pub left_are : Each (IsLink word_of objects links marked) left
    pub are : AreHeld word_of objects links marked left now

  pub holds_on : (without : State → ℕ → State) → ((now : Map ℕ) (word target : ℕ) → get links word ≡ Some target → without (at now) word ≡ at (remove now word)) → (s : State) (left : List Item) (item : Item) (h new : Graph)
      → Holds s (item ∷ left) h → (answer : Bool) → IsHonest E word_of value (Some IsHolderMarked) item.word h answer new → Holds (cond answer s (without s item.word)) left new
  holds_on without goes s left item h new p answer honest =
      let is = honest tt in
      let told = is.0 ∙ (λ i. is_held word_of (p.objects_are i) (p.marks_are i) item.word) in
      record {
        now = cond answer p.now (remove p.now item.word);
        state = by answer;
        objects_are = ap (λ (x : Graph). x.objects) is.1 ∙ p.objects_are;
        marks_are = ap (λ (x : Graph). x.marked) is.1 ∙ p.marks_are;
        left_are = p.left_are.1;
        are = hold_more word_of objects links marked left item p.now p.are answer told;
      }
    where
      by : (b : Bool) → cond b s (without s item.word) ≡ at (cond b p.now (remove p.now item.word))
      by true = p.state
      by false = ap (λ (t : State). without t item.word) p.state ∙ goes p.now item.word item.object p.left_are.0

  abbrev is_lying : ℕ → Bool
  is_lying n = is_held word_of objects marked n

  pub holds_from : (s : State) (items : List Item) (h : Graph) → s ≡ at links → h.objects ≡ objects → h.marked ≡ marked → Each (IsLink word_of objects links marked) items
      → ((object word : ℕ) → get links word ≡ Some object → is_lying word ≡ false → OneOf (IsAt object word) items) → Holds s items h
  holds_from s items h state objects_are marks_are each all = record {
    now = links;
    state = state;
    objects_are = objects_are;
    marks_are = marks_are;
    left_are = each;
    are = holding_begins word_of objects links marked items all;
  }

  pub holds_begin : (told : List (ℕ × ℕ)) → Knows is_lying (λ n. IsTrue (contains_key links n)) told → (s : State) (items : List Item) (h : Graph) → s ≡ at links → h.objects ≡ objects → h.marked ≡ marked → AreLinks the.word_of told links items
      → Holds s items h × Each (IsFalseOf is_lying word_in) items
  holds_begin told knows s items h state objects_are marks_are are = (
    holds_from s items h state objects_are marks_are (links_each the.word_of told links items are)
        (λ object word here off. links_all the.word_of told links items are object word here (not_told is_lying (λ n. IsTrue (contains_key links n)) told knows word (ap is_some here) off)),
    known_false is_lying (λ n. IsTrue (contains_key links n)) told word_in knows items
        (each_as (λ (i : Item). get links i.word ≡ Some i.object) (λ (i : Item). IsTrue (contains_key links i.word)) (λ i here. ap is_some here) items (links_each the.word_of told links items are)) (links_known the.word_of told links items are),
  )

  pub holds_all : (s : State) (h : Graph) → Holds s [] h → (s ≡ at (with_holders word_of objects links marked)) × (h.objects ≡ objects) × (h.marked ≡ marked)
  holds_all s h p = (p.state ∙ ap at (held_all word_of objects links marked p.now p.are), p.objects_are, p.marks_are)
