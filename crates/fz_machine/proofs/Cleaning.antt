-- A round over the cleanups of a moment: those whose objects aren't marked are queued.
use Rattle.std.proofs.Common.{◌≡◌, ◌≢◌, ◌≤◌, IsTrue, None, get_or, nat_le, refl, ◌&&◌, ◌++◌, ◌∷◌, ◌∙◌, [], ℕ, Bool, true, false, cond, List, length, map, drop, slice_get, Option, Some, All, not, sym, ap, subst, append_assoc, append-nil, arith}
use Rattle.std.proofs.lemmas.Bool.{and_from, and_parts, le-leb, true≢false}
use Rattle.std.proofs.lemmas.List.{map-append}
use Rattle.std.proofs.lemmas.List.Elements.{All-filter}
use Rattle.std.proofs.lemmas.Option.{same_Some}
use Rattle.std.specs.FinMap.{get, retain_keys}
use Rattle.std.specs.Option.{option_map_or}
use Rattle.fz_model.specs.declared.answers.Pick.{Pick}
use Rattle.fz_model.specs.declared.kinds.LinkKind.{LinkKind}
use Rattle.fz_model.specs.Pass.{entries_of}
use Rattle.fz_model.specs.State.{Map, Object}
use Rattle.fz_model.proofs.Maps.{get-retain, retained_back}
use Rattle.fz_finalizers.specs.declared.cleanups.Attached.{Attached}
use Rattle.fz_finalizers.specs.Cleanups.{AreDue, is_due, is_when, pick_of, without}
use Rattle.fz_finalizers.specs.Follows.{Cleans, queued_attached, queued_cleanup}
use Rattle.fz_finalizers.specs.States.{State}
use Rattle.fz_finalizers.proofs.Cleaned.{get-without_other, without-push}
use Rattle.fz_machine.specs.declared.item.Item.{Item}
use Rattle.fz_machine.specs.declared.question.Ask.TheVariants.{IsMarked}
use Rattle.fz_machine.specs.Graph.{Graph, IsHonest}
use Rattle.fz_machine.specs.Items.{AreCleanups, of_cleanup}
use Rattle.fz_machine.specs.Regions.{is_marked, is_unmarked}
use Rattle.fz_machine.proofs.Among.{Each, each_as, each_from, each_mapped}
use Rattle.fz_machine.proofs.Honest.{IsFalseOf, Knows, known_false, not_told, object_of}
use Rattle.fz_machine.proofs.Due.{are_due, due_in, due_more, others_before}
use Rattle.fz_machine.proofs.Stated.{entries_more}

module _ (b : State) where
  -- these cleanups are queued
  abbrev pub after_due : List (ℕ × Attached) → State
  after_due due = record b { queue = b.queue ++ entries_of b.passes (length b.queue) (map pick_of due); cleanups = without b.cleanups due }

  pub none_due : after_due [] ≡ b
  none_due = λ i. record b { queue = append-nil b.queue i }

  one_due : (due : List (ℕ × Attached)) (e : ℕ × Attached) → get b.cleanups e.0 ≡ Some e.1 → All (λ (y : ℕ × Attached). y.0 ≢ e.0) due → queued_cleanup (after_due due) e.0 ≡ after_due (due ++ e ∷ [])
  one_due due e here others =
      let queue = entries_more b.passes b.queue (map pick_of due) (pick_of e) ∙ ap (λ (ps : List Pick). b.queue ++ entries_of b.passes (length b.queue) ps) (sym (map-append pick_of due (e ∷ []))) in
      ap (λ (o : Option Attached). option_map_or (queued_attached (after_due due) e.0) o (after_due due)) (get-without_other b.cleanups due e.0 others ∙ here)
      ∙ (λ i. record b { queue = queue i; cleanups = sym (without-push b.cleanups due e) i })

module _ (E : Type 0) (word_of : ℕ → Option ℕ) (value : Map Object → ℕ → Option ℕ) (when : LinkKind) (b : State) (objects : Map Object) (marked : ℕ → Bool) where
  -- whether a cleanup is of this moment and its object wasn't told marked
  abbrev stays : List (ℕ × ℕ) → Attached → Bool
  stays told c = is_when when c.cleanup.when && not (is_marked told c.object)

  abbrev AreAll : ℕ → List (ℕ × ℕ) → List (ℕ × Attached) → Type 0
  AreAll from told = AreDue (stays told) (retain_keys b.cleanups (nat_le from))

  abbrev item_of : List (ℕ × ℕ) → ℕ × Attached → Item
  item_of told e = of_cleanup (is_unmarked told e.1.object) e

  -- those that aren't marked come no earlier
  abbrev AreYoung : ℕ → Type 0
  AreYoung from = (number : ℕ) (c : Attached) → get b.cleanups number ≡ Some c → marked c.object ≡ false → from ≤ number

  -- nor were they told marked
  abbrev AreOpen : List (ℕ × ℕ) → Type 0
  AreOpen told = (number : ℕ) (c : Attached) → get b.cleanups number ≡ Some c → IsTrue (is_when when c.cleanup.when) → marked c.object ≡ false → is_marked told c.object ≡ false

  -- those that were asked about, and those that remain
  pub record Cleaning (s : State) (left : List Item) (h : Graph) : Type 0 where
    pub from : ℕ
    pub young : AreYoung from
    pub told : List (ℕ × ℕ)
    pub opens : AreOpen told
    pub past : List (ℕ × Attached)
    pub rest : List (ℕ × Attached)
    pub are : AreAll from told (past ++ rest)
    pub left_are : left ≡ map (item_of told) rest
    pub state : s ≡ after_due b (due_in marked past)
    pub objects_are : h.objects ≡ objects
    pub marks_are : h.marked ≡ marked

  -- the objects of cleanups of this moment
  abbrev IsCleaned : ℕ → Type 0
  IsCleaned n = (number : ℕ) × (c : Attached) × (get b.cleanups number ≡ Some c) × IsTrue (is_when when c.cleanup.when) × (c.object ≡ n)

  module _ (from : ℕ) (told : List (ℕ × ℕ)) (items : List Item) (all : AreCleanups from told when b.cleanups items) where
    abbrev cs : List (ℕ × Attached)
    cs = all.0

    cleaned_each : Each (λ (e : ℕ × Attached). IsCleaned e.1.object) cs
    cleaned_each =
        each_as (λ (e : ℕ × Attached). (get (retain_keys b.cleanups (nat_le from)) e.0 ≡ Some e.1) × IsTrue (stays told e.1)) (λ (e : ℕ × Attached). IsCleaned e.1.object)
        (λ e is. (e.0, e.1, (retained_back b.cleanups (nat_le from) e.0 e.1 is.0).1, (and_parts (is_when when e.1.cleanup.when) (not (is_marked told e.1.object)) is.1).0, refl)) cs
        (each_from (λ (e : ℕ × Attached). (get (retain_keys b.cleanups (nat_le from)) e.0 ≡ Some e.1) × IsTrue (stays told e.1)) cs all.1.each)

    known_each : (es : List (ℕ × Attached)) → Each (λ (e : ℕ × Attached). IsTrue (item_of told e).known → is_unmarked told (item_of told e).object ≡ true) es
    known_each [] = tt
    known_each (e ∷ es) = (λ known. known, known_each es)

    cleanups_known : Knows marked IsCleaned told → Each (IsFalseOf marked object_of) items
    cleanups_known knows = known_false marked IsCleaned told object_of knows items
        (subst (Each (λ (i : Item). IsCleaned i.object)) (sym all.2) (each_mapped (item_of told) (λ (i : Item). IsCleaned i.object) cs cleaned_each))
        (subst (Each (λ (i : Item). IsTrue i.known → is_unmarked told i.object ≡ true)) (sym all.2) (each_mapped (item_of told) (λ (i : Item). IsTrue i.known → is_unmarked told i.object ≡ true) cs (known_each cs)))

  pub cleaning_begins : (from : ℕ) (told : List (ℕ × ℕ)) → Knows marked IsCleaned told → (s : State) (items : List Item) (h : Graph) → AreYoung from → s ≡ b → h.objects ≡ objects → h.marked ≡ marked → AreCleanups from told when b.cleanups items
      → Cleaning s items h × Each (IsFalseOf marked object_of) items
  cleaning_begins from told knows s items h young state objects_are marks_are all = (
    record {
      from = from;
      young = young;
      told = told;
      opens = λ number c here of_moment off. not_told marked IsCleaned told knows c.object (number, c, here, of_moment, refl) off;
      past = [];
      rest = all.0;
      are = all.1;
      left_are = all.2;
      state = state ∙ sym (none_due b);
      objects_are = objects_are;
      marks_are = marks_are;
    },
    cleanups_known from told items all knows,
  )

  module _ (s : State) (left : List Item) (item : Item) (h new : Graph) (p : Cleaning s (item ∷ left) h) where
    next_state : (e : ℕ × Attached) (es : List (ℕ × Attached)) → AreAll p.from p.told (p.past ++ e ∷ es) → item ≡ item_of p.told e → (on : Bool) → on ≡ marked e.1.object → cond on s (queued_cleanup s item.word) ≡ after_due b (due_in marked (p.past ++ e ∷ []))
    next_state e es are is true on = p.state ∙ ap (after_due b) (sym (due_more marked p.past e true on))
    next_state e es are is false off =
        let others = others_before (stays p.told) (retain_keys b.cleanups (nat_le p.from)) p.past e es are in
        (λ i. queued_cleanup (p.state i) (is i).word)
        ∙ one_due b (due_in marked p.past) e (retained_back b.cleanups (nat_le p.from) e.0 e.1 others.0).1 (All-filter (λ (x : ℕ × Attached). not (marked x.1.object)) (λ (y : ℕ × Attached). y.0 ≢ e.0) p.past others.1)
        ∙ ap (after_due b) (sym (due_more marked p.past e false off))

    pub cleaning_on : (answer : Bool) → IsHonest E word_of value (Some IsMarked) item.object h answer new → Cleaning (cond answer s (queued_cleanup s item.word)) left new
    cleaning_on answer honest = by p.rest p.are p.left_are
      where
        by : (rest : List (ℕ × Attached)) → AreAll p.from p.told (p.past ++ rest) → item ∷ left ≡ map (item_of p.told) rest → Cleaning (cond answer s (queued_cleanup s item.word)) left new
        by [] are is = absurd (omega (arith, ap length is))
        by (e ∷ es) are is =
            let told = honest tt in
            let first : item ≡ item_of p.told e = same_Some item (item_of p.told e) (ap (λ xs. slice_get xs 0) is) in
            record {
              from = p.from;
              young = p.young;
              told = p.told;
              opens = p.opens;
              past = p.past ++ e ∷ [];
              rest = es;
              are = subst (AreAll p.from p.told) (sym (append_assoc p.past (e ∷ []) es)) are;
              left_are = ap (drop 1) is;
              state = next_state e es are first answer (told.0 ∙ (λ i. p.marks_are i (first i).object));
              objects_are = ap (λ (x : Graph). x.objects) told.1 ∙ p.objects_are;
              marks_are = ap (λ (x : Graph). x.marked) told.1 ∙ p.marks_are;
            }

  -- all that are due come no earlier
  all_due : (from : ℕ) (told : List (ℕ × ℕ)) → AreYoung from → AreOpen told → (cs : List (ℕ × Attached)) → AreAll from told cs → AreDue (is_due when marked) b.cleanups (due_in marked cs)
  all_due from told young opens cs are =
      let due = are_due when marked (stays told) (retain_keys b.cleanups (nat_le from)) cs (λ c is. (and_parts (is_when when c.cleanup.when) (not (is_marked told c.object)) is).0) are in
      record {
        each = λ k d within. let one = due.each k d within in ((retained_back b.cleanups (nat_le from) (get_or (due_in marked cs) k d).0 (get_or (due_in marked cs) k d).1 one.0).1, one.1);
        whole = λ number c here on.
            let parts = and_parts (is_when when c.cleanup.when) (not (marked c.object)) on in
            let off = is_not (marked c.object) parts.1 in
            let stays_so = and_from (is_when when c.cleanup.when) (not (is_marked told c.object)) parts.0 (ap not (opens number c here parts.0 off)) in
            due.whole number c stays_so (get-retain b.cleanups (nat_le from) number ∙ ap (λ t. cond t (get b.cleanups number) None) (le-leb from number (young number c here off)) ∙ here) on;
        ordered = due.ordered;
      }
    where
      is_not : (b : Bool) → IsTrue (not b) → b ≡ false
      is_not false on = refl
      is_not true on = absurd (true≢false (sym on))

  -- all that are due are queued
  pub cleaning_all : (s : State) (h : Graph) → Cleaning s [] h → Cleans b.passes (is_due when marked) b s
  cleaning_all s h p = by p.rest p.are p.left_are
    where
      by : (rest : List (ℕ × Attached)) → AreAll p.from p.told (p.past ++ rest) → [] ≡ map (item_of p.told) rest → Cleans b.passes (is_due when marked) b s
      by [] are is = (due_in marked p.past, all_due p.from p.told p.young p.opens p.past (subst (AreAll p.from p.told) (append-nil p.past) are), p.state)
      by (e ∷ es) are is = absurd (omega (arith, ap length is))
