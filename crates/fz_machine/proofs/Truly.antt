-- The answers of a host that can be called: they are true of its graph, and each leaves less to come.
use Rattle.std.proofs.Common.{IsTrue, ◌≡◌, ◌≤◌, ◌<◌, ◌+◌, ◌-◌, ◌^◌, ◌++◌, ◌∷◌, ◌∙◌, [], ℕ, suc, bit_or, Bool, true, false, cond, List, length, map, take, drop, zip, get_or, All, Option, Some, None, inl, inr, Result, Ok, Err, IfOk, OnOk, refl, sym, ap, subst, arith}
use Rattle.std.proofs.Math.Seq.{drop-cons}
use Rattle.std.proofs.lemmas.List.{get_or-map, get_or-take, length-append, length-map, length-take}
use Rattle.std.proofs.lemmas.List.Elements.{All-get_or}
use Rattle.std.proofs.lemmas.List.FromFn.{fill_by_all, get_or-map-range_with_len, length-map-range_with_len, map-range_with_len_more}
use Rattle.std.proofs.lemmas.Option.{none-some, same_Some}
use Rattle.std.specs.List.{range_with_len}
use Rattle.std.specs.FinMap.{get, len}
use Rattle.std.specs.Option.{option_map_or}
use Rattle.fz_model.specs.declared.answers.Entry.{Entry}
use Rattle.fz_model.specs.declared.answers.Registration.{Registration}
use Rattle.fz_finalizers.specs.declared.cleanups.Attached.{Attached}
use Rattle.fz_finalizers.specs.declared.kinds.Kind.TheVariants.{Normal}
use Rattle.fz_finalizers.specs.Follows.{next_pass, queued_attached, queued_cleanup, queued_object, queued_one}
use Rattle.std.proofs.Math.Bool.{Bool-set}
use Rattle.std.proofs.Math.Logic.{∥∥₁_elim}
use Rattle.std.proofs.lemmas.Bool.{true≢false}
use Rattle.std.specs.FinSet.{contains}
use Rattle.fz_model.specs.declared.kinds.RegKind.{RegKind}
use Rattle.fz_model.specs.declared.kinds.RegKind.TheVariants as kinds
use Rattle.fz_finalizers.specs.Passed.{PassesWhole}
use Rattle.fz_finalizers.specs.Promises.{AreSingle, IsReached, Past}
use Rattle.fz_finalizers.proofs.Keying.{single}
use Rattle.fz_finalizers.proofs.Promised.{promised}
use Rattle.fz_finalizers.specs.States.{AreFlags, State}
use Rattle.fz_model.specs.Bits.{has_bit}
use Rattle.fz_model.specs.State.{Map, Object}
use Rattle.fz_machine.specs.declared.item.Item.{Item}
use Rattle.fz_machine.specs.declared.phase.Phase.{Phase}
use Rattle.fz_machine.specs.declared.phase.Sweep.{Sweep}
use Rattle.fz_pass.specs.Marks.{IsClosed}
use Rattle.fz_finalizers.specs.declared.passes.Passed.{Passed}
use Rattle.fz_machine.specs.declared.pass.Step.{Step}
use Rattle.fz_machine.specs.declared.pass.Step.TheVariants as steps
use Rattle.fz_machine.specs.declared.pass.Next.{Next}
use Rattle.fz_machine.specs.declared.pass.Next.TheVariants.{Asks}
use Rattle.fz_machine.specs.declared.question.Ask.{Ask}
use Rattle.fz_machine.specs.declared.question.Question.{Question}
use Rattle.fz_machine.specs.Asks.{bits_of}
use Rattle.fz_machine.specs.Graph.{AreHonestWords, Graph, IsHonest, IsTrueWord, MayAsk, MayBeAsked, MayBegin}
use Rattle.fz_machine.specs.Graph as graph
use Rattle.fz_machine.specs.Machines.{Answers, AsksItems, AsksRegions, GoesTo, Heard, IsBegun, IsBegunFrom, Machine, PassesOver, Tells, Words, Works, going_of, heard_by, next_of, questions_left}
use Rattle.fz_machine.specs.Machines as machines
use Rattle.fz_machine.specs.Regions.{IsOfSweep}
use Rattle.fz_machine.specs.Responds.{Advances, IsAbout, Responds}
use Rattle.fz_machine.specs.Phases.{after, ask_of, asks, is_known, subject}
use Rattle.fz_machine.specs.Runs.{AreAskable, AreHonest, IsTrueOf, MakesPass, Runs}
use Rattle.fz_machine.specs.Steps.{IsQuestion}
use Rattle.fz_machine.proofs.Due.{both_kinds}
use Rattle.fz_machine.proofs.Fewer.{IsFit, answers_less, asked_for, costs_told, sized, to_come_at, words_less}
use Rattle.fz_machine.proofs.Masked.{bits_taken}
use Rattle.fz_machine.proofs.Places.{set_here, set_other}
use Rattle.fz_machine.proofs.Ran.{makes_pass, none_old}
use Rattle.fz_machine.proofs.Throughout.{goes_keep, heard_keeps}
use Rattle.fz_machine.proofs.Working.{apart, by_change, work_apart}

-- ---- answers about items

-- what is asked about an item would be asked if nothing were known of it
asked_of : (phase : Phase) (item : Item) (ask : Ask) → asks phase item ≡ Some ask → ask_of phase item ≡ Some ask
asked_of phase item ask is = by (is_known phase item) is
  where
    by : (b : Bool) → cond b None (ask_of phase item) ≡ Some ask → ask_of phase item ≡ Some ask
    by true none = absurd (none-some ask none)
    by false some = some

abbrev no_item : Item
no_item = record { object = 0; word = 0; kind = Normal; turn = 0; known = false }

-- the bits of a word with one more
pub bits_on : (bits more i : ℕ) (answer : Bool) → ((j : ℕ) → j < i → has_bit more j ≡ has_bit bits j) → has_bit more i ≡ answer → map (has_bit more) (range_with_len 0 (i + 1)) ≡ map (has_bit bits) (range_with_len 0 i) ++ answer ∷ []
bits_on bits more i answer before here =
    map-range_with_len_more (has_bit more) 0 i i (omega arith)
    ∙ ap (λ xs. xs ++ has_bit more i ∷ []) (fill_by_all (has_bit bits) (map (has_bit more) (range_with_len 0 i)) i false (length-map-range_with_len (has_bit more) 0 i) (λ k lt. get_or-map-range_with_len (has_bit more) 0 i k k false lt (omega arith) ∙ before k lt))
    ∙ ap (λ b. map (has_bit bits) (range_with_len 0 i) ++ b ∷ []) here

module _ (E : Type 0) (place : ℕ → Option ℕ) (value : Map Object → ℕ → Option ℕ) (phase : Phase) where
  abbrev Honest : List Bool → List Item → Graph → Graph → Type 0
  Honest = AreHonest E place value phase

  abbrev Askable : List Item → Graph → Type 0
  Askable = AreAskable E place value phase

  abbrev OneHonest : Item → Graph → Bool → Graph → Type 0
  OneHonest item = IsHonest E place value (ask_of phase item) (subject phase item)

  -- true answers about the first items, and one about the next
  honest_more : (answers : List Bool) (items rest : List Item) (item : Item) (answer : Bool) (old between new : Graph) → drop (length answers) items ≡ item ∷ rest → Honest answers items old between → OneHonest item between answer new → Honest (answers ++ answer ∷ []) items old new
  honest_more [] items rest item answer old between new is same honest = subst (λ xs. Honest (answer ∷ []) xs old new) (sym is) (new, subst (λ g. OneHonest item g answer new) same honest, refl)
  honest_more (a ∷ answers) [] rest item answer old between new is none honest = absurd none
  honest_more (a ∷ answers) (i ∷ items) rest item answer old between new is (mid, one, more) honest = (mid, one, honest_more answers items rest item answer mid between new is more honest)

  module _ (ask : Ask) (about : List ℕ) (items : List Item) (first : Graph) (of : IsAbout E place value phase ask about items first) (i : ℕ) (lt : i < length about) where
    abbrev item : Item
    item = get_or items i no_item

    within : i < length items
    within = let few = of.few in omega (arith, few, lt)

    taken : length (take (length about) items) ≡ length about
    taken = length-take (length about) items ∙ (let few = of.few in omega (arith, few))

    same_item : get_or (take (length about) items) i no_item ≡ item
    same_item = get_or-take (length about) items i no_item lt

    here : drop i items ≡ item ∷ drop (suc i) items
    here = drop-cons items i no_item within

    asked : ask_of phase item ≡ Some ask
    asked = asked_of phase item ask (subst (λ x. asks phase x ≡ Some ask) same_item (All-get_or (λ x. asks phase x ≡ Some ask) (take (length about) items) i no_item (let long = taken in omega (arith, long, lt)) of.alike))

    named : get_or about i 0 ≡ subject phase item
    named = ap (λ xs. get_or xs i 0) of.same ∙ get_or-map (subject phase) (take (length about) items) i no_item 0 (let long = taken in omega (arith, long, lt)) ∙ ap (subject phase) same_item

    pub may_ask : (g : Graph) → Askable (drop i items) g → MayAsk ask (get_or about i 0) g
    may_ask g askable =
        subst (λ n. MayAsk ask n g) (sym named)
        (subst (λ (o : Option Ask). MayBeAsked o (subject phase item) g) asked (subst (λ xs. Askable xs g) here askable).0)

    -- an answer about the next item is true, and the one behind it may be asked about
    pub honest_on : (g new : Graph) (answers : List Bool) (answer : Bool) → length answers ≡ i → Honest answers items first g → Askable (drop i items) g → graph.Answers E place value ask (get_or about i 0) g answer new
        → Honest (answers ++ answer ∷ []) items first new × Askable (drop (i + 1) items) new
    honest_on g new answers answer count honest askable answered =
        let one : OneHonest item g answer new = subst (λ (o : Option Ask). IsHonest E place value o (subject phase item) g answer new) (sym asked) (λ may. subst (λ n. graph.Answers E place value ask n g answer new) named answered) in
        let next : suc i ≡ i + 1 = omega arith in (
          honest_more answers items (drop (suc i) items) item answer first g new (ap (λ n. drop n items) count ∙ here) honest one,
          subst (λ n. Askable (drop n items) new) next ((subst (λ xs. Askable xs g) here askable).1 answer new one),
        )

-- ---- words about regions

pub honest_words : (place : ℕ → Option ℕ) (ask : Ask) (P : ℕ → Type 0) (g : Graph) (about words : List ℕ) → ((i : ℕ) → i < length about → IsTrueWord place ask g (get_or about i 0) (get_or words i 0)) → AreHonestWords place ask P g (zip about words)
honest_words place ask P g [] words each = tt
honest_words place ask P g (r ∷ about) [] each = tt
honest_words place ask P g (r ∷ about) (w ∷ words) each = (λ i lt of. each 0 (omega arith) i lt, honest_words place ask P g about words (λ i lt. each (suc i) (omega (arith, lt))))

-- ---- the bits of a word, one after another

-- the word with the answer at a place: those before it stay, and none behind it is set
pub record IsMore (bits i : ℕ) (answer : Bool) (more : ℕ) : Type 0 where
  pub before : (j : ℕ) → j < i → has_bit more j ≡ has_bit bits j
  pub here : has_bit more i ≡ answer
  pub rest : (j : ℕ) → i + 1 ≤ j → has_bit more j ≡ false

module _ (bits i : ℕ) (none : (j : ℕ) → i ≤ j → has_bit bits j ≡ false) where
  pub with_yes : (more one : ℕ) → more ≡ bit_or bits one → one ≡ 2 ^ i → IsMore bits i true more
  with_yes more one is one_is =
      let same : more ≡ bit_or bits (2 ^ i) = is ∙ ap (bit_or bits) one_is in
      record {
        before = λ j lt. ap (λ k. has_bit k j) same ∙ set_other bits i j (λ e. omega (arith, lt, e));
        here = ap (λ k. has_bit k i) same ∙ set_here bits i;
        rest = λ j past. ap (λ k. has_bit k j) same ∙ set_other bits i j (λ e. omega (arith, past, e)) ∙ none j (omega (arith, past));
      }

  pub with_no : (more : ℕ) → more ≡ bits → IsMore bits i false more
  with_no more is = record {
    before = λ j lt. ap (λ k. has_bit k j) is;
    here = ap (λ k. has_bit k i) is ∙ none i (omega arith);
    rest = λ j past. ap (λ k. has_bit k j) is ∙ none j (omega (arith, past));
  }

-- ---- the last question

-- it is about items if no regions are asked about, and else about regions
pub items_asked : (m : Machine) (q : Question) → Tells m (Asks q) → m.regions ≡ [] → (phase : Phase) × (m.phase ≡ Some phase) × AsksItems m phase q
items_asked m q (phase, at, inl items) none = (phase, at, items)
items_asked m q (phase, at, inr regions) none = absurd (let count = regions.count in let some = regions.some in let no = ap length none in omega (arith, count, some, no))

pub regions_asked : (m : Machine) (q : Question) → Tells m (Asks q) → 0 < length m.regions → (phase : Phase) × (m.phase ≡ Some phase) × AsksRegions m phase q
regions_asked m q (phase, at, inl items) some = absurd (let no = ap length items.regions in omega (arith, some, no))
regions_asked m q (phase, at, inr regions) some = (phase, at, regions)

module _ (E : Type 0) (place : ℕ → Option ℕ) (value : Map Object → ℕ → Option ℕ) where
  module _ (phase : Phase) (left : List Item) (q : Question) (g : Graph) (is : IsQuestion phase left q) where
    pub count_about : length (take q.count q.about) ≡ q.count
    count_about = ap length is.about ∙ length-map (take q.count left) (subject phase) ∙ length-take q.count left ∙ (let within = is.within in omega (arith, within))

    pub is_about : AreAskable E place value phase left g → IsAbout E place value phase q.ask (take q.count q.about) left g
    is_about askable = record {
      few = let count = count_about in let within = is.within in omega (arith, count, within);
      alike = subst (λ n. All (λ (x : Item). asks phase x ≡ Some q.ask) (take n left)) (sym count_about) is.alike;
      same = is.about ∙ ap (λ n. map (subject phase) (take n left)) (sym count_about);
      askable = askable;
    }

  -- answers about its items respond to it
  pub answers_respond : (old new : Machine) (q : Question) (next : Next) (bits : ℕ) (before after : Graph) (phase : Phase) → old.phase ≡ Some phase → AsksItems old phase q
      → AreHonest E place value phase (take (length (take q.count q.about)) (bits_of bits)) old.walk.left before after → GoesTo old (Answers (take old.asked (bits_of bits))) new next → Responds E place value old before new next after
  answers_respond old new q next bits before after phase at items honest goes =
      let count = count_about phase old.walk.left q before items.question in
      let same = same_Some phase goes.phase (sym at ∙ goes.was) in
      let some = items.question.some in
      let few = items.question.few in
      let asked = items.asked in
      let long = bits_taken bits old.asked (omega (arith, few, asked)) in
      record {
        heard = Answers (take old.asked (bits_of bits));
        goes = goes;
        honest = subst (λ (p : Phase). AreHonest E place value p (take old.asked (bits_of bits)) old.walk.left before after) same
            (subst (λ n. AreHonest E place value phase (take n (bits_of bits)) old.walk.left before after) (count ∙ sym asked) honest);
        advances = (omega (arith, long, some, asked), omega (arith, long));
      }

  -- words about its regions respond to it
  pub words_respond : (old new : Machine) (q : Question) (next : Next) (words : List ℕ) (g : Graph) (phase : Phase) → old.phase ≡ Some phase → AsksRegions old phase q
      → ((i : ℕ) → i < length (take q.count q.about) → IsTrueWord place q.ask g (get_or (take q.count q.about) i 0) (get_or words i 0)) → PassesOver old new → GoesTo old (Words words) new next → Responds E place value old g new next g
  words_respond old new q next words g phase at regions true_words over goes =
      let same = sym regions.is ∙ same_Some phase goes.phase (sym at ∙ goes.was) in
      let honest = honest_words place q.ask (IsOfSweep regions.sweep old.finalizers.state) g (take q.count q.about) words true_words in
      record {
        heard = Words words;
        goes = goes;
        honest = subst (λ (p : Phase). IsTrueOf E place value old (Words words) p g g) same (
          subst (λ (a : Ask). AreHonestWords place a (IsOfSweep regions.sweep old.finalizers.state) g (zip old.regions words)) regions.ask
              (subst (λ xs. AreHonestWords place q.ask (IsOfSweep regions.sweep old.finalizers.state) g (zip xs words)) regions.about honest),
          refl,
        );
        advances = over;
      }

-- what holds of the value of a result
pub of_value : {A B : Type 0} (r : Result A B) (P Q : A → Type 0) → ((x : A) → P x → Q x) → IfOk r P → IfOk r Q
of_value (Ok x) P Q turns p = turns x p
of_value (Err e) P Q turns p = p

pub of_value_and : {A B : Type 0} (r : Result A B) (P Q : A → Type 0) (O : Type 0) → (O → (x : A) → P x → Q x) → IfOk r P → OnOk r O → IfOk r Q
of_value_and (Ok x) P Q O turns p o = turns o x p
of_value_and (Err e) P Q O turns p o = p

-- ---- how much may follow

-- the sizes at the begin of a pass
module _ (s : State) where
  -- of each list that is processed behind a sweep
  abbrev pub most_listed : Sweep → ℕ
  most_listed = sized (len s.registrations) (len s.short) (len s.long) (len s.ephemerons.short) (len s.ephemerons.long) (both_kinds s.cleanups).0 (both_kinds s.cleanups).1

  -- no kind has more than then
  abbrev pub Fits : State → Type 0
  Fits = IsFit (len s.registrations) (len s.short) (len s.long) (len s.ephemerons.short) (len s.ephemerons.long) (both_kinds s.cleanups).0 (both_kinds s.cleanups).1

  abbrev pub left_to_answer : Machine → ℕ
  left_to_answer m = to_come_at most_listed (len s.ephemerons.short) (len s.ephemerons.long) m + questions_left m

  pub fits_first : Fits s
  fits_first = record { registered = omega arith; short = omega arith; long = omega arith; short_keys = omega arith; long_keys = omega arith; attached = ((both_kinds s.cleanups).2, (both_kinds s.cleanups).3) }

  pub record LeavesLess (old new : Machine) : Type 0 where
    pub fits : Fits new.finalizers.state
    pub less : left_to_answer new < left_to_answer old

  pub fits_begun : (from : ℕ) (old begun : Machine) → old.finalizers.state ≡ s → IsBegunFrom from old begun → Fits begun.finalizers.state
  fits_begun from old begun same is = subst Fits (sym (is.finalizers ∙ ap (λ (t : State). record t { passes = next_pass t.passes }) same)) (record { registered = fits_first.registered; short = fits_first.short; long = fits_first.long; short_keys = fits_first.short_keys; long_keys = fits_first.long_keys; attached = fits_first.attached })

  -- each answer leaves less
  pub leaves_less : (old new : Machine) (heard : Heard) (next was : Next) → Tells old was → Fits old.finalizers.state → GoesTo old heard new next → Advances old heard new → LeavesLess old new
  leaves_less old new (Answers answers) next was tells fits goes (some, few) =
      let within = asked_for most_listed (len s.ephemerons.short) (len s.ephemerons.long) old was tells goes.phase goes.was in
      let has = answers_less (len s.registrations) (len s.short) (len s.long) (len s.ephemerons.short) (len s.ephemerons.long) (both_kinds s.cleanups).0 (both_kinds s.cleanups).1 old new next answers (omega (arith, few, within)) (λ p at any. costs_told old was tells p at) fits goes in
      let less = has.less in
      let fewer = goes.fewer in
      record { fits = has.fit; less = omega (arith, less, fewer, some) }
  leaves_less old new (Words words) next was tells fits goes over =
      let has = words_less (len s.registrations) (len s.short) (len s.long) (len s.ephemerons.short) (len s.ephemerons.long) (both_kinds s.cleanups).0 (both_kinds s.cleanups).1 old new next words fits goes in
      let less = has.less in
      record { fits = has.fit; less = omega (arith, less, over) }

  -- the first call has no answers
  pub fits_asked : (begun new : Machine) (answers : List Bool) (next : Next) → answers ≡ [] → Fits begun.finalizers.state → GoesTo begun (Answers answers) new next → Fits new.finalizers.state
  fits_asked begun new answers next none fits goes =
      (answers_less (len s.registrations) (len s.short) (len s.long) (len s.ephemerons.short) (len s.ephemerons.long) (both_kinds s.cleanups).0 (both_kinds s.cleanups).1 begun new next answers (let no = ap length none in omega (arith, no)) (λ p at any. let no = ap length none in absurd (omega (arith, no, any))) fits goes).fit

-- ---- what workers change

-- nothing is taken or finished, no pass begins, and nothing leaves the queue
pub record IsAlone (was now : State) : Type 0 where
  pub taken : now.taken ≡ was.taken
  pub held : now.held ≡ was.held
  pub passes : now.passes ≡ was.passes
  pub queued : length was.queue ≤ length now.queue

pub itself_alone : (s : State) → IsAlone s s
itself_alone s = record { taken = refl; held = refl; passes = refl; queued = omega arith }

abbrev StaysAlone : (State → State) → Type 0
StaysAlone f = (s : State) → IsAlone s (f s)

one_more : (s : State) (e : Entry) → length s.queue ≤ length (s.queue ++ e ∷ [])
one_more s e = let long = length-append s.queue (e ∷ []) in omega (arith, long)

queued_alone : (object : ℕ) → StaysAlone (λ s. queued_object s object)
queued_alone object s = by (get s.registrations object)
  where
    by : (o : Option Registration) → IsAlone s (option_map_or (queued_one s object) o s)
    by None = itself_alone s
    by (Some r) = record { taken = refl; held = refl; passes = refl; queued = one_more s _ }

cleaned_alone : (number : ℕ) → StaysAlone (λ s. queued_cleanup s number)
cleaned_alone number s = by (get s.cleanups number)
  where
    by : (o : Option Attached) → IsAlone s (option_map_or (queued_attached s number) o s)
    by None = itself_alone s
    by (Some c) = record { taken = refl; held = refl; passes = refl; queued = one_more s _ }

removed_alone : (s t : State) → t.taken ≡ s.taken → t.held ≡ s.held → t.passes ≡ s.passes → t.queue ≡ s.queue → IsAlone s t
removed_alone s t taken held passes queue = record { taken = taken; held = held; passes = passes; queued = let same = ap length queue in omega (arith, same) }

after_alone : (was : State) (phase : Phase) (item : Item) (answer : Bool) (s : State) → IsAlone was s → IsAlone was (after phase item answer s)
after_alone was phase item answer s so_far =
    let on =
    by_change StaysAlone itself_alone (λ word s. removed_alone s _ refl refl refl refl) (λ word s. removed_alone s _ refl refl refl refl) (λ word s. removed_alone s _ refl refl refl refl) queued_alone cleaned_alone phase item answer s in
    let more = on.queued in
    let least = so_far.queued in
    record { taken = on.taken ∙ so_far.taken; held = on.held ∙ so_far.held; passes = on.passes ∙ so_far.passes; queued = omega (arith, more, least) }

pub goes_alone : (was : State) (old new : Machine) (heard : Heard) (next : Next) → GoesTo old heard new next → IsAlone was old.finalizers.state → IsAlone was new.finalizers.state
goes_alone was old new heard next goes so_far =
    goes_keep (IsAlone was) (after_alone was) goes.phase (heard_by goes.phase old.regions heard (going_of old)) new.phase (going_of new) goes.goes
    (heard_keeps (IsAlone was) (after_alone was) goes.phase old.regions heard (going_of old) so_far)

-- ---- a pass in which nothing is taken

works_apart : (taken : ℕ) (held : List Entry) (s t : State) → Works s t → apart taken held t ≡ apart taken held s
works_apart taken held s t machines.Begun = refl
works_apart taken held s t (machines.Goes {mid = mid} event work works follows) = work_apart taken held mid t event work follows ∙ works_apart taken held s mid works

-- what would be taken and finished after the pass is nothing
pub passes_alone : (E : Type 0) (place : ℕ → Option ℕ) (value : Map Object → ℕ → Option ℕ) (old new : State) (before after : Graph) → MakesPass E place value old before new after → new.taken ≡ old.taken → new.held ≡ old.held
    → PassesWhole E place value old before.objects before.marked new after.objects after.marked
passes_alone E place value old new before after makes taken held =
    let pass = makes.passes.2 in
    let queues = pass.follows.0 in
    let same_taken : makes.passed.taken ≡ new.taken = ap (λ (s : State). s.taken) pass.long.2 ∙ queues.taken ∙ ap (λ (s : State). s.taken) pass.short.2 ∙ sym taken in
    let same_held : makes.passed.held ≡ new.held = ap (λ (s : State). s.held) pass.long.2 ∙ queues.held ∙ ap (λ (s : State). s.held) pass.short.2 ∙ sym held in
    let is : makes.passed ≡ new = (λ i. record makes.passed { taken = same_taken i; held = same_held i }) ∙ sym (works_apart new.taken new.held makes.passed new makes.works) in
    subst (λ (s : State). PassesWhole E place value old before.objects before.marked s after.objects after.marked) is makes.passes

-- ---- what calls led to

abbrev is_normal : RegKind → Bool
is_normal kinds.Normal = true
is_normal kinds.IgnoreSelf = false
is_normal kinds.NoOrder = false

module _ (s : State) (made : ∥ ((past : Past) × IsReached s past) ∥₁) where
  abbrev normal_at : ℕ → Bool
  normal_at a = option_map_or (λ (r : Registration). is_normal r.kind) (get s.registrations a) false

  normal_here : (a : ℕ) (r : Registration) → get s.registrations a ≡ Some r → r.kind ≡ kinds.Normal → normal_at a ≡ true
  normal_here a r here kind = ap (λ o. option_map_or (λ (q : Registration). is_normal q.kind) o false) here ∙ ap is_normal kind

  flag_at : (a : ℕ) → IsTrue (contains s.late a) → normal_at a ≡ true
  flag_at a late = ∥∥₁_elim made (Bool-set (normal_at a) true) (λ (past, reached). let f = (promised s past reached).flags a late in normal_here a f.0 f.1 f.2)

  pub made_flags : AreFlags s.registrations s.late
  made_flags a late = by (get s.registrations a) refl (flag_at a late)
    where
      is : (kind : RegKind) → is_normal kind ≡ true → kind ≡ kinds.Normal
      is kinds.Normal on = refl
      is kinds.IgnoreSelf on = absurd (true≢false (sym on))
      is kinds.NoOrder on = absurd (true≢false (sym on))

      by : (o : Option Registration) → get s.registrations a ≡ o → option_map_or (λ (r : Registration). is_normal r.kind) o false ≡ true → (r : Registration) × (get s.registrations a ≡ Some r) × (r.kind ≡ kinds.Normal)
      by None here on = absurd (true≢false (sym on))
      by (Some r) here on = (r, here, is r.kind on)

  pub made_single : AreSingle s
  made_single word short long here there = ∥∥₁_elim made (λ x y. absurd x) (λ (past, reached). single s past reached word short long here there)

-- ---- the end of a pass

pub record PassEnds (E : Type 0) (place : ℕ → Option ℕ) (value : Map Object → ℕ → Option ℕ) (old new : Machine) (before after : Graph) (passed : Passed) : Type 0 where
  pub passes : PassesWhole E place value old.finalizers.state before.objects before.marked new.finalizers.state after.objects after.marked
  pub idle : new.phase ≡ None
  pub pass : passed.pass ≡ next_pass old.finalizers.passes
  pub picked : length new.finalizers.queue ≡ length old.finalizers.queue + passed.picked
  pub marks : (a : ℕ) → IsTrue (before.marked a) → IsTrue (after.marked a)
  pub closed : IsClosed after.objects after.marked

pub pass_ends : (E : Type 0) (place : ℕ → Option ℕ) (value : Map Object → ℕ → Option ℕ) (old begun new : Machine) (before after : Graph) (step : Step) (passed : Passed) (about : List ℕ) → ∥ ((past : Past) × IsReached old.finalizers.state past) ∥₁ → IsBegun old begun
    → MayBegin place value old.finalizers.state before → Runs E place value begun before new after → step ≡ steps.Ended passed → Tells new (next_of step about) → new.before ≡ length old.finalizers.queue
    → IsAlone (record old.finalizers.state { passes = next_pass old.finalizers.passes }) new.finalizers.state → PassEnds E place value old new before after passed
pass_ends E place value old begun new before after step passed about made is may runs ended told count alone =
    let tells : Tells new (next_of (steps.Ended passed) about) = subst (λ s. Tells new (next_of s about)) ended told in
    let makes = makes_pass E place value 0 old begun new before after (made_flags old.finalizers.state made) (made_single old.finalizers.state made) is may (none_old old.finalizers.state before) runs tells.0 in
    let picked : passed.picked ≡ length new.finalizers.queue - length old.finalizers.queue = tells.2 ∙ ap (λ n. length new.finalizers.queue - n) count in
    let least = alone.queued in
    record {
      passes = passes_alone E place value old.finalizers.state new.finalizers.state before after makes alone.taken alone.held;
      idle = tells.0;
      pass = tells.1 ∙ alone.passes;
      picked = omega (arith, picked, least);
      marks = makes.marks;
      closed = makes.closed;
    }
