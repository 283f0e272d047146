-- A pass asks about its items in few questions: those about which the same is asked come together.
use Rattle.std.proofs.Common.{◌≡◌, ◌≤◌, ◌<◌, ◌+◌, ◌*◌, ◌++◌, ◌∷◌, ◌⊎◌, ◌∙◌, [], ℕ, zero, suc, Bool, true, false, true≢false, cond, not, nat_eq, is_some, List, All, length, map, drop, take, slice_get, Option, Some, None, refl, inl, inr, ⊎_elim, sym, ap, subst, append-nil, append_assoc, arith}
use Rattle.std.proofs.lemmas.Bool.{cases_lt, eq-eqb, eqb-true}
use Rattle.std.proofs.lemmas.List.Elements.{All-cons, All-head, All-nil, All-tail}
use Rattle.std.proofs.lemmas.Option.{none-some, same_Some}
use Rattle.fz_finalizers.specs.declared.kinds.Kind.{Kind}
use Rattle.fz_finalizers.specs.declared.kinds.Kind.TheVariants.{Normal, IgnoreSelf, NoOrder, Unreachable}
use Rattle.fz_finalizers.specs.States.{State}
use Rattle.fz_table.specs.declared.stored.Stored.{Stored}
use Rattle.fz_model.specs.State.{Map, Object}
use Rattle.fz_machine.specs.declared.item.Item.{Item}
use Rattle.fz_machine.specs.declared.pass.Next.{Next}
use Rattle.fz_machine.specs.declared.pass.Next.TheVariants as told
use Rattle.fz_machine.specs.declared.phase.Moment.{Moment}
use Rattle.fz_machine.specs.declared.phase.Moment.TheVariants.{First, Led, Picked, Last}
use Rattle.fz_machine.specs.declared.phase.Phase.{Phase}
use Rattle.fz_machine.specs.declared.phase.Phase.TheVariants.{Keys, KeysAgain, Holders, Values, Regions, ShortCleanups, ShortTargets, ShortWords, ShortKeys, ShortKeyWords, Objects, Children, Again, Picks, Entries, LateAgain, LatePicks, LongTargets, LongWords, LongKeys, LongKeyWords, ShortHolders, LongHolders, ShortKeyHolders, LongKeyHolders, LongCleanups}
use Rattle.fz_machine.specs.declared.phase.Sweep.{Sweep}
use Rattle.fz_machine.specs.declared.phase.Sweep.TheVariants as sweeps
use Rattle.fz_machine.specs.declared.question.Ask.{Ask}
use Rattle.fz_machine.specs.declared.question.Ask.TheVariants.{IsMarked, MarkChildren, MarkOthers, Mark, MarkAlone, Clear, IsHolderMarked, Marks, Live, MarkValue}
use Rattle.fz_machine.specs.declared.question.Question.{Question}
use Rattle.fz_machine.specs.Asks.{number_of}
use Rattle.fz_machine.specs.Graph.{Graph}
use Rattle.fz_machine.specs.Items.{group_of, of_late, of_other}
use Rattle.fz_table.specs.Tabled.{plain}
use Rattle.fz_machine.specs.Machines.{Answers, GoesTo, Heard, Machine, Tells, Words, going_of, heard_by, is_noted}
use Rattle.fz_machine.specs.Off.{PutOff, looks_again}
use Rattle.fz_machine.specs.Phases.{Lists, aside_in, asks, behind, child_ask, given, keeps, next_phase, pick_ask, swept}
use Rattle.fz_machine.specs.Runs.{AreWhole, AsksBatches, Begun, Goes, Meanwhile, Runs, Told, answered, answers_in, is_of_rows, one_question, questions}
use Rattle.fz_machine.specs.Steps.{Asks, Begins, Ends, Going, GoesOn, IsQuestion, Sweeps, Turns, skip, skipped, step, stepped, steps}
use Rattle.fz_machine.proofs.Among.{AreInOrder, Each, order_from, order_without}
use Rattle.fz_machine.proofs.Numbered.{same_ask}
use Rattle.fz_machine.proofs.Phasing.{kept_on}
use Rattle.fz_machine.proofs.Throughout.{heard_answers, heard_words}
use Rattle.fz_machine.proofs.Turned.{is_sweep, swept_no_sweep}
use Rattle.fz_machine.proofs.Unasked.{all_unasked, stops_at}

-- ---- runs of equal numbers

-- whether a number other than 0 follows on another one
abbrev changes : ℕ → ℕ → ℕ
changes zero zero = 0
changes zero (suc n) = 1
changes (suc p) zero = 0
changes (suc p) (suc n) = cond (nat_eq p n) 0 1

-- how many runs of equal numbers other than 0 follow on a number
abbrev runs : ℕ → List ℕ → ℕ
runs p [] = 0
runs p (n ∷ ns) = changes p n + runs n ns

one_change : (p n : ℕ) → changes p n ≤ 1
one_change zero zero = omega arith
one_change zero (suc n) = omega arith
one_change (suc p) zero = omega arith
one_change (suc p) (suc n) = by (nat_eq p n)
  where
    by : (b : Bool) → cond b 0 1 ≤ 1
    by true = omega arith
    by false = omega arith

no_change : (n : ℕ) → changes n n ≡ 0
no_change zero = refl
no_change (suc n) = ap (λ b. cond b 0 1) (eq-eqb n n refl)

-- whatever comes first, it begins at most one run more
one_run : (p q : ℕ) (ns : List ℕ) → runs p ns ≤ runs q ns + 1
one_run p q [] = omega arith
one_run p q (n ∷ ns) = let one = one_change p n in omega (arith, one)

-- past the first of a run
runs_drop : (k : ℕ) (ns : List ℕ) (c : ℕ) → c ≤ length ns → All (λ n. n ≡ suc k) (take c ns) → runs (suc k) ns ≡ runs (suc k) (drop c ns)
runs_drop k ns zero few same = refl
runs_drop k [] (suc c) few same = absurd (omega (arith, few))
runs_drop k (n ∷ ns) (suc c) few same =
    let is : n ≡ suc k = All-head (λ n. n ≡ suc k) n (take c ns) same in
    let rest = runs_drop k ns c (omega (arith, few)) (All-tail (λ n. n ≡ suc k) n (take c ns) same) in
    let none : changes (suc k) n ≡ 0 = ap (changes (suc k)) is ∙ no_change (suc k) in
    let at : runs n ns ≡ runs (suc k) ns = ap (λ m. runs m ns) is in
    omega (arith, rest, none, at)

runs_first : (k : ℕ) (ns : List ℕ) (c : ℕ) → 0 < c → c ≤ length ns → All (λ n. n ≡ suc k) (take c ns) → runs 0 ns ≡ 1 + runs (suc k) (drop c ns)
runs_first k ns zero some few same = absurd (omega (arith, some))
runs_first k [] (suc c) some few same = absurd (omega (arith, few))
runs_first k (n ∷ ns) (suc c) some few same =
    let is : n ≡ suc k = All-head (λ n. n ≡ suc k) n (take c ns) same in
    let rest = runs_drop k ns c (omega (arith, few)) (All-tail (λ n. n ≡ suc k) n (take c ns) same) in
    let one : changes 0 n ≡ 1 = ap (changes 0) is in
    let at : runs n ns ≡ runs (suc k) ns = ap (λ m. runs m ns) is in
    omega (arith, rest, one, at)

-- a question doesn't begin a run, and one that ends where something else follows ends one
runs_past : (k : ℕ) (ns : List ℕ) (c : ℕ) → 0 < c → c ≤ length ns → All (λ n. n ≡ suc k) (take c ns) → runs 0 (drop c ns) ≤ runs 0 ns
runs_past k ns c some few same = let first = runs_first k ns c some few same in let one = one_run 0 (suc k) (drop c ns) in omega (arith, first, one)

other_run : (k : ℕ) (ns : List ℕ) → ((n : ℕ) → slice_get ns 0 ≡ Some n → n ≡ suc k → ⊥) → runs 0 ns ≡ runs (suc k) ns
other_run k [] other = refl
other_run k (zero ∷ ns) other = refl
other_run k (suc n ∷ ns) other = by (nat_eq k n) refl
  where
    by : (b : Bool) → nat_eq k n ≡ b → 1 + runs (suc n) ns ≡ cond b 0 1 + runs (suc n) ns
    by true is = absurd (other (suc n) refl (ap suc (sym (eqb-true k n is))))
    by false is = refl

get_drop : (ns : List ℕ) (c : ℕ) → slice_get (drop c ns) 0 ≡ slice_get ns c
get_drop ns zero = refl
get_drop [] (suc c) = refl
get_drop (n ∷ ns) (suc c) = get_drop ns c

runs_end : (k : ℕ) (ns : List ℕ) (c : ℕ) → 0 < c → c ≤ length ns → All (λ n. n ≡ suc k) (take c ns) → ((n : ℕ) → slice_get ns c ≡ Some n → n ≡ suc k → ⊥) → runs 0 (drop c ns) + 1 ≤ runs 0 ns
runs_end k ns c some few same other =
    let first = runs_first k ns c some few same in
    let last = other_run k (drop c ns) (λ n at. other n (sym (get_drop ns c) ∙ at)) in
    omega (arith, first, last)

-- one number throughout
runs_same : {X : Type 0} (p n : ℕ) (xs : List X) → runs p (map (λ (x : X). n) xs) ≤ 1
runs_same p n [] = omega arith
runs_same {X = X} p n (x ∷ xs) = let one = one_change p n in let rest = none_more xs in omega (arith, one, rest)
  where
    none_more : (ys : List X) → runs n (map (λ (y : X). n) ys) ≡ 0
    none_more [] = refl
    none_more (y ∷ ys) = let none = no_change n in let rest = none_more ys in omega (arith, none, rest)

runs_none : {X : Type 0} (xs : List X) → runs 0 (map (λ (x : X). 0) xs) ≡ 0
runs_none [] = refl
runs_none (x ∷ xs) = let rest = runs_none xs in omega (arith, rest)

-- ---- what is asked, as a number

abbrev code_of : Option Ask → ℕ
code_of None = 0
code_of (Some ask) = number_of ask

abbrev code : Phase → Item → ℕ
code phase item = code_of (asks phase item)

abbrev codes : Phase → List Item → List ℕ
codes phase items = map (code phase) items

some_number : (ask : Ask) → (k : ℕ) × (number_of ask ≡ suc k)
some_number IsMarked = (0, refl)
some_number MarkChildren = (1, refl)
some_number MarkOthers = (2, refl)
some_number Mark = (3, refl)
some_number MarkAlone = (4, refl)
some_number Clear = (5, refl)
some_number IsHolderMarked = (6, refl)
some_number Marks = (7, refl)
some_number Live = (8, refl)
some_number MarkValue = (9, refl)

code_back : (o : Option Ask) (ask : Ask) (k : ℕ) → number_of ask ≡ suc k → code_of o ≡ suc k → o ≡ Some ask
code_back None ask k number is = absurd (omega (arith, is))
code_back (Some other) ask k number is = ap Some (same_ask other ask (is ∙ sym number))

no_code : (o : Option Ask) → is_some o ≡ false → code_of o ≡ 0
no_code None none = refl
no_code (Some ask) none = absurd (true≢false none)

-- the codes of the first items, and of the one behind them
all_codes : (phase : Phase) (ask : Ask) (k : ℕ) → number_of ask ≡ suc k → (items : List Item) (c : ℕ) → All (λ i. asks phase i ≡ Some ask) (take c items) → All (λ n. n ≡ suc k) (take c (codes phase items))
all_codes phase ask k number items c alike = subst (All (λ n. n ≡ suc k)) (map_take c items) (mapped (take c items) alike)
  where
    map_take : (c : ℕ) (xs : List Item) → codes phase (take c xs) ≡ take c (codes phase xs)
    map_take zero xs = refl
    map_take (suc c) [] = refl
    map_take (suc c) (x ∷ xs) = ap (λ ns. code phase x ∷ ns) (map_take c xs)

    mapped : (xs : List Item) → All (λ i. asks phase i ≡ Some ask) xs → All (λ n. n ≡ suc k) (codes phase xs)
    mapped [] h = All-nil (λ n. n ≡ suc k)
    mapped (x ∷ xs) h = All-cons (λ n. n ≡ suc k) (code phase x) (codes phase xs) (ap code_of (All-head (λ i. asks phase i ≡ Some ask) x xs h) ∙ number) (mapped xs (All-tail (λ i. asks phase i ≡ Some ask) x xs h))

code_at : (phase : Phase) (items : List Item) (c n : ℕ) → slice_get (codes phase items) c ≡ Some n → (item : Item) × (slice_get items c ≡ Some item) × (code phase item ≡ n)
code_at phase [] c n at = absurd (none-some n at)
code_at phase (item ∷ items) zero n at = (item, refl, same_Some (code phase item) n at)
code_at phase (item ∷ items) (suc c) n at = code_at phase items c n at

drop_codes : (phase : Phase) (items : List Item) (c : ℕ) → codes phase (drop c items) ≡ drop c (codes phase items)
drop_codes phase items zero = refl
drop_codes phase [] (suc c) = refl
drop_codes phase (item ∷ items) (suc c) = drop_codes phase items c

long_codes : (phase : Phase) (items : List Item) → length (codes phase items) ≡ length items
long_codes phase [] = refl
long_codes phase (item ∷ items) = ap suc (long_codes phase items)

-- ---- a question

-- how many questions the items of a list take, if each is about 64
abbrev groups : Phase → List Item → ℕ
groups phase items = runs 0 (codes phase items)

module _ (phase : Phase) (left : List Item) (q : Question) (is : IsQuestion phase left q) where
  number : (k : ℕ) × (number_of q.ask ≡ suc k)
  number = some_number q.ask

  within : q.count ≤ length (codes phase left)
  within = let long = long_codes phase left in let few = is.within in omega (arith, long, few)

  groups_past : groups phase (drop q.count left) ≤ groups phase left
  groups_past = subst (λ ns. runs 0 ns ≤ groups phase left) (sym (drop_codes phase left q.count)) (runs_past number.0 (codes phase left) q.count is.some within (all_codes phase q.ask number.0 number.1 left q.count is.alike))

  groups_end : q.count < 64 → groups phase (drop q.count left) + 1 ≤ groups phase left
  groups_end few =
      subst (λ ns. runs 0 ns + 1 ≤ groups phase left) (sym (drop_codes phase left q.count))
      (runs_end number.0 (codes phase left) q.count is.some within (all_codes phase q.ask number.0 number.1 left q.count is.alike)
      (λ n at same. let item = code_at phase left q.count n at in is.most few item.0 item.1 (code_back (asks phase item.0) q.ask number.0 number.1 (item.2 ∙ same))))

-- items about which nothing is asked begin no run
groups_skipped : (phase : Phase) (xs : List Item) (g : Going) → g.left ≡ xs → groups phase (skipped phase xs g).left ≡ groups phase xs
groups_skipped phase [] g is = ap (groups phase) is
groups_skipped phase (x ∷ xs) g is = by (is_some (asks phase x)) refl (groups_skipped phase xs (step phase false g) (ap (λ ys. (stepped phase false g ys).left) is))
  where
    by : (b : Bool) → is_some (asks phase x) ≡ b → groups phase (skipped phase xs (step phase false g)).left ≡ groups phase xs → groups phase (cond b g (skipped phase xs (step phase false g))).left ≡ groups phase (x ∷ xs)
    by true some rest = ap (groups phase) is
    by false none rest = let same = ap (λ n. changes 0 n + runs n (codes phase xs)) (no_code (asks phase x) none) in omega (arith, rest, same)

groups_skip : (phase : Phase) (g : Going) → groups phase (skip phase g).left ≡ groups phase g.left
groups_skip phase g = groups_skipped phase g.left g refl

-- ---- how many runs there are in a list when a phase begins

none_asked : (phase : Phase) (items : List Item) → Each (λ (i : Item). is_some (asks phase i) ≡ false) items → groups phase items ≡ 0
none_asked phase [] none = refl
none_asked phase (x ∷ xs) none =
    let same = ap (λ n. changes 0 n + runs n (codes phase xs)) (no_code (asks phase x) none.0) in
    let rest = none_asked phase xs none.1 in
    omega (arith, same, rest)

-- by the groups of kinds
abbrev group : Item → ℕ
group item = group_of item.kind

module _ (ask : Kind → Option Ask) (most : Kind → ℕ) (fits : (k l : Kind) → group_of k ≤ group_of l → changes (code_of (ask k)) (code_of (ask l)) + most l ≤ most k) (first : (k : Kind) → changes 0 (code_of (ask k)) + most k ≤ 2) where
  runs_behind : (k : Kind) (items : List Item) → Each (λ (i : Item). group_of k ≤ group i) items → AreInOrder group items → runs (code_of (ask k)) (map (λ (i : Item). code_of (ask i.kind)) items) ≤ most k
  runs_behind k [] above ordered = omega arith
  runs_behind k (item ∷ items) above ordered =
      let rest = runs_behind item.kind items ordered.0 ordered.1 in
      let one = fits k item.kind above.0 in
      omega (arith, rest, one)

  runs_grouped : (items : List Item) → AreInOrder group items → runs 0 (map (λ (i : Item). code_of (ask i.kind)) items) ≤ 2
  runs_grouped [] ordered = omega arith
  runs_grouped (item ∷ items) ordered =
      let rest = runs_behind item.kind items ordered.0 ordered.1 in
      let one = first item.kind in
      omega (arith, rest, one)

abbrev children_most : Kind → ℕ
children_most Unreachable = 1
children_most Normal = 1
children_most IgnoreSelf = 0
children_most NoOrder = 0

abbrev picks_most : Kind → ℕ
picks_most Unreachable = 2
picks_most Normal = 1
picks_most IgnoreSelf = 1
picks_most NoOrder = 0

children_fit : (k l : Kind) → group_of k ≤ group_of l → changes (code_of (child_ask k)) (code_of (child_ask l)) + children_most l ≤ children_most k
children_fit Unreachable Unreachable le = omega arith
children_fit Unreachable Normal le = omega arith
children_fit Unreachable IgnoreSelf le = omega arith
children_fit Unreachable NoOrder le = omega arith
children_fit Normal Unreachable le = absurd (omega (arith, le))
children_fit Normal Normal le = omega arith
children_fit Normal IgnoreSelf le = omega arith
children_fit Normal NoOrder le = omega arith
children_fit IgnoreSelf Unreachable le = absurd (omega (arith, le))
children_fit IgnoreSelf Normal le = absurd (omega (arith, le))
children_fit IgnoreSelf IgnoreSelf le = omega arith
children_fit IgnoreSelf NoOrder le = omega arith
children_fit NoOrder Unreachable le = absurd (omega (arith, le))
children_fit NoOrder Normal le = absurd (omega (arith, le))
children_fit NoOrder IgnoreSelf le = absurd (omega (arith, le))
children_fit NoOrder NoOrder le = omega arith

children_first : (k : Kind) → changes 0 (code_of (child_ask k)) + children_most k ≤ 2
children_first Unreachable = omega arith
children_first Normal = omega arith
children_first IgnoreSelf = omega arith
children_first NoOrder = omega arith

picks_fit : (k l : Kind) → group_of k ≤ group_of l → changes (code_of (pick_ask k)) (code_of (pick_ask l)) + picks_most l ≤ picks_most k
picks_fit Unreachable Unreachable le = omega arith
picks_fit Unreachable Normal le = omega arith
picks_fit Unreachable IgnoreSelf le = omega arith
picks_fit Unreachable NoOrder le = omega arith
picks_fit Normal Unreachable le = absurd (omega (arith, le))
picks_fit Normal Normal le = omega arith
picks_fit Normal IgnoreSelf le = omega arith
picks_fit Normal NoOrder le = omega arith
picks_fit IgnoreSelf Unreachable le = absurd (omega (arith, le))
picks_fit IgnoreSelf Normal le = absurd (omega (arith, le))
picks_fit IgnoreSelf IgnoreSelf le = omega arith
picks_fit IgnoreSelf NoOrder le = omega arith
picks_fit NoOrder Unreachable le = absurd (omega (arith, le))
picks_fit NoOrder Normal le = absurd (omega (arith, le))
picks_fit NoOrder IgnoreSelf le = absurd (omega (arith, le))
picks_fit NoOrder NoOrder le = omega arith

picks_first : (k : Kind) → changes 0 (code_of (pick_ask k)) + picks_most k ≤ 2
picks_first Unreachable = omega arith
picks_first Normal = omega arith
picks_first IgnoreSelf = omega arith
picks_first NoOrder = omega arith

-- behind a sweep in which nothing was told
module _ (phase : Phase) (n : ℕ) (unknown : (item : Item) → item.known ≡ false → code phase item ≡ n) where
  codes_same : (items : List Item) → Each (λ (i : Item). i.known ≡ false) items → codes phase items ≡ map (λ (i : Item). n) items
  codes_same [] h = refl
  codes_same (x ∷ xs) h = ap (λ m. m ∷ codes phase xs) (unknown x h.0) ∙ ap (λ ms. n ∷ ms) (codes_same xs h.1)

  one_group : (items : List Item) → Each (λ (i : Item). i.known ≡ false) items → groups phase items ≤ 1
  one_group items h = let few = runs_same 0 n items in let same = ap (runs 0) (codes_same items h) in omega (arith, few, same)

each_map : {X : Type 0} (f : X → Item) → ((x : X) → (f x).known ≡ false) → (xs : List X) → Each (λ (i : Item). i.known ≡ false) (map f xs)
each_map f none [] = tt
each_map f none (x ∷ xs) = (none x, each_map f none xs)

stored_unknown : (e : ℕ × Stored) → (cond e.1.unreachable (of_late false (plain e)) (of_other false (plain e))).known ≡ false
stored_unknown e = by e.1.unreachable
  where
    by : (b : Bool) → (cond b (of_late false (plain e)) (of_other false (plain e))).known ≡ false
    by true = refl
    by false = refl

asks_unknown : (ask : Ask) (b : Bool) → b ≡ false → code_of (cond b None (Some ask)) ≡ number_of ask
asks_unknown ask b off = ap (λ (x : Bool). code_of (cond x None (Some ask))) off

module _ (from : ℕ) (s : State) (given items : List Item) where
  swept_untold : (sweep : Sweep) → Lists (swept sweep) from [] s given items → groups (swept sweep) items ≤ 1
  swept_untold sweeps.ShortCleanups are = one_group ShortCleanups 1 (λ i off. asks_unknown IsMarked i.known off) items (subst (Each (λ (i : Item). i.known ≡ false)) (sym are.2) (each_map _ (λ e. refl) are.0))
  swept_untold sweeps.ShortTargets are = one_group ShortTargets 1 (λ i off. asks_unknown IsMarked i.known off) items (subst (Each (λ (i : Item). i.known ≡ false)) (sym are.2) (each_map _ (λ e. refl) _))
  swept_untold sweeps.Objects are = one_group Objects 1 (λ i off. asks_unknown IsMarked i.known off) items (subst (Each (λ (i : Item). i.known ≡ false)) (sym are.3) (each_map _ stored_unknown _))
  swept_untold sweeps.LongTargets are = one_group LongTargets 1 (λ i off. asks_unknown IsMarked i.known off) items (subst (Each (λ (i : Item). i.known ≡ false)) (sym are.2) (each_map _ (λ e. refl) _))
  swept_untold sweeps.ShortHolders are = one_group ShortHolders 7 (λ i off. asks_unknown IsHolderMarked i.known off) items (subst (Each (λ (i : Item). i.known ≡ false)) (sym are.2) (each_map _ (λ e. refl) _))
  swept_untold sweeps.LongHolders are = one_group LongHolders 7 (λ i off. asks_unknown IsHolderMarked i.known off) items (subst (Each (λ (i : Item). i.known ≡ false)) (sym are.2) (each_map _ (λ e. refl) _))
  swept_untold sweeps.LongCleanups are = one_group LongCleanups 1 (λ i off. asks_unknown IsMarked i.known off) items (subst (Each (λ (i : Item). i.known ≡ false)) (sym are.2) (each_map _ (λ e. refl) are.0))

-- ---- how many questions may follow that aren't about 64 items

-- in the phases behind the marks that are made whole
abbrev behind_rows : Moment → ℕ
behind_rows First = 16
behind_rows Led = 10
behind_rows Picked = 7
behind_rows Last = 5

abbrev behind_sweep : Sweep → ℕ
behind_sweep sweeps.ShortCleanups = 16
behind_sweep sweeps.ShortTargets = 15
behind_sweep sweeps.Objects = 13
behind_sweep sweeps.LongTargets = 5
behind_sweep sweeps.ShortHolders = 3
behind_sweep sweeps.LongHolders = 2
behind_sweep sweeps.LongCleanups = 1

-- and behind each phase
abbrev later : Phase → ℕ
later (Keys moment) = behind_rows moment
later (KeysAgain moment) = behind_rows moment
later (Holders moment) = behind_rows moment
later (Values moment) = behind_rows moment
later (Regions sweep) = behind_sweep sweep
later ShortCleanups = 15
later ShortTargets = 14
later ShortWords = 13
later ShortKeys = 13
later ShortKeyWords = 13
later Objects = 12
later Children = 10
later Again = 9
later Picks = 7
later Entries = 7
later LateAgain = 6
later LatePicks = 5
later LongTargets = 4
later LongWords = 3
later LongKeys = 3
later LongKeyWords = 3
later ShortHolders = 2
later LongHolders = 1
later ShortKeyHolders = 1
later LongKeyHolders = 1
later LongCleanups = 0

abbrev in_phase : Phase → List Item → ℕ
in_phase phase items = cond (is_of_rows phase) 0 (groups phase items)

abbrev to_ask : Option Phase → List Item → ℕ
to_ask None items = 0
to_ask (Some phase) items = in_phase phase items + later phase

in_skipped : (phase : Phase) (g : Going) → in_phase phase (skip phase g).left ≡ in_phase phase g.left
in_skipped phase g = ap (cond (is_of_rows phase) 0) (groups_skip phase g)

-- ---- the lists that are grouped

abbrev IsAsideGrouped : Moment → List Item → Type 0
IsAsideGrouped Led aside = AreInOrder group aside
IsAsideGrouped moment aside = Unit {0}

-- from the children on to the picks
abbrev IsGrouped : Phase → List Item → List Item → List Item → Type 0
IsGrouped (Keys moment) kept left aside = IsAsideGrouped moment aside
IsGrouped (KeysAgain moment) kept left aside = IsAsideGrouped moment aside
IsGrouped (Holders moment) kept left aside = IsAsideGrouped moment aside
IsGrouped (Values moment) kept left aside = IsAsideGrouped moment aside
IsGrouped Children kept left aside = AreInOrder group (kept ++ left)
IsGrouped Again kept left aside = AreInOrder group (kept ++ left)
IsGrouped Picks kept left aside = AreInOrder group left
IsGrouped phase kept left aside = Unit {0}

abbrev IsGroupedIn : Phase → Going → Type 0
IsGroupedIn phase g = IsGrouped phase g.kept g.left g.aside

one_grouped : (phase : Phase) (item : Item) (answer : Bool) (kept left aside : List Item) → IsGrouped phase kept (item ∷ left) aside → IsGrouped phase (kept_on (keeps phase item answer) kept item) left aside
one_grouped Children item answer kept left aside h = subst (AreInOrder group) (sym (append_assoc kept (item ∷ []) left)) h
one_grouped Again item answer kept left aside h = by answer
  where
    by : (yes : Bool) → AreInOrder group (kept_on (not yes) kept item ++ left)
    by true = order_without group kept item left h
    by false = subst (AreInOrder group) (sym (append_assoc kept (item ∷ []) left)) h
one_grouped Picks item answer kept left aside h = h.1
one_grouped phase item answer kept left aside h = h

module _ (phase : Phase) where
  step_grouped : (answer : Bool) (g : Going) (xs : List Item) → g.left ≡ xs → IsGrouped phase g.kept xs g.aside → IsGroupedIn phase (stepped phase answer g xs)
  step_grouped answer g [] is h = subst (λ ys. IsGrouped phase g.kept ys g.aside) (sym is) h
  step_grouped answer g (item ∷ left) is h = one_grouped phase item answer g.kept left g.aside h

  steps_grouped : (answers : List Bool) (g : Going) → IsGroupedIn phase g → IsGroupedIn phase (steps phase answers g)
  steps_grouped [] g h = h
  steps_grouped (answer ∷ answers) g h = steps_grouped answers (step phase answer g) (step_grouped answer g g.left refl h)

  skipped_grouped : (xs : List Item) (g : Going) → IsGroupedIn phase g → IsGroupedIn phase (skipped phase xs g)
  skipped_grouped [] g h = h
  skipped_grouped (item ∷ left) g h = by (is_some (asks phase item)) (skipped_grouped left (step phase false g) (step_grouped false g g.left refl h))
    where
      by : (b : Bool) → IsGroupedIn phase (skipped phase left (step phase false g)) → IsGroupedIn phase (cond b g (skipped phase left (step phase false g)))
      by true rest = h
      by false rest = rest

  skip_grouped : (g : Going) → IsGroupedIn phase g → IsGroupedIn phase (skip phase g)
  skip_grouped g h = skipped_grouped g.left g h

  -- answers take the first items away
  steps_left : (answers : List Bool) (g : Going) → length answers ≤ length g.left → (steps phase answers g).left ≡ drop (length answers) g.left
  steps_left [] g few = refl
  steps_left (answer ∷ answers) g few = by g.left refl few (steps_left answers (step phase answer g))
    where
      by : (xs : List Item) → g.left ≡ xs → suc (length answers) ≤ length xs
          → (length answers ≤ length (step phase answer g).left → (steps phase answers (step phase answer g)).left ≡ drop (length answers) (step phase answer g).left)
          → (steps phase answers (step phase answer g)).left ≡ drop (suc (length answers)) xs
      by [] is le rest = absurd (omega (arith, le))
      by (item ∷ left) is le rest =
          let past : (step phase answer g).left ≡ left = ap (λ ys. (stepped phase answer g ys).left) is in
          let long = ap length past in
          rest (omega (arith, le, long)) ∙ ap (drop (length answers)) past

-- the next phase lists no more, and in groups
record IsFew (phase next : Phase) (items aside : List Item) : Type 0 where
  few : to_ask (Some next) items ≤ later phase
  grouped : IsGrouped next [] items aside

-- in the phase behind a sweep at most one such question follows
swept_few : (sweep : Sweep) (items aside : List Item) → groups (swept sweep) items ≤ 1 → IsFew (Regions sweep) (swept sweep) items aside
swept_few sweeps.ShortCleanups items aside one = record { few = omega (arith, one); grouped = tt }
swept_few sweeps.ShortTargets items aside one = record { few = omega (arith, one); grouped = tt }
swept_few sweeps.Objects items aside one = record { few = omega (arith, one); grouped = tt }
swept_few sweeps.LongTargets items aside one = record { few = omega (arith, one); grouped = tt }
swept_few sweeps.ShortHolders items aside one = record { few = omega (arith, one); grouped = tt }
swept_few sweeps.LongHolders items aside one = record { few = omega (arith, one); grouped = tt }
swept_few sweeps.LongCleanups items aside one = record { few = omega (arith, one); grouped = tt }

module _ (from : ℕ) (told : List (ℕ × ℕ)) (s : State) where
  abbrev Turn : Phase → List Item → List Item → PutOff → Option Phase → Type 0
  Turn phase kept aside off None = Unit {0}
  Turn phase kept aside off (Some next) = (items : List Item) → Lists next from told s (given next kept aside off) items → IsFew phase next items (aside_in next kept aside)

  behind_few : (moment : Moment) (kept aside : List Item) (off : PutOff) → IsAsideGrouped moment aside → Turn (Values moment) kept aside off (Some (behind moment))
  behind_few First kept aside off h = λ items is. record { few = let none = runs_none items in omega (arith, none); grouped = tt }
  behind_few Led kept aside off h = λ items is. record { few = let one = runs_same 0 1 items in omega (arith, one); grouped = subst (AreInOrder group) (sym is) h }
  behind_few Picked kept aside off h = λ items is. record { few = let one = runs_same 0 1 items in omega (arith, one); grouped = tt }
  behind_few Last kept aside off h = λ items is. record { few = let none = runs_none items in omega (arith, none); grouped = tt }

  -- a phase that isn't a sweep ends
  turn_few : (phase : Phase) (kept aside : List Item) (off : PutOff) → is_sweep phase ≡ false → IsGrouped phase kept [] aside → Turn phase kept aside off (next_phase phase (looks_again off))
  turn_few (Keys moment) kept aside off plain h = λ items is. record { few = omega arith; grouped = h }
  turn_few (KeysAgain moment) kept aside off plain h = λ items is. record { few = omega arith; grouped = h }
  turn_few (Holders moment) kept aside off plain h = λ items is. record { few = omega arith; grouped = h }
  turn_few (Values moment) kept aside off plain h = by (looks_again off)
    where
      by : (more : Bool) → Turn (Values moment) kept aside off (next_phase (Values moment) more)
      by false = behind_few moment kept aside off h
      by true = λ items is. record { few = omega arith; grouped = h }
  turn_few (Regions sweep) kept aside off plain h = absurd (true≢false plain)
  turn_few ShortCleanups kept aside off plain h = λ items is. record { few = let none = runs_none items in omega (arith, none); grouped = tt }
  turn_few ShortTargets kept aside off plain h = λ items is. record { few = let one = runs_same 0 6 items in omega (arith, one); grouped = tt }
  turn_few ShortWords kept aside off plain h = λ items is. record { few = omega arith; grouped = tt }
  turn_few ShortKeys kept aside off plain h = λ items is. record { few = omega arith; grouped = tt }
  turn_few ShortKeyWords kept aside off plain h = λ items is. record { few = let none = runs_none items in omega (arith, none); grouped = tt }
  turn_few Objects kept aside off plain h = λ items is.
      let ordered = order_from group items is.1 in
      record { few = let two = runs_grouped child_ask children_most children_fit children_first items ordered in omega (arith, two); grouped = ordered }
  turn_few Children kept aside off plain h = λ items is. record { few = omega arith; grouped = subst (AreInOrder group) (append-nil kept) h }
  turn_few Again kept aside off plain h = λ items is.
      let ordered = subst (AreInOrder group) (append-nil kept ∙ sym is) h in
      record { few = let two = runs_grouped pick_ask picks_most picks_fit picks_first items ordered in omega (arith, two); grouped = ordered }
  turn_few Picks kept aside off plain h = λ items is. record { few = let none = runs_none items in omega (arith, none); grouped = tt }
  turn_few Entries kept aside off plain h = λ items is. record { few = omega arith; grouped = tt }
  turn_few LateAgain kept aside off plain h = λ items is. record { few = let one = runs_same 0 5 items in omega (arith, one); grouped = tt }
  turn_few LatePicks kept aside off plain h = λ items is. record { few = omega arith; grouped = tt }
  turn_few LongTargets kept aside off plain h = λ items is. record { few = let one = runs_same 0 6 items in omega (arith, one); grouped = tt }
  turn_few LongWords kept aside off plain h = λ items is. record { few = omega arith; grouped = tt }
  turn_few LongKeys kept aside off plain h = λ items is. record { few = omega arith; grouped = tt }
  turn_few LongKeyWords kept aside off plain h = λ items is. record { few = let none = runs_none items in omega (arith, none); grouped = tt }
  turn_few ShortHolders kept aside off plain h = λ items is. record { few = let none = runs_none items in omega (arith, none); grouped = tt }
  turn_few LongHolders kept aside off plain h = λ items is. record { few = omega arith; grouped = tt }
  turn_few ShortKeyHolders kept aside off plain h = λ items is. record { few = omega arith; grouped = tt }
  turn_few LongKeyHolders kept aside off plain h = λ items is. record { few = let none = runs_none items in omega (arith, none); grouped = tt }
  turn_few LongCleanups kept aside off plain h = tt

-- ---- from phase to phase

module _ (noted : Sweep → Bool) where
  -- in the phase behind a sweep of which all is noted a pass doesn't stop
  abbrev Stops : Option Phase → Type 0
  Stops last = (sweep : Sweep) → last ≡ Some (swept sweep) → noted sweep ≡ false

  -- and nothing is told in a sweep of which not all is
  abbrev IsTold : Phase → Going → Type 0
  IsTold phase g = (sweep : Sweep) → phase ≡ Regions sweep → noted sweep ≡ false → g.told ≡ []

  goes_past : {from : ℕ} (next : Phase) (n : Going) (last : Option Phase) (k : Going) → GoesOn from next n last k → Stops last → (sweep : Sweep) → swept sweep ≡ next → noted sweep ≡ true → (skip next n).left ≡ []
  goes_past next n last k (Asks item left some) stops sweep is on = absurd (true≢false (sym on ∙ stops sweep (ap Some (sym is))))
  goes_past next n last k Sweeps stops sweep is on = absurd (true≢false (sym (ap is_sweep is) ∙ swept_no_sweep sweep))
  goes_past next n last k (Turns none turns begins rest) stops sweep is on = none
  goes_past next n last k (Ends none turns) stops sweep is on = none

  -- what the phase behind a sweep lists
  behind_it : {from : ℕ} (sweep : Sweep) (p n : Going) (last : Option Phase) (k : Going) → Begins from (swept sweep) p n → GoesOn from (swept sweep) n last k → Stops last → (noted sweep ≡ false → p.told ≡ []) → groups (swept sweep) n.left ≤ 1
  behind_it {from = from} sweep p n last k begins rest stops told = by (noted sweep) refl
    where
      by : (b : Bool) → noted sweep ≡ b → groups (swept sweep) n.left ≤ 1
      by true on = let none = none_asked (swept sweep) n.left (all_unasked (swept sweep) n (goes_past (swept sweep) n last k rest stops sweep refl on)) in omega (arith, none)
      by false off = swept_untold from p.finalizers (given (swept sweep) p.kept p.aside p.off) n.left sweep (subst (λ ts. Lists (swept sweep) from ts p.finalizers (given (swept sweep) p.kept p.aside p.off) n.left) (told off) begins.lists)

  record Fewer (phase : Phase) (g : Going) (last : Option Phase) (k : Going) : Type 0 where
    few : to_ask last k.left ≤ to_ask (Some phase) g.left
    grouped : (p : Phase) → last ≡ Some p → IsGroupedIn p k

  -- what a phase begins with
  begins_so : {from : ℕ} (phase next : Phase) (p n : Going) (last : Option Phase) (k : Going) → next_phase phase (looks_again p.off) ≡ Some next → p.left ≡ [] → Begins from next p n → GoesOn from next n last k → Stops last → IsTold phase p → IsGroupedIn phase p
      → (to_ask (Some next) n.left ≤ later phase) × IsGroupedIn next n
  begins_so {from = from} phase next p n last k turns none begins rest stops told h = by (is_sweep phase) refl
    where
      Shown : IsFew phase next n.left (aside_in next p.kept p.aside) → (to_ask (Some next) n.left ≤ later phase) × IsGroupedIn next n
      Shown few = (few.few, subst (λ xs. IsGrouped next xs n.left n.aside) (sym begins.none) (subst (λ ys. IsGrouped next [] n.left ys) (sym begins.aside) few.grouped))

      at_end : IsGrouped phase p.kept [] p.aside
      at_end = subst (λ xs. IsGrouped phase p.kept xs p.aside) none h

      of_sweep : (q : Phase) → phase ≡ q → is_sweep q ≡ true → (to_ask (Some next) n.left ≤ later phase) × IsGroupedIn next n
      of_sweep (Regions sweep) is on =
          let to = same_Some (swept sweep) next (sym (ap (λ (o : Phase). next_phase o (looks_again p.off)) is) ∙ turns) in
          let one = subst (λ (o : Phase). Begins from o p n → GoesOn from o n last k → groups o n.left ≤ 1) to (λ b r. behind_it sweep p n last k b r stops (told sweep is)) begins rest in
          Shown (subst (λ (o : Phase). IsFew phase o n.left (aside_in o p.kept p.aside)) to (subst (λ (o : Phase). IsFew o (swept sweep) n.left (aside_in (swept sweep) p.kept p.aside)) (sym is)
          (swept_few sweep n.left (aside_in (swept sweep) p.kept p.aside) (subst (λ (o : Phase). groups o n.left ≤ 1) (sym to) one))))
      of_sweep q is on = absurd (true≢false (sym on))

      by : (b : Bool) → is_sweep phase ≡ b → (to_ask (Some next) n.left ≤ later phase) × IsGroupedIn next n
      by true on = of_sweep phase refl on
      by false off = Shown (subst (Turn from p.told p.finalizers phase p.kept p.aside p.off) turns (turn_few from p.told p.finalizers phase p.kept p.aside p.off off at_end) n.left begins.lists)

  skipped_told : (phase : Phase) (g : Going) → (skip phase g).told ≡ g.told
  skipped_told phase g = by g.left g
    where
      one : (xs : List Item) (k : Going) → (stepped phase false k xs).told ≡ k.told
      one [] k = refl
      one (item ∷ left) k = refl

      by : (xs : List Item) (k : Going) → (skipped phase xs k).told ≡ k.told
      by [] k = refl
      by (item ∷ left) k = either (is_some (asks phase item)) (by left (step phase false k) ∙ one k.left k)
        where
          either : (b : Bool) → (skipped phase left (step phase false k)).told ≡ k.told → (cond b k (skipped phase left (step phase false k))).told ≡ k.told
          either true rest = refl
          either false rest = rest

  goes_so : {from : ℕ} (phase : Phase) (g : Going) (last : Option Phase) (k : Going) → GoesOn from phase g last k → Stops last → IsTold phase g → IsGroupedIn phase g → Fewer phase g last k
  goes_so phase g last k (Asks item left some) stops told h = record {
    few = let same = in_skipped phase g in omega (arith, same);
    grouped = λ p is. subst (λ (o : Phase). IsGroupedIn o (skip phase g)) (same_Some phase p is) (skip_grouped phase g h);
  }
  goes_so phase g last k Sweeps stops told h = record { few = omega arith; grouped = λ p is. subst (λ (o : Phase). IsGroupedIn o g) (same_Some phase p is) h }
  goes_so phase g last k (Turns {next = next} {h = n} none turns begins rest) stops told h =
      let so = begins_so phase next (skip phase g) n last k turns none begins rest stops (λ sweep is off. skipped_told phase g ∙ told sweep is off) (skip_grouped phase g h) in
      let on = goes_so next n last k rest stops (λ sweep is off. begins.told) so.1 in
      let less = so.0 in
      let fewer = on.few in
      record { few = omega (arith, less, fewer); grouped = on.grouped }
  goes_so phase g last k (Ends none turns) stops told h = record { few = omega arith; grouped = λ p is. absurd (none-some p is) }

-- ---- a run

-- what the last question was about
abbrev IsAbout : Machine → Phase → Type 0
IsAbout m phase = (m.asked ≡ 0) ⊎ ((q : Question) × IsQuestion phase m.walk.left q × (m.asked ≡ q.count))

about_told : (m : Machine) (next : Next) → Tells m next → (p : Phase) → m.phase ≡ Some p → IsAbout m p
about_told m (told.Asks question) (phase, was, inl items) p at = inr (question, subst (λ (o : Phase). IsQuestion o m.walk.left question) (same_Some phase p (sym was ∙ at)) items.question, items.asked)
about_told m (told.Asks question) (phase, was, inr regions) p at = inl regions.asked
about_told m (told.Ended passed) (none, same, picked) p at = absurd (none-some p (sym none ∙ at))

nothing_asked : (sweep : Sweep) (left : List Item) (q : Question) → IsQuestion (Regions sweep) left q → ⊥
nothing_asked sweep [] q is = let some = is.some in let within = is.within in absurd (omega (arith, some, within))
nothing_asked sweep (item ∷ left) q is = by q.count is.some is.alike
  where
    by : (n : ℕ) → 0 < n → All (λ i. asks (Regions sweep) i ≡ Some q.ask) (take n (item ∷ left)) → ⊥
    by zero some alike = absurd (omega (arith, some))
    by (suc n) some alike = none-some q.ask (All-head (λ i. asks (Regions sweep) i ≡ Some q.ask) item (take n left) alike)

sweep_told : (m : Machine) (next : Next) → Tells m next → (sweep : Sweep) → m.phase ≡ Some (Regions sweep) → is_noted sweep m ≡ true
sweep_told m (told.Asks question) (phase, was, inl items) sweep at = absurd (nothing_asked sweep m.walk.left question (subst (λ (o : Phase). IsQuestion o m.walk.left question) (same_Some phase (Regions sweep) (sym was ∙ at)) items.question))
sweep_told m (told.Asks question) (phase, was, inr regions) sweep at = subst (λ (o : Sweep). is_noted o m ≡ true) (same_sweep regions.sweep sweep (sym regions.is ∙ same_Some phase (Regions sweep) (sym was ∙ at))) regions.noted
  where
    sweep_in : Phase → Sweep
    sweep_in (Regions sweep) = sweep
    sweep_in phase = sweeps.Objects

    same_sweep : (a b : Sweep) → Regions a ≡ Regions b → a ≡ b
    same_sweep a b is = ap sweep_in is
sweep_told m (told.Ended passed) (none, same, picked) sweep at = absurd (none-some (Regions sweep) (sym none ∙ at))

-- the answers to a question take one run of items, or 64 of one
batch : (asked left now : ℕ) → asked ≤ 64 → now ≤ left → (asked < 64 → now + 1 ≤ left) → 64 * 1 + 64 * now ≤ asked + 64 * left
batch asked left now few le end = by (cases_lt asked 64)
  where
    by : (asked < 64) ⊎ (64 ≤ asked) → 64 * 1 + 64 * now ≤ asked + 64 * left
    by (inl lt) = let one = end lt in omega (arith, one)
    by (inr ge) = omega (arith, ge, le)

question_le : (phase : Phase) (asked : ℕ) → one_question phase asked ≤ cond (is_of_rows phase) 0 1
question_le phase zero = omega arith
question_le phase (suc asked) = omega arith

module _ (m : Machine) (phase : Phase) (about : IsAbout m phase) where
  -- an answer for each item of the question
  answers_so : (answers : List Bool) → length answers ≡ m.asked
      → 64 * one_question phase m.asked + 64 * in_phase phase (steps phase answers (going_of m)).left ≤ length answers + 64 * in_phase phase m.walk.left
  answers_so answers whole = ⊎_elim none some about
    where
      left : List Item
      left = m.walk.left

      by : (c : ℕ) → length answers ≡ c → c ≤ length left → 64 * one_question phase m.asked + 64 * in_phase phase (drop c left) ≤ length answers + 64 * in_phase phase left
          → 64 * one_question phase m.asked + 64 * in_phase phase (steps phase answers (going_of m)).left ≤ length answers + 64 * in_phase phase left
      by c is enough le =
          let past : (steps phase answers (going_of m)).left ≡ drop c left = steps_left phase answers (going_of m) (omega (arith, is, enough)) ∙ ap (λ n. drop n left) is in
          subst (λ xs. 64 * one_question phase m.asked + 64 * in_phase phase xs ≤ length answers + 64 * in_phase phase left) (sym past) le

      none : m.asked ≡ 0 → 64 * one_question phase m.asked + 64 * in_phase phase (steps phase answers (going_of m)).left ≤ length answers + 64 * in_phase phase left
      none asked = let zero_one : one_question phase m.asked ≡ 0 = ap (one_question phase) asked in by 0 (whole ∙ asked) (omega arith) (omega (arith, zero_one))

      some : (q : Question) × IsQuestion phase left q × (m.asked ≡ q.count) → 64 * one_question phase m.asked + 64 * in_phase phase (steps phase answers (going_of m)).left ≤ length answers + 64 * in_phase phase left
      some (q, is, count) = by q.count (whole ∙ count) is.within (let one = question_le phase m.asked in let all = core (is_of_rows phase) in let same : length answers ≡ q.count = whole ∙ count in omega (arith, one, all, same))
        where
          core : (b : Bool) → 64 * cond b 0 1 + 64 * cond b 0 (groups phase (drop q.count left)) ≤ q.count + 64 * cond b 0 (groups phase left)
          core true = omega arith
          core false = batch q.count (groups phase left) (groups phase (drop q.count left)) is.few (groups_past phase left q is) (groups_end phase left q is)

  heard_so : (heard : Heard) → answers_in heard ≡ m.asked → 64 * one_question phase m.asked + 64 * in_phase phase (heard_by phase m.regions heard (going_of m)).left ≤ answers_in heard + 64 * in_phase phase m.walk.left
  heard_so (Answers answers) whole =
      subst (λ (k : Going). 64 * one_question phase m.asked + 64 * in_phase phase k.left ≤ length answers + 64 * in_phase phase m.walk.left) (sym (heard_answers phase m.regions answers (going_of m))) (answers_so answers whole)
  heard_so (Words words) whole =
      let none : one_question phase m.asked ≡ 0 = ap (one_question phase) (sym whole) in
      subst (λ (k : Going). 64 * one_question phase m.asked + 64 * in_phase phase k.left ≤ 0 + 64 * in_phase phase m.walk.left) (sym (heard_words phase m.regions words (going_of m))) (omega (arith, none))

  heard_grouped : (heard : Heard) → IsGroupedIn phase (going_of m) → IsGroupedIn phase (heard_by phase m.regions heard (going_of m))
  heard_grouped (Answers answers) h = subst (IsGroupedIn phase) (sym (heard_answers phase m.regions answers (going_of m))) (steps_grouped phase answers (going_of m) h)
  heard_grouped (Words words) h = subst (IsGroupedIn phase) (sym (heard_words phase m.regions words (going_of m))) h

module _ (E : Type 0) (place : ℕ → Option ℕ) (value : Map Object → ℕ → Option ℕ) (begun : Machine) (before : Graph) (noted : Sweep → Bool) (all : (sweep : Sweep) → noted sweep ≡ is_noted sweep begun) where
  record IsHere (n a : ℕ) (m : Machine) : Type 0 where
    few : 64 * n + 64 * to_ask m.phase m.walk.left ≤ a + 64 * 16
    grouped : (p : Phase) → m.phase ≡ Some p → IsGroupedIn p (going_of m)
    about : (p : Phase) → m.phase ≡ Some p → IsAbout m p
    told : (sweep : Sweep) → m.phase ≡ Some (Regions sweep) → noted sweep ≡ true
    same : m.noted ≡ begun.noted

  noted_in : (m : Machine) → m.noted ≡ begun.noted → (sweep : Sweep) → noted sweep ≡ is_noted sweep m
  noted_in m same sweep = all sweep ∙ ap (λ (bs : List Bool). is_noted sweep (record m { noted = bs })) (sym same)

  goes_here : (n a : ℕ) (old m : Machine) (heard : Heard) (next : Next) (goes : GoesTo old heard m next) → answers_in heard ≡ old.asked → IsHere n a old → IsHere (n + one_question goes.phase old.asked) (a + answers_in heard) m
  goes_here n a old m heard next goes whole was =
      let phase = goes.phase in
      let k : Going = heard_by phase old.regions heard (going_of old) in
      let about = was.about phase goes.was in
      let same = goes.noted ∙ was.same in
      let stops : Stops noted m.phase = λ sweep at. noted_in m same sweep ∙ stops_at m next goes.tells sweep at in
      let untold : IsTold noted phase k = λ sweep is off. absurd (true≢false (sym (was.told sweep (goes.was ∙ ap Some is)) ∙ off)) in
      let on = goes_so noted phase k m.phase (going_of m) goes.goes stops untold (heard_grouped old phase about heard (was.grouped phase goes.was)) in
      let there = on.few in
      let one = heard_so old phase about heard whole in
      let so_far : 64 * n + 64 * to_ask (Some phase) old.walk.left ≤ a + 64 * 16 = subst (λ o. 64 * n + 64 * to_ask o old.walk.left ≤ a + 64 * 16) goes.was was.few in
      record {
        few = omega (arith, there, one, so_far);
        grouped = on.grouped;
        about = about_told m next goes.tells;
        told = λ sweep at. noted_in m same sweep ∙ sweep_told m next goes.tells sweep at;
        same = same;
      }

  here : (m : Machine) (h : Graph) (run : Runs E place value begun before m h) → AreWhole run → IsHere 0 0 begun → IsHere (questions run) (answered run) m
  here m h Begun whole start = start
  here m h (Goes {m = old} {g = q} {next = next} heard goes run honest) whole start = goes_here (questions run) (answered run) old m heard next goes whole.1 (here old q run whole.0 start)
  here m h (Meanwhile {m = old} worked run) whole start =
      let was = here old h run whole start in
      subst (IsHere (questions run) (answered run)) (sym worked.keeps) (record { few = was.few; grouped = was.grouped; about = was.about; told = was.told; same = was.same })
  here m h (Told {m = old} key tells run) whole start =
      let was = here old h run whole start in
      subst (IsHere (questions run) (answered run)) (sym tells.same) (record { few = was.few; grouped = was.grouped; about = was.about; told = was.told; same = was.same })

pub asks_batches : (E : Type 0) → AsksBatches E
asks_batches E from place value old begun new before after_it is run whole =
    let start : IsHere E place value begun before (λ sweep. is_noted sweep begun) (λ sweep. refl) 0 0 begun = record {
      few = subst (λ o. 64 * 0 + 64 * to_ask o begun.walk.left ≤ 0 + 64 * 16) (sym is.phase) (omega arith);
      grouped = λ p at. subst (λ (o : Phase). IsGroupedIn o (going_of begun)) (same_Some (Keys First) p (sym is.phase ∙ at)) tt;
      about = λ p at. inl is.asked;
      told = λ sweep at. absurd (true≢false (sym (ap is_sweep (same_Some (Keys First) (Regions sweep) (sym is.phase ∙ at)))));
      same = refl;
    } in
    let end = (here E place value begun before (λ sweep. is_noted sweep begun) (λ sweep. refl) new after_it run whole start).few in
    omega (arith, end)
