-- Each answer that is heard leaves fewer to come.
use Rattle.std.proofs.Common.{◌≡◌, ◌≤◌, ◌<◌, ◌+◌, ◌-◌, ◌*◌, ◌&&◌, ◌++◌, ◌∷◌, ◌∙◌, [], ℕ, zero, suc, Bool, true, false, not, cond, refl, filter, get_or, nat_le, ◌⊎◌, ⊎_elim, List, All, length, map, take, Option, Some, None, inl, inr, sym, ap, subst, is_some, length-append, add-mul, mul-add, arith}
use Rattle.std.proofs.lemmas.Bool.{and_parts, true≢false}
use Rattle.std.proofs.lemmas.List.{length-map}
use Rattle.std.proofs.lemmas.List.Elements.{All-head}
use Rattle.std.proofs.lemmas.Option.{none-some, same_Some}
use Rattle.std.proofs.lemmas.List.Sorted.{length_permutation}
use Rattle.std.specs.FinMap.{len, remove}
use Rattle.fz_model.specs.declared.answers.Registration.{Registration}
use Rattle.fz_model.specs.State.{Map}
use Rattle.fz_model.proofs.KeyedEntries.{len_made}
use Rattle.fz_model.proofs.Maps.{retained_back}
use Rattle.fz_table.specs.declared.stored.Stored.{Stored}
use Rattle.fz_table.specs.Tabled.{Set, plain}
use Rattle.fz_model.specs.declared.kinds.LinkKind.{LinkKind}
use Rattle.fz_model.specs.declared.kinds.LinkKind.TheVariants.{Short, Long}
use Rattle.fz_pass.specs.Holds.{Ephemerons}
use Rattle.fz_finalizers.specs.declared.cleanups.Attached.{Attached}
use Rattle.fz_finalizers.specs.Cleanups.{is_when}
use Rattle.fz_finalizers.specs.States.{State}
use Rattle.fz_machine.specs.declared.item.Item.{Item}
use Rattle.fz_machine.specs.declared.pass.Next.{Next}
use Rattle.fz_machine.specs.declared.pass.Next.TheVariants as told
use Rattle.fz_machine.specs.declared.phase.Phase.{Phase}
use Rattle.fz_machine.specs.declared.phase.Moment.{Moment}
use Rattle.fz_machine.specs.declared.phase.Moment.TheVariants.{First, Led, Picked, Last}
use Rattle.fz_machine.specs.declared.phase.Phase.TheVariants.{Keys, KeysAgain, Holders, Values, Regions, ShortCleanups, ShortTargets, ShortWords, ShortKeys, ShortKeyWords, Objects, Children, Again, Picks, Entries, LateAgain, LatePicks, LongTargets, LongWords, LongKeys, LongKeyWords, ShortHolders, LongHolders, ShortKeyHolders, LongKeyHolders, LongCleanups}
use Rattle.fz_machine.specs.declared.phase.Sweep.{Sweep}
use Rattle.fz_machine.specs.declared.phase.Sweep.TheVariants as sweeps
use Rattle.fz_machine.specs.declared.question.Ask.{Ask}
use Rattle.fz_machine.specs.declared.question.Question.{Question}
use Rattle.fz_machine.specs.Heard.{Begun, Goes, Hears, Learns, Meanwhile, PassesEnd, Told}
use Rattle.fz_machine.specs.Items.{AreCleanups, AreEntriesOf, AreEphemerons, AreLinks, AreObjects, is_still, of_cleanup, of_link, of_stored, target_of, word_of}
use Rattle.fz_machine.specs.Machines.{Answers, GoesTo, IsBegunFrom, IsTold, IsWorked, Machine, Tells, TellsIn, Words, going_of, heard_by}
use Rattle.fz_machine.specs.Off.{PutOff, TellsOff, all_off, looked_at, looking, looks_again, none_off, put_off, stuck_with}
use Rattle.fz_machine.specs.Phases.{Lists, after, aside_in, asks, behind, given, keeps, next_phase, off_in, swept}
use Rattle.fz_machine.specs.Regions.{is_marked, is_unmarked}
use Rattle.fz_machine.specs.Steps.{Asks, Begins, Ends, Going, GoesOn, IsQuestion, Sweeps, Turns, skip, skipped, step, stepped, steps}
use Rattle.fz_machine.proofs.Phasing.{kept_on}
use Rattle.fz_machine.proofs.Due.{HasOf, both_kinds, fewer_of}
use Rattle.fz_machine.proofs.Delayed.{all_with, tells_moves}
use Rattle.fz_machine.proofs.Turned.{is_sweep, swept_no_sweep}
use Rattle.fz_machine.proofs.Throughout.{goes_keep, heard_answers, heard_words, skip_keeps, steps_keep}
use Rattle.fz_machine.proofs.Within.{IsWithin, still}
use Rattle.fz_machine.proofs.Working.{work_apart}

abbrev at : State → List Item → List Item → List Item → PutOff → List (ℕ × ℕ) → Going
at s kept left aside off told = record { finalizers = s; kept = kept; left = left; aside = aside; off = off; told = told }

-- ---- rounds over ephemerons

-- how often an ephemeron that is put off at a moment may be asked about later, beside what `most` has for those that are let through
abbrev weight : Moment → ℕ
weight First = 9
weight Led = 5
weight Picked = 3
weight Last = 1

-- how many questions may follow those about the keys and the holders of a round after which so many ephemerons are put off: each takes its weight; and one that
-- is let through takes three, and then the others are told, and are asked about twice in a round of their own, and twice in a round about all
abbrev most : ℕ → ℕ → ℕ
most w zero = 0
most w (suc n) = w + 4 * n + 3 + most w n

most_more : (w n k : ℕ) → most w n ≤ most w (k + n)
most_more w n zero = let is : 0 + n ≡ n = omega arith in let same = ap (most w) is in omega (arith, same)
most_more w n (suc k) =
    let few = most_more w n k in
    let is : suc k + n ≡ suc (k + n) = omega arith in
    let same : most w (suc k + n) ≡ w + 4 * (k + n) + 3 + most w (k + n) = ap (most w) is in
    omega (arith, few, same)

most_le : (w n m : ℕ) → n ≤ m → most w n ≤ most w m
most_le w n m le = let more = most_more w n (m - n) in let same : m - n + n ≡ m = omega (arith, le) in subst (λ k. most w n ≤ most w k) same more

-- two more questions about each
two_more : (v w n : ℕ) → v ≡ 2 + w → most v n ≡ 2 * n + most w n
two_more v w zero is = refl
two_more v w (suc n) is = let before = two_more v w n is in omega (arith, before, is)

-- what the phases behind the last moment take
last_few : (n : ℕ) → 4 * n ≤ most 1 n
last_few zero = omega arith
last_few (suc n) = omega arith

-- as a product
square : (n : ℕ) → most 0 n ≡ n * (2 * n + 1)
square zero = refl
square (suc n) =
    let before = square n in
    let next : suc n ≡ n + 1 = omega arith in
    let more : 2 * suc n + 1 ≡ 2 * n + 1 + 2 = omega arith in
    let one : suc n * (2 * suc n + 1) ≡ n * (2 * suc n + 1) + 1 * (2 * suc n + 1) = ap (λ k. k * (2 * suc n + 1)) next ∙ add-mul n 1 (2 * suc n + 1) in
    let two : n * (2 * suc n + 1) ≡ n * (2 * n + 1) + n * 2 = ap (λ k. n * k) more ∙ mul-add n (2 * n + 1) 2 in
    omega (arith, before, one, two)

eleven : (n : ℕ) → most 11 n ≡ 11 * n + most 0 n
eleven zero = refl
eleven (suc n) = let before = eleven n in omega (arith, before)

pub most_is : (n : ℕ) → most 11 n ≡ 11 * n + n * (2 * n + 1)
most_is n = let all = eleven n in let product = square n in omega (arith, all, product)

-- what may follow once a value was asked about: those that wait are told, and then all are looked at
abbrev most_told : ℕ → ℕ → ℕ
most_told w n = 4 * n + most w n

told_more : (w n k : ℕ) → k + most_told w n ≤ most_told w (k + n)
told_more w n zero = let is : 0 + n ≡ n = omega arith in let same = ap (most w) is in omega (arith, same)
told_more w n (suc k) =
    let few = told_more w n k in
    let is : suc k + n ≡ suc (k + n) = omega arith in
    let same : most w (suc k + n) ≡ w + 4 * (k + n) + 3 + most w (k + n) = ap (most w) is in
    omega (arith, few, same)

-- what may follow the questions about keys and holders in a round, by how many were told, whether a value may have been marked, and how many wait
abbrev to_follow : ℕ → ℕ → Bool → ℕ → ℕ
to_follow w zero false n = most w n
to_follow w zero true n = 2 * n + most w n
to_follow w (suc told) again n = most_told w n

few_follow : (w : ℕ) (again : Bool) (n : ℕ) → to_follow w 0 again n ≤ 2 * n + most w n
few_follow w false n = omega arith
few_follow w true n = omega arith

-- what may follow while values are asked about, by how many are left, and put off, and told
abbrev values_to_come : ℕ → ℕ → ℕ → ℕ → Bool → ℕ
values_to_come w (suc left) rows told again = suc left + most_told w rows
values_to_come w zero rows (suc told) again = most_told w rows
values_to_come w zero rows zero true = 2 * rows + most w rows
values_to_come w zero rows zero false = most w rows

values_less : (w left rows told : ℕ) (again : Bool) → values_to_come w left rows told again + 1 ≤ suc left + most_told w rows
values_less w (suc left) rows told again = omega arith
values_less w zero rows (suc told) again = omega arith
values_less w zero rows zero true = omega arith
values_less w zero rows zero false = omega arith

-- at the end of the rounds
values_end : (w rows told : ℕ) (again : Bool) → most w rows ≤ values_to_come w 0 rows told again
values_end w rows (suc told) again = omega arith
values_end w rows zero true = omega arith
values_end w rows zero false = omega arith

values_begin : (w left rows told : ℕ) (again : Bool) (n : ℕ) → n ≡ left + rows → values_to_come w left rows told again ≤ to_follow w told again n
values_begin w zero rows (suc told) again n is = let all : n ≡ rows = omega (arith, is) in let same = ap (most w) all in omega (arith, all, same)
values_begin w zero rows zero true n is = let all : n ≡ rows = omega (arith, is) in let same = ap (most w) all in omega (arith, all, same)
values_begin w zero rows zero false n is = let all : n ≡ rows = omega (arith, is) in let same = ap (most w) all in omega (arith, all, same)
values_begin w (suc left) rows (suc told) again n is = let more = told_more w rows (suc left) in let same = ap (most w) is in omega (arith, more, same, is)
values_begin w (suc left) rows zero again zero is = absurd (omega (arith, is))
values_begin w (suc left) rows zero true (suc n) is =
    let more = told_more w rows left in
    let less : n ≡ left + rows = omega (arith, is) in
    let same = ap (most w) less in
    omega (arith, more, less, same)
values_begin w (suc left) rows zero false (suc n) is =
    let more = told_more w rows left in
    let less : n ≡ left + rows = omega (arith, is) in
    let same = ap (most w) less in
    omega (arith, more, less, same)

-- how many are put off, how many of them were told, and whether a value may have been marked
record Size : Type 0 where
  rows : ℕ
  told : ℕ
  again : Bool

abbrev size_of : PutOff → Size
size_of off = record { rows = length (all_off off); told = length off.told; again = off.again }

-- what may follow while keys and holders are asked about, by how many are kept, left, and put off
abbrev keys_to_come : ℕ → ℕ → ℕ → Size → ℕ
keys_to_come w kept left off = 2 * left + kept + to_follow w off.told off.again (kept + left + off.rows)

abbrev holders_to_come : ℕ → ℕ → ℕ → Size → ℕ
holders_to_come w kept left off = left + to_follow w off.told off.again (kept + left + off.rows)

-- one more if it is so
abbrev one_if : Bool → ℕ → ℕ
one_if b n = cond b (n + 1) n

-- one more is put off
rows_with : (off : PutOff) (item : Item) → length (all_off (stuck_with off item)) ≡ length (all_off off) + 1
rows_with off item = ap length (all_with off item) ∙ length-append (all_off off) (item ∷ [])

module _ (w kept left : ℕ) (off : PutOff) (item : Item) where
  abbrev follow : ℕ → ℕ
  follow = to_follow w (length off.told) off.again

  still_follow : follow (kept + 1 + left + length (all_off off)) ≡ follow (kept + suc left + length (all_off off))
  still_follow = let same : kept + 1 + left + length (all_off off) ≡ kept + suc left + length (all_off off) = omega arith in ap follow same

  stuck_follow : follow (kept + left + length (all_off (stuck_with off item))) ≡ follow (kept + suc left + length (all_off off))
  stuck_follow =
      let more = rows_with off item in
      let same : kept + left + length (all_off (stuck_with off item)) ≡ kept + suc left + length (all_off off) = omega (arith, more) in
      ap follow same

  keys_fewer : (answer : Bool) → keys_to_come w (one_if answer kept) left (size_of (cond answer off (stuck_with off item))) + 1 ≤ keys_to_come w kept (suc left) (size_of off)
  keys_fewer true = let same = still_follow in omega (arith, same)
  keys_fewer false = let same = stuck_follow in omega (arith, same)

  holders_fewer : (answer : Bool) → holders_to_come w (one_if answer kept) left (size_of (cond answer off (stuck_with off item))) + 1 ≤ holders_to_come w kept (suc left) (size_of off)
  holders_fewer true = let same = still_follow in omega (arith, same)
  holders_fewer false = let same = stuck_follow in omega (arith, same)

abbrev values_of : ℕ → ℕ → Size → ℕ
values_of w left off = values_to_come w left off.rows off.told off.again

values_fewer : (w : ℕ) (answer : Bool) (left : ℕ) (off : PutOff) → values_of w left (size_of (cond answer (record off { again = true }) off)) + 1 ≤ values_of w (suc left) (size_of off)
values_fewer w true left off = values_less w left (length (all_off off)) (length off.told) true
values_fewer w false left off = values_less w left (length (all_off off)) (length off.told) off.again

-- another round begins
again_fewer : (w : ℕ) (items : List Item) (off : PutOff) → looks_again off ≡ true → items ≡ looked_at off → keys_to_come w 0 (length items) (size_of (looking off)) ≤ values_of w 0 (size_of off)
again_fewer w items off on is = subst (λ xs. keys_to_come w 0 (length xs) (size_of (looking off)) ≤ values_of w 0 (size_of off)) (sym is) (by off.told on)
  where
    with_told : List Item → PutOff
    with_told told = record off { told = told }

    rest : List Item
    rest = off.index ++ off.stuck

    by : (told : List Item) → looks_again (with_told told) ≡ true → keys_to_come w 0 (length (looked_at (with_told told))) (size_of (looking (with_told told))) ≤ values_of w 0 (size_of (with_told told))
    by [] again =
        let long = length-append off.stuck off.index in
        let rows = length-append off.index off.stuck in
        let same : 0 + length (off.stuck ++ off.index) + 0 ≡ length rest = omega (arith, long, rows) in
        let follow = ap (most w) same in
        subst (λ b. keys_to_come w 0 (length (off.stuck ++ off.index)) (size_of none_off) ≤ values_to_come w 0 (length rest) 0 b) (sym again) (omega (arith, same, follow))
    by (item ∷ told) some =
        let rows = length-append (item ∷ told) rest in
        let same : 0 + length (item ∷ told) + length rest ≡ length ((item ∷ told) ++ rest) = omega (arith, rows) in
        let follow = ap (to_follow w 0 off.again) same in
        let few = few_follow w off.again (length ((item ∷ told) ++ rest)) in
        omega (arith, rows, follow, few)

abbrev is_values : Option Phase → Bool
is_values (Some (Values moment)) = true
is_values phase = false

not_values : (moment : Moment) → Some (Keys First) ≡ Some (Values moment) → ⊥
not_values moment is = true≢false (sym (ap is_values is))

fewer_young : {X : Type 0} (p : X → Bool) (xs : List X) → length (filter p xs) ≤ length xs
fewer_young p [] = omega arith
fewer_young p (x ∷ xs) = by (p x) (fewer_young p xs)
  where
    by : (b : Bool) → length (filter p xs) ≤ length xs → length (cond b (x ∷ filter p xs) (filter p xs)) ≤ suc (length xs)
    by true le = omega (arith, le)
    by false le = omega (arith, le)

-- whether a phase asks: one only queues
abbrev pub cost_each : Phase → ℕ
cost_each Entries = 0
cost_each phase = 1

-- where there are answers, it does
abbrev pub CostsIfAny : List Bool → Phase → Type 0
CostsIfAny answers phase = 0 < length answers → cost_each phase ≡ 1

costs_item : (phase : Phase) (item : Item) (ask : Ask) → asks phase item ≡ Some ask → cost_each phase ≡ 1
costs_item Entries item ask is = absurd (none-some ask is)
costs_item phase item ask is = refl

costs_question : (phase : Phase) (left : List Item) (q : Question) → IsQuestion phase left q → cost_each phase ≡ 1
costs_question phase [] q is = let some = is.some in let within = is.within in absurd (omega (arith, some, within))
costs_question phase (item ∷ left) q is = by q.count is.some is.alike
  where
    by : (n : ℕ) → 0 < n → All (λ i. asks phase i ≡ Some q.ask) (take n (item ∷ left)) → cost_each phase ≡ 1
    by zero some alike = absurd (omega (arith, some))
    by (suc n) some alike = costs_item phase item q.ask (All-head (λ i. asks phase i ≡ Some q.ask) item (take n left) alike)

pub costs_told : (m : Machine) (next : Next) → Tells m next → (p : Phase) → m.phase ≡ Some p → cost_each p ≡ 1
costs_told m (told.Asks question) (phase, was, inl items) p at = ap cost_each (sym (same_Some phase p (sym was ∙ at))) ∙ costs_question phase m.walk.left question items.question
costs_told m (told.Asks question) (phase, was, inr regions) p at = ap cost_each (sym (same_Some phase p (sym was ∙ at)) ∙ regions.is)
costs_told m (told.Ended passed) (none, same, picked) p at = absurd (none-some p (sym none ∙ at))

some_left : (xs ys : List Item) (x : Item) → xs ≡ x ∷ ys → 0 < length xs
some_left xs ys x is = let long = ap length is in omega (arith, long)

-- where a pass stops while values are marked, one is left
stops : {from : ℕ} (phase : Phase) (g : Going) (last : Option Phase) (k : Going) → GoesOn from phase g last k → (moment : Moment) → last ≡ Some (Values moment) → 0 < length k.left
stops phase g last k (Asks item left some) moment is = some_left (skip phase g).left left item some
stops phase g last k Sweeps moment is = absurd (true≢false (sym (ap is_values is)))
stops phase g last k (Turns {next = next} {h = m} none turns begins rest) moment is = stops next m last k rest moment is
stops phase g last k (Ends none turns) moment is = absurd (none-some (Values moment) is)

-- how often the phase behind a sweep, and those that process what it keeps, process so many items
abbrev pub cost : Sweep → ℕ → ℕ
cost sweeps.ShortCleanups n = n
cost sweeps.ShortTargets n = 2 * n
cost sweeps.Objects n = 6 * n
cost sweeps.LongTargets n = 2 * n
cost sweeps.ShortHolders n = n
cost sweeps.LongHolders n = n
cost sweeps.LongCleanups n = n

-- how often those behind it process what it keeps
abbrev pub cost_kept : Sweep → ℕ → ℕ
cost_kept sweeps.ShortTargets n = n
cost_kept sweeps.Objects n = 5 * n
cost_kept sweeps.LongTargets n = n
cost_kept sweep n = 0

-- the phase behind a sweep puts nothing off
off_stays : (sweep : Sweep) (item : Item) (off : PutOff) → put_off (swept sweep) item false off ≡ off
off_stays sweeps.ShortCleanups item off = refl
off_stays sweeps.ShortTargets item off = refl
off_stays sweeps.Objects item off = refl
off_stays sweeps.LongTargets item off = refl
off_stays sweeps.ShortHolders item off = refl
off_stays sweeps.LongHolders item off = refl
off_stays sweeps.LongCleanups item off = refl

stepped_off : (sweep : Sweep) (g : Going) (xs : List Item) → (stepped (swept sweep) false g xs).off ≡ g.off
stepped_off sweep g [] = refl
stepped_off sweep g (item ∷ left) = off_stays sweep item g.off

skipped_off : (sweep : Sweep) (xs : List Item) (g : Going) → (skipped (swept sweep) xs g).off ≡ g.off
skipped_off sweep [] g = refl
skipped_off sweep (item ∷ left) g = by (is_some (asks (swept sweep) item)) (skipped_off sweep left (step (swept sweep) false g) ∙ stepped_off sweep g g.left)
  where
    by : (b : Bool) → (skipped (swept sweep) left (step (swept sweep) false g)).off ≡ g.off → (cond b g (skipped (swept sweep) left (step (swept sweep) false g))).off ≡ g.off
    by true rest = refl
    by false rest = rest

off_swept : (sweep : Sweep) (off : PutOff) → off_in (swept sweep) off ≡ off
off_swept sweeps.ShortCleanups off = refl
off_swept sweeps.ShortTargets off = refl
off_swept sweeps.Objects off = refl
off_swept sweeps.LongTargets off = refl
off_swept sweeps.ShortHolders off = refl
off_swept sweeps.LongHolders off = refl
off_swept sweeps.LongCleanups off = refl

-- ---- what phases list

entries : {X : Type 0} (m : Map X) (es : List (ℕ × X)) → AreEntriesOf m es → length es ≡ len m
entries m es are = sym (len_made es are.1) ∙ ap len are.0

links_few : (number : ℕ × ℕ → ℕ) (told : List (ℕ × ℕ)) (links : Map ℕ) (items : List Item) → AreLinks number told links items → length items ≤ len links
links_few number told links items are =
    let some = filter (λ (e : ℕ × ℕ). not (is_marked told (number e))) are.0 in
    let few = fewer_young (λ (e : ℕ × ℕ). not (is_marked told (number e))) are.0 in
    let long = ap length are.2 ∙ length-map some (λ (e : ℕ × ℕ). of_link (is_unmarked told (number e)) e) in
    let all = entries links are.0 are.1 in
    omega (arith, few, long, all)

rows_few : (k : Ephemerons) (items : List Item) → AreEphemerons k items → length items ≤ len k.short + len k.long
rows_few k items (shorts, longs, short, long, is) =
    let all = ap length is ∙ length-append shorts longs in
    let few_short = links_few target_of [] k.short shorts short in
    let few_long = links_few target_of [] k.long longs long in
    omega (arith, all, few_short, few_long)

objects_few : (from : ℕ) (told : List (ℕ × ℕ)) (registrations : Map Registration) (late : Set) (items : List Item) → AreObjects from told registrations late items → length items ≤ len registrations
objects_few from told registrations late items are =
    let few = fewer_young (λ (e : ℕ × Stored). nat_le from e.1.number && not (is_marked told e.0)) are.0 in
    let long = ap length are.3 ∙ length-map (filter (λ (e : ℕ × Stored). nat_le from e.1.number && not (is_marked told e.0)) are.0) (λ (e : ℕ × Stored). of_stored (is_unmarked told e.0) e) in
    let all = sym (length-map are.0 plain) ∙ entries registrations (map plain are.0) are.1 in
    omega (arith, few, long, all)

cleanups_few : (from : ℕ) (told : List (ℕ × ℕ)) (when : LinkKind) (n : ℕ) (cleanups : Map Attached) (items : List Item) → HasOf when n cleanups → AreCleanups from told when cleanups items → length items ≤ n
cleanups_few from told when n cleanups items has are =
    let same = ap length are.2 ∙ length-map are.0 (λ (e : ℕ × Attached). of_cleanup (is_unmarked told e.1.object) e) in
    let few = has are.0 (record {
      each = λ k d within.
          let one = are.1.each k d within in
          ((retained_back cleanups (nat_le from) (get_or are.0 k d).0 (get_or are.0 k d).1 one.0).1, (and_parts (is_when when (get_or are.0 k d).1.cleanup.when) (not (is_marked told (get_or are.0 k d).1.object)) one.1).0);
      ordered = are.1.ordered;
    }) in
    omega (arith, same, few)

none_before : (a b : ℕ) → a ≤ b → 0 + a ≤ b
none_before a b le = omega (arith, le)

-- ---- what is to come

-- what comes behind each sweep, beside the ephemerons, and how many of these there are
module _ (budget : Sweep → ℕ) (es el : ℕ) where
  abbrev e : ℕ
  e = es + el

  abbrev later : ℕ
  later = budget sweeps.LongTargets + budget sweeps.ShortHolders + budget sweeps.LongHolders + budget sweeps.LongCleanups

  -- what comes when the marks are to become whole at a later moment, by how many ephemerons are put off
  abbrev when_led : ℕ → ℕ
  when_led n = 2 * n + most 5 n

  abbrev when_picked : ℕ → ℕ
  when_picked n = 2 * n + most 3 n

  abbrev when_last : ℕ → ℕ
  when_last n = 2 * n + most 1 n

  -- what comes behind the marks that are made whole, beside the ephemerons, by how many items are set aside
  abbrev behind_them : Moment → ℕ → ℕ
  behind_them First aside = budget sweeps.ShortCleanups + (budget sweeps.ShortTargets + budget sweeps.Objects + later)
  behind_them Led aside = 4 * aside + later
  behind_them Picked aside = 2 * aside + later
  behind_them Last aside = later

  -- what comes in the phase behind a sweep and later, by how many ephemerons are put off
  abbrev behind_sweep : Sweep → ℕ → ℕ
  behind_sweep sweeps.ShortCleanups n = budget sweeps.ShortCleanups + (budget sweeps.ShortTargets + 2 * n + budget sweeps.Objects + when_led n + later)
  behind_sweep sweeps.ShortTargets n = budget sweeps.ShortTargets + 2 * n + budget sweeps.Objects + when_led n + later
  behind_sweep sweeps.Objects n = budget sweeps.Objects + when_led n + later
  behind_sweep sweeps.LongTargets n = 4 * n + later
  behind_sweep sweeps.ShortHolders n = budget sweeps.LongHolders + budget sweeps.ShortHolders + 2 * n + budget sweeps.LongCleanups
  behind_sweep sweeps.LongHolders n = budget sweeps.LongHolders + 2 * n + budget sweeps.LongCleanups
  behind_sweep sweeps.LongCleanups n = budget sweeps.LongCleanups

  -- how often a phase and those behind it may go over an item, by how many are kept, left, set aside, and put off
  abbrev to_come : Option Phase → ℕ → ℕ → ℕ → Size → ℕ
  to_come None kept left aside off = 0
  to_come (Some (Keys moment)) kept left aside off = keys_to_come (weight moment) kept left off + behind_them moment aside
  to_come (Some (KeysAgain moment)) kept left aside off = keys_to_come (weight moment) kept left off + behind_them moment aside
  to_come (Some (Holders moment)) kept left aside off = holders_to_come (weight moment) kept left off + behind_them moment aside
  to_come (Some (Values moment)) kept left aside off = values_of (weight moment) left off + behind_them moment aside
  to_come (Some (Regions sweep)) kept left aside off = left + behind_sweep sweep off.rows
  to_come (Some ShortCleanups) kept left aside off = left + (budget sweeps.ShortTargets + 2 * off.rows + budget sweeps.Objects + when_led off.rows + later)
  to_come (Some ShortTargets) kept left aside off = 2 * left + kept + (2 * off.rows + budget sweeps.Objects + when_led off.rows + later)
  to_come (Some ShortWords) kept left aside off = left + (2 * off.rows + budget sweeps.Objects + when_led off.rows + later)
  to_come (Some ShortKeys) kept left aside off = 2 * left + kept + (budget sweeps.Objects + when_led off.rows + later)
  to_come (Some ShortKeyWords) kept left aside off = left + (budget sweeps.Objects + when_led off.rows + later)
  to_come (Some Objects) kept left aside off = 6 * left + 5 * kept + (when_led off.rows + later)
  to_come (Some Children) kept left aside off = 5 * left + 4 * kept + (when_led off.rows + later)
  to_come (Some Again) kept left aside off = 4 * left + 3 * kept + (when_picked off.rows + later)
  to_come (Some Picks) kept left aside off = 3 * left + 2 * kept + (when_picked off.rows + later)
  to_come (Some Entries) kept left aside off = 2 * left + 2 * kept + (when_picked off.rows + later)
  to_come (Some LateAgain) kept left aside off = 2 * left + kept + (when_last off.rows + later)
  to_come (Some LatePicks) kept left aside off = left + (when_last off.rows + later)
  to_come (Some LongTargets) kept left aside off = 2 * left + kept + (budget sweeps.LongHolders + budget sweeps.ShortHolders + 4 * off.rows + budget sweeps.LongCleanups)
  to_come (Some LongWords) kept left aside off = left + (budget sweeps.LongHolders + budget sweeps.ShortHolders + 4 * off.rows + budget sweeps.LongCleanups)
  to_come (Some LongKeys) kept left aside off = 2 * left + kept + (budget sweeps.LongHolders + budget sweeps.ShortHolders + 2 * off.rows + budget sweeps.LongCleanups)
  to_come (Some LongKeyWords) kept left aside off = left + (budget sweeps.LongHolders + budget sweeps.ShortHolders + 2 * off.rows + budget sweeps.LongCleanups)
  to_come (Some ShortHolders) kept left aside off = left + (budget sweeps.LongHolders + 2 * off.rows + budget sweeps.LongCleanups)
  to_come (Some LongHolders) kept left aside off = left + (2 * off.rows + budget sweeps.LongCleanups)
  to_come (Some ShortKeyHolders) kept left aside off = left + (off.rows + budget sweeps.LongCleanups)
  to_come (Some LongKeyHolders) kept left aside off = left + budget sweeps.LongCleanups
  to_come (Some LongCleanups) kept left aside off = left

  abbrev pub to_come_in : Option Phase → Going → ℕ
  to_come_in phase k = to_come phase (length k.kept) (length k.left) (length k.aside) (size_of k.off)

  one_more : (b : Bool) (n : ℕ) → one_if b n ≤ n + 1
  one_more true n = omega arith
  one_more false n = omega arith

  fewer : (phase : Phase) (item : Item) (answer : Bool) (kept left aside : ℕ) (off : PutOff)
      → to_come (Some phase) (one_if (keeps phase item answer) kept) left aside (size_of (put_off phase item answer off)) + cost_each phase ≤ to_come (Some phase) kept (suc left) aside (size_of off)
  fewer (Keys moment) item answer kept left aside off = let few = keys_fewer (weight moment) kept left off item answer in omega (arith, few)
  fewer (KeysAgain moment) item answer kept left aside off = let few = keys_fewer (weight moment) kept left off item answer in omega (arith, few)
  fewer (Holders moment) item answer kept left aside off = let few = holders_fewer (weight moment) kept left off item answer in omega (arith, few)
  fewer (Values moment) item answer kept left aside off = let few = values_fewer (weight moment) answer left off in omega (arith, few)
  fewer (Regions sweep) item answer kept left aside off = omega arith
  fewer ShortCleanups item answer kept left aside off = let le = one_more (keeps ShortCleanups item answer) kept in omega (arith, le)
  fewer ShortTargets item answer kept left aside off = let le = one_more (keeps ShortTargets item answer) kept in omega (arith, le)
  fewer ShortWords item answer kept left aside off = let le = one_more (keeps ShortWords item answer) kept in omega (arith, le)
  fewer ShortKeys item answer kept left aside off = let le = one_more (keeps ShortKeys item answer) kept in omega (arith, le)
  fewer ShortKeyWords item answer kept left aside off = let le = one_more (keeps ShortKeyWords item answer) kept in omega (arith, le)
  fewer Objects item answer kept left aside off = let le = one_more (keeps Objects item answer) kept in omega (arith, le)
  fewer Children item answer kept left aside off = let le = one_more (keeps Children item answer) kept in omega (arith, le)
  fewer Again item answer kept left aside off = let le = one_more (keeps Again item answer) kept in omega (arith, le)
  fewer Picks item answer kept left aside off = let le = one_more (keeps Picks item answer) kept in omega (arith, le)
  fewer Entries item answer kept left aside off = let le = one_more (keeps Entries item answer) kept in omega (arith, le)
  fewer LateAgain item answer kept left aside off = let le = one_more (keeps LateAgain item answer) kept in omega (arith, le)
  fewer LatePicks item answer kept left aside off = let le = one_more (keeps LatePicks item answer) kept in omega (arith, le)
  fewer LongTargets item answer kept left aside off = let le = one_more (keeps LongTargets item answer) kept in omega (arith, le)
  fewer LongWords item answer kept left aside off = let le = one_more (keeps LongWords item answer) kept in omega (arith, le)
  fewer LongKeys item answer kept left aside off = let le = one_more (keeps LongKeys item answer) kept in omega (arith, le)
  fewer LongKeyWords item answer kept left aside off = let le = one_more (keeps LongKeyWords item answer) kept in omega (arith, le)
  fewer ShortHolders item answer kept left aside off = let le = one_more (keeps ShortHolders item answer) kept in omega (arith, le)
  fewer LongHolders item answer kept left aside off = let le = one_more (keeps LongHolders item answer) kept in omega (arith, le)
  fewer ShortKeyHolders item answer kept left aside off = let le = one_more (keeps ShortKeyHolders item answer) kept in omega (arith, le)
  fewer LongKeyHolders item answer kept left aside off = let le = one_more (keeps LongKeyHolders item answer) kept in omega (arith, le)
  fewer LongCleanups item answer kept left aside off = let le = one_more (keeps LongCleanups item answer) kept in omega (arith, le)

  long_on : (b : Bool) (kept : List Item) (item : Item) → length (kept_on b kept item) ≡ one_if b (length kept)
  long_on true kept item = length-append kept (item ∷ [])
  long_on false kept item = refl

  -- ---- answers

  abbrev past_one : Phase → Item → Bool → State → List Item → List Item → List Item → PutOff → List (ℕ × ℕ) → Going
  past_one phase item answer t kept left aside off told = at (after phase item answer t) (kept_on (keeps phase item answer) kept item) left aside (put_off phase item answer off) told

  module _ (phase : Phase) where
    past_fewer : (item : Item) (answer : Bool) (t : State) (kept left aside : List Item) (off : PutOff) (told : List (ℕ × ℕ))
        → to_come_in (Some phase) (past_one phase item answer t kept left aside off told) + cost_each phase ≤ to_come (Some phase) (length kept) (suc (length left)) (length aside) (size_of off)
    past_fewer item answer t kept left aside off told =
        subst (λ k. to_come (Some phase) k (length left) (length aside) (size_of (put_off phase item answer off)) + cost_each phase ≤ to_come (Some phase) (length kept) (suc (length left)) (length aside) (size_of off)) (sym (long_on (keeps phase item answer) kept item))
        (fewer phase item answer (length kept) (length left) (length aside) off)

    pub steps_fewer : (answers : List Bool) (t : State) (kept left aside : List Item) (off : PutOff) (told : List (ℕ × ℕ)) → length answers ≤ length left → CostsIfAny answers phase
        → length answers + to_come_in (Some phase) (steps phase answers (at t kept left aside off told)) ≤ to_come (Some phase) (length kept) (length left) (length aside) (size_of off)
    steps_fewer [] t kept left aside off told few costs = omega arith
    steps_fewer (answer ∷ answers) t kept [] aside off told few costs = absurd (omega (arith, few))
    steps_fewer (answer ∷ answers) t kept (item ∷ left) aside off told few costs =
        let k = past_one phase item answer t kept left aside off told in
        let each = costs (omega arith) in
        let rest = steps_fewer answers k.finalizers k.kept left aside k.off told (omega (arith, few)) (λ some. each) in
        let one = past_fewer item answer t kept left aside off told in
        omega (arith, rest, one, each)

    abbrev IsPast : Going → ℕ → Type 0
    IsPast k n = to_come_in (Some phase) k ≤ n

    skips_fewer : (left : List Item) (t : State) (kept aside : List Item) (off : PutOff) (told : List (ℕ × ℕ))
        → IsPast (skipped phase left (at t kept left aside off told)) (to_come (Some phase) (length kept) (length left) (length aside) (size_of off))
    skips_fewer [] t kept aside off told = omega arith
    skips_fewer (item ∷ left) t kept aside off told = by (is_some (asks phase item)) (skips_fewer left k.finalizers k.kept aside k.off told)
      where
        k : Going
        k = past_one phase item false t kept left aside off told

        by : (b : Bool) → IsPast (skipped phase left (past_one phase item false t kept left aside off told)) (to_come_in (Some phase) (past_one phase item false t kept left aside off told))
            → IsPast (cond b (at t kept (item ∷ left) aside off told) (skipped phase left (past_one phase item false t kept left aside off told))) (to_come (Some phase) (length kept) (suc (length left)) (length aside) (size_of off))
        by true rest = omega arith
        by false rest = let one = past_fewer item false t kept left aside off told in omega (arith, rest, one)

    skip_fewer : (k : Going) → IsPast (skip phase k) (to_come_in (Some phase) k)
    skip_fewer k = skips_fewer k.left k.finalizers k.kept k.aside k.off k.told

  -- ---- the next phase

  -- what the phase behind a sweep lists is no more than what comes behind the sweep
  abbrev pub IsEnough : Phase → ℕ → Type 0
  IsEnough (Regions sweep) n = cost sweep n ≤ budget sweep
  IsEnough phase n = Unit {0}

  module _ (from : ℕ) (told : List (ℕ × ℕ)) (t : State) where
    -- the next phase begins with no more to come
    abbrev IsFewer : Phase → List Item → List Item → PutOff → Option Phase → Type 0
    IsFewer phase kept aside off None = Unit {0}
    IsFewer phase kept aside off (Some next) =
        (items : List Item) → IsEnough phase (length items) → Lists next from told t (given next kept aside off) items
        → to_come (Some next) 0 (length items) (length (aside_in next kept aside)) (size_of (off_in next off)) ≤ to_come (Some phase) (length kept) 0 (length aside) (size_of off)

    -- the ephemerons that are put off are listed, unless they were ended
    still_few : (p : Item → Bool) (items : List Item) (off : PutOff) → items ≡ filter p (all_off off) → length items ≤ length (all_off off)
    still_few p items off is = let few = fewer_young p (all_off off) in let long = ap length is in omega (arith, few, long)

    still_begin : (w : ℕ) (p : Item → Bool) (items : List Item) (off : PutOff) → items ≡ filter p (all_off off) → keys_to_come w 0 (length items) (size_of none_off) ≤ 2 * length (all_off off) + most w (length (all_off off))
    still_begin w p items off is =
        let within = still_few p items off is in
        let few = most_le w (length items) (length (all_off off)) within in
        let same : 0 + length items + 0 ≡ length items = omega arith in
        let rest = ap (most w) same in
        omega (arith, few, rest, within)

    keys_turn : (moment : Moment) (kept aside items : List Item) (off : PutOff) → items ≡ kept
        → holders_to_come (weight moment) 0 (length items) (size_of off) + behind_them moment (length aside) ≤ keys_to_come (weight moment) (length kept) 0 (size_of off) + behind_them moment (length aside)
    keys_turn moment kept aside items off is =
        let long = ap length is in
        let same : 0 + length items + length (all_off off) ≡ length kept + 0 + length (all_off off) = omega (arith, long) in
        let rest = ap (to_follow (weight moment) (length off.told) off.again) same in
        omega (arith, long, rest)

    holders_turn : (moment : Moment) (kept aside items : List Item) (off : PutOff) → items ≡ kept
        → values_of (weight moment) (length items) (size_of off) + behind_them moment (length aside) ≤ holders_to_come (weight moment) (length kept) 0 (size_of off) + behind_them moment (length aside)
    holders_turn moment kept aside items off is =
        subst (λ (xs : List Item). values_of (weight moment) (length xs) (size_of off) + behind_them moment (length aside) ≤ holders_to_come (weight moment) (length kept) 0 (size_of off) + behind_them moment (length aside)) (sym is)
        (let few = values_begin (weight moment) (length kept) (length (all_off off)) (length off.told) off.again (length kept + 0 + length (all_off off)) (omega arith) in omega (arith, few))

    -- a sweep lists nothing
    sweep_turn : (sweep : Sweep) (n : ℕ) (items : List Item) → items ≡ [] → length items + behind_sweep sweep n ≤ behind_sweep sweep n
    sweep_turn sweep n items none = let long = ap length none in omega (arith, long)

    behind_turn : (moment : Moment) (kept aside : List Item) (off : PutOff) → IsFewer (Values moment) kept aside off (Some (behind moment))
    behind_turn First kept aside off = λ items enough is.
        let n = length (all_off off) in
        let none = sweep_turn sweeps.ShortCleanups n items is in
        let end = values_end 9 n (length off.told) off.again in
        let two = two_more 9 7 n refl in
        let four = two_more 7 5 n refl in
        omega (arith, none, end, two, four)
    behind_turn Led kept aside off = λ items enough is.
        let n = length (all_off off) in
        let same = ap length is in
        let end = values_end 5 n (length off.told) off.again in
        let two = two_more 5 3 n refl in
        omega (arith, same, end, two)
    behind_turn Picked kept aside off = λ items enough is.
        let n = length (all_off off) in
        let same = ap length is in
        let end = values_end 3 n (length off.told) off.again in
        let two = two_more 3 1 n refl in
        omega (arith, same, end, two)
    behind_turn Last kept aside off = λ items enough is.
        let n = length (all_off off) in
        let none = sweep_turn sweeps.LongTargets n items is in
        let end = values_end 1 n (length off.told) off.again in
        let few = last_few n in
        omega (arith, none, end, few)

    swept_turn : (sweep : Sweep) (kept aside : List Item) (off : PutOff) → IsFewer (Regions sweep) kept aside off (Some (swept sweep))
    swept_turn sweeps.ShortCleanups kept aside off = λ items enough are. omega (arith, enough)
    swept_turn sweeps.ShortTargets kept aside off = λ items enough are. omega (arith, enough)
    swept_turn sweeps.Objects kept aside off = λ items enough are. omega (arith, enough)
    swept_turn sweeps.LongTargets kept aside off = λ items enough are. omega (arith, enough)
    swept_turn sweeps.ShortHolders kept aside off = λ items enough are. omega (arith, enough)
    swept_turn sweeps.LongHolders kept aside off = λ items enough are. omega (arith, enough)
    swept_turn sweeps.LongCleanups kept aside off = λ items enough are. omega (arith, enough)

    turns_fewer : (phase : Phase) (kept aside : List Item) (off : PutOff) → IsFewer phase kept aside off (next_phase phase (looks_again off))
    turns_fewer (Keys moment) kept aside off = λ items enough is. keys_turn moment kept aside items off is
    turns_fewer (KeysAgain moment) kept aside off = λ items enough is. keys_turn moment kept aside items off is
    turns_fewer (Holders moment) kept aside off = λ items enough is. holders_turn moment kept aside items off is
    turns_fewer (Values moment) kept aside off = by (looks_again off) refl
      where
        by : (more : Bool) → looks_again off ≡ more → IsFewer (Values moment) kept aside off (next_phase (Values moment) more)
        by false over = behind_turn moment kept aside off
        by true again = λ items enough is. let few = again_fewer (weight moment) items off again is in omega (arith, few)
    turns_fewer (Regions sweep) kept aside off = swept_turn sweep kept aside off
    turns_fewer ShortCleanups kept aside off = λ items enough is. let none = sweep_turn sweeps.ShortTargets (length (all_off off)) items is in omega (arith, none)
    turns_fewer ShortTargets kept aside off = λ items enough is. let same = ap length is in omega (arith, same)
    turns_fewer ShortWords kept aside off = λ items enough is. let few = still_few (is_still (Some Short) t.ephemerons) items off is in omega (arith, few)
    turns_fewer ShortKeys kept aside off = λ items enough is. let same = ap length is in omega (arith, same)
    turns_fewer ShortKeyWords kept aside off = λ items enough is. let none = sweep_turn sweeps.Objects (length (all_off off)) items is in omega (arith, none)
    turns_fewer Objects kept aside off = λ items enough grouped. let same = length_permutation kept items grouped.0 in omega (arith, same)
    turns_fewer Children kept aside off = λ items enough is. let few = still_begin 5 (is_still None t.ephemerons) items off is in omega (arith, few)
    turns_fewer Again kept aside off = λ items enough is. let same = ap length is in omega (arith, same)
    turns_fewer Picks kept aside off = λ items enough turned. let same = length_permutation kept items turned.0 in omega (arith, same)
    turns_fewer Entries kept aside off = λ items enough is. let few = still_begin 3 (is_still None t.ephemerons) items off is in omega (arith, few)
    turns_fewer LateAgain kept aside off = λ items enough is. let same = ap length is in omega (arith, same)
    turns_fewer LatePicks kept aside off = λ items enough is. let few = still_begin 1 (is_still None t.ephemerons) items off is in omega (arith, few)
    turns_fewer LongTargets kept aside off = λ items enough is. let same = ap length is in omega (arith, same)
    turns_fewer LongWords kept aside off = λ items enough is. let few = still_few (is_still (Some Long) t.ephemerons) items off is in omega (arith, few)
    turns_fewer LongKeys kept aside off = λ items enough is. let same = ap length is in omega (arith, same)
    turns_fewer LongKeyWords kept aside off = λ items enough is. let none = sweep_turn sweeps.ShortHolders (length (all_off off)) items is in omega (arith, none)
    turns_fewer ShortHolders kept aside off = λ items enough is. let none = sweep_turn sweeps.LongHolders (length (all_off off)) items is in omega (arith, none)
    turns_fewer LongHolders kept aside off = λ items enough is. let few = still_few (is_still (Some Short) t.ephemerons) items off is in omega (arith, few)
    turns_fewer ShortKeyHolders kept aside off = λ items enough is. let few = still_few (is_still (Some Long) t.ephemerons) items off is in omega (arith, few)
    turns_fewer LongKeyHolders kept aside off = λ items enough is. let none = sweep_turn sweeps.LongCleanups (length (all_off off)) items is in omega (arith, none)
    turns_fewer LongCleanups kept aside off = tt

  -- in the phase behind a sweep none is left to ask about, and what it keeps is no more than what comes behind the sweep
  abbrev pub IsPassed : Phase → Phase → Going → Type 0
  IsPassed (Regions sweep) next k = ((skip next k).left ≡ []) × (cost_kept sweep (length (skip next k).kept) ≤ budget sweep)
  IsPassed phase next k = ⊥

  -- so much is listed behind each sweep
  abbrev pub AreFewListed : {from : ℕ} (phase : Phase) (g : Going) (last : Option Phase) (k : Going) → GoesOn from phase g last k → Type 0
  AreFewListed phase g last k (Asks item left some) = Unit {0}
  AreFewListed phase g last k Sweeps = Unit {0}
  AreFewListed phase g last k (Turns {next = next} {h = h} none turns begins rest) = (IsEnough phase (length h.left) ⊎ IsPassed phase next h) × AreFewListed next h last k rest
  AreFewListed phase g last k (Ends none turns) = Unit {0}

  -- what is to come once no item of a phase is left
  abbrev to_come_past : Phase → Going → ℕ
  to_come_past phase p = to_come (Some phase) (length p.kept) 0 (length p.aside) (size_of p.off)

  turn_here : {from : ℕ} (phase next : Phase) (p n : Going) → next_phase phase (looks_again p.off) ≡ Some next → Begins from next p n → IsEnough phase (length n.left) → to_come_in (Some next) n ≤ to_come_past phase p
  turn_here {from = from} phase next p n turns begins enough =
      subst (λ (x : Going). to_come_in (Some next) x ≤ to_come_past phase p)
      (λ i. record { finalizers = n.finalizers; kept = sym begins.none i; left = n.left; aside = sym begins.aside i; off = sym begins.off i; told = n.told })
      (subst (IsFewer from p.told p.finalizers phase p.kept p.aside p.off) turns (turns_fewer from p.told p.finalizers phase p.kept p.aside p.off) n.left enough begins.lists)

  -- past a sweep and the phase behind it
  past_sweep : (sweep : Sweep) (kept before aside other : ℕ) (off : Size) → cost_kept sweep kept ≤ budget sweep → to_come (Some (swept sweep)) kept 0 aside off ≤ to_come (Some (Regions sweep)) before 0 other off
  past_sweep sweeps.ShortCleanups kept before aside other off few = omega arith
  past_sweep sweeps.ShortTargets kept before aside other off few = omega (arith, few)
  past_sweep sweeps.Objects kept before aside other off few = omega (arith, few)
  past_sweep sweeps.LongTargets kept before aside other off few = omega (arith, few)
  past_sweep sweeps.ShortHolders kept before aside other off few = omega arith
  past_sweep sweeps.LongHolders kept before aside other off few = omega arith
  past_sweep sweeps.LongCleanups kept before aside other off few = omega arith

  no_more : (a b c : ℕ) → a ≤ b → b ≤ c → a ≤ c
  no_more a b c x y = omega (arith, x, y)

  passed_on : {from : ℕ} (all : ℕ) (phase next : Phase) (p n : Going) → next_phase phase (looks_again p.off) ≡ Some next → Begins from next p n → IsPassed phase next n → (is_sweep next ≡ false → all ≤ to_come_in (Some next) (skip next n)) → all ≤ to_come_past phase p
  passed_on {from = from} all (Regions sweep) next p n turns begins passed rest =
      subst (λ (o : Phase). Begins from o p n → IsPassed (Regions sweep) o n → (is_sweep o ≡ false → all ≤ to_come_in (Some o) (skip o n)) → all ≤ to_come_past (Regions sweep) p) (same_Some (swept sweep) next turns) behind begins passed rest
    where
      behind : Begins from (swept sweep) p n → IsPassed (Regions sweep) (swept sweep) n → (is_sweep (swept sweep) ≡ false → all ≤ to_come_in (Some (swept sweep)) (skip (swept sweep) n)) → all ≤ to_come_past (Regions sweep) p
      behind starts (none, few) follows =
          let q : Going = skip (swept sweep) n in
          let off : q.off ≡ p.off = skipped_off sweep n.left n ∙ starts.off ∙ off_swept sweep p.off in
          let left = subst (λ (xs : List Item). all ≤ to_come (Some (swept sweep)) (length q.kept) (length xs) (length q.aside) (size_of q.off)) none (follows (swept_no_sweep sweep)) in
          let past = past_sweep sweep (length q.kept) (length p.kept) (length q.aside) (length p.aside) (size_of q.off) few in
          subst (λ (x : PutOff). all ≤ to_come (Some (Regions sweep)) (length p.kept) 0 (length p.aside) (size_of x)) off
          (no_more all (to_come (Some (swept sweep)) (length q.kept) 0 (length q.aside) (size_of q.off)) (to_come (Some (Regions sweep)) (length p.kept) 0 (length p.aside) (size_of q.off)) left past)
  passed_on all phase next p n turns begins passed rest = absurd passed

  -- there is no more to come than before, and but for a sweep no more than once the items are skipped that aren't asked about
  goes_on_fewer : {from : ℕ} (phase : Phase) (k : Going) (last : Option Phase) (m : Going) (goes : GoesOn from phase k last m) → AreFewListed phase k last m goes
      → (to_come_in last m ≤ to_come_in (Some phase) k) × (is_sweep phase ≡ false → to_come_in last m ≤ to_come_in (Some phase) (skip phase k))
  goes_on_fewer phase k last m (Asks item left some) few = (skip_fewer phase k, λ other. omega arith)
  goes_on_fewer phase k last m Sweeps few = (omega arith, λ other. absurd (true≢false other))
  goes_on_fewer phase k last m (Turns {next = next} {h = n} none turns begins rest) (listed, few) =
      let on = goes_on_fewer next n last m rest few in
      let p : Going = skip phase k in
      let past : to_come_in last m ≤ to_come_past phase p =
      ⊎_elim
      (λ (enough : IsEnough phase (length n.left)). no_more (to_come_in last m) (to_come_in (Some next) n) (to_come_past phase p) on.0 (turn_here phase next p n turns begins enough))
      (λ (passed : IsPassed phase next n). passed_on (to_come_in last m) phase next p n turns begins passed on.1) listed in
      let here : to_come_in last m ≤ to_come_in (Some phase) p =
      subst (λ (xs : List Item). to_come_in last m ≤ to_come (Some phase) (length p.kept) (length xs) (length p.aside) (size_of p.off)) (sym none) past in
      (no_more (to_come_in last m) (to_come_in (Some phase) p) (to_come_in (Some phase) k) here (skip_fewer phase k), λ other. here)
  goes_on_fewer phase k last m (Ends none turns) few = (omega arith, λ other. omega arith)

  -- ---- a run

  abbrev pub to_come_at : Machine → ℕ
  to_come_at m = to_come m.phase (length m.walk.kept) (length m.walk.left) (length m.walk.aside) (size_of m.walk.off)

  abbrev pub all_to_come : ℕ
  all_to_come = most 11 e + behind_them First 0

  pub record IsHearing (n : ℕ) (m : Machine) : Type 0 where
    pub few : n + to_come_at m ≤ all_to_come
    pub asked : (p : Phase) → m.phase ≡ Some p → m.asked ≤ length m.walk.left
    pub costs : (p : Phase) → m.phase ≡ Some p → cost_each p ≡ 1
    pub some : (moment : Moment) → m.phase ≡ Some (Values moment) → 0 < length m.walk.left

  pub asked_for : (m : Machine) (next : Next) → Tells m next → (p : Phase) → m.phase ≡ Some p → m.asked ≤ length m.walk.left
  asked_for m (told.Asks question) (phase, was, inl items) p at =
      let within = items.question.within in
      let count = items.asked in
      omega (arith, within, count)
  asked_for m (told.Asks question) (phase, was, inr regions) p at = let none = regions.asked in omega (arith, none)
  asked_for m (told.Ended passed) (none, same, picked) p at = absurd (none-some p (sym none ∙ at))

  -- what the host tells leaves no more to come, since it does so while a value is asked about
  values_told : (key : ℕ) (moment : Moment) (kept left aside : ℕ) (was now : PutOff) → TellsOff key was now → 0 < left → to_come (Some (Values moment)) kept left aside (size_of now) ≤ to_come (Some (Values moment)) kept left aside (size_of was)
  values_told key moment kept zero aside was now tells some = absurd (omega (arith, some))
  values_told key moment kept (suc left) aside was now tells some =
      let same = length_permutation (all_off was) (all_off now) (tells_moves key was now tells) in
      let rest = ap (most (weight moment)) same in
      omega (arith, same, rest)

  told_fewer : (key : ℕ) (phase : Option Phase) (kept left aside : ℕ) (was now : PutOff) → TellsIn phase key was now → ((moment : Moment) → phase ≡ Some (Values moment) → 0 < left)
      → to_come phase kept left aside (size_of now) ≤ to_come phase kept left aside (size_of was)
  told_fewer key (Some (Values moment)) kept left aside was now tells some = values_told key moment kept left aside was now tells (some moment refl)
  told_fewer key phase kept left aside was now tells some = let same = ap (λ (off : PutOff). to_come phase kept left aside (size_of off)) tells in omega (arith, same)

  -- an answer is about one item more, and words are about none
  pub goes_less : {from : ℕ} (phase : Phase) (old m : Machine) (n : ℕ) (k : Going) (t : State) → old.phase ≡ Some phase → n + to_come_in (Some phase) k ≤ to_come_in (Some phase) (going_of old)
      → (goes : GoesOn from phase k m.phase (record (going_of m) { finalizers = t })) → AreFewListed phase k m.phase (record (going_of m) { finalizers = t }) goes → n + to_come_at m ≤ to_come_at old
  goes_less phase old m n k t at few goes listed =
      let there = (goes_on_fewer phase k m.phase (record (going_of m) { finalizers = t }) goes listed).0 in
      subst (λ o. n + to_come_at m ≤ to_come o (length old.walk.kept) (length old.walk.left) (length old.walk.aside) (size_of old.walk.off)) (sym at) (omega (arith, few, there))

  pub hears_on : {from : ℕ} (phase : Phase) (before n : ℕ) (old m : Machine) (k : Going) (t : State) (next : Next) → GoesOn from phase k m.phase (record (going_of m) { finalizers = t }) → n + to_come_at m ≤ to_come_at old → Tells m next → IsHearing before old
      → IsHearing (before + n) m
  hears_on phase before n old m k t next goes less tells was =
      let so_far = was.few in
      record {
        few = omega (arith, so_far, less);
        asked = asked_for m next tells;
        costs = costs_told m next tells;
        some = λ moment here. stops phase k m.phase (record (going_of m) { finalizers = t }) goes moment here;
      }

  pub goes_few : {from : ℕ} (phase : Phase) (before : ℕ) (old m : Machine) (n : ℕ) (k : Going) (t : State) (next : Next) → old.phase ≡ Some phase → n + to_come_in (Some phase) k ≤ to_come_in (Some phase) (going_of old)
      → (goes : GoesOn from phase k m.phase (record (going_of m) { finalizers = t })) → AreFewListed phase k m.phase (record (going_of m) { finalizers = t }) goes → Tells m next → IsHearing before old → IsHearing (before + n) m
  goes_few phase before old m n k t next at few goes listed tells was = hears_on phase before n old m k t next goes (goes_less phase old m n k t at few goes listed) tells was

  pub answers_few : (phase : Phase) (answers : List Bool) (m : Machine) (t : State) → length answers ≤ length m.walk.left → CostsIfAny answers phase → length answers + to_come_in (Some phase) (steps phase answers (record (going_of m) { finalizers = t })) ≤ to_come_in (Some phase) (going_of m)
  answers_few phase answers m t few costs = steps_fewer phase answers t m.walk.kept m.walk.left m.walk.aside m.walk.off m.told few costs

  pub worked_few : (n : ℕ) (old m : Machine) → IsWorked old m → IsHearing n old → IsHearing n m
  worked_few n old m worked was = record {
    few = subst (λ (k : Machine). n + to_come_at k ≤ all_to_come) (sym worked.keeps) was.few;
    asked = λ p at. subst (λ (k : Machine). k.asked ≤ length k.walk.left) (sym worked.keeps) (was.asked p (sym (ap (λ (k : Machine). k.phase) worked.keeps) ∙ at));
    costs = λ p at. was.costs p (sym (ap (λ (k : Machine). k.phase) worked.keeps) ∙ at);
    some = λ moment at. subst (λ xs. 0 < length xs) (sym (ap (λ (k : Machine). k.walk.left) worked.keeps)) (was.some moment (sym (ap (λ (k : Machine). k.phase) worked.keeps) ∙ at));
  }

  pub told_few : (n key : ℕ) (old m : Machine) → IsTold key old m → IsHearing n old → IsHearing n m
  told_few n key old m tells was =
      let so_far = was.few in
      let less = told_fewer key old.phase (length old.walk.kept) (length old.walk.left) (length old.walk.aside) old.walk.off m.walk.off tells.off was.some in
      record {
        few = subst (λ (k : Machine). n + to_come_at k ≤ all_to_come) (sym tells.same) (omega (arith, so_far, less));
        asked = λ p at. subst (λ (k : Machine). k.asked ≤ length k.walk.left) (sym tells.same) (was.asked p (sym (ap (λ (k : Machine). k.phase) tells.same) ∙ at));
        costs = λ p at. was.costs p (sym (ap (λ (k : Machine). k.phase) tells.same) ∙ at);
        some = λ moment at. subst (λ (k : Machine). 0 < length k.walk.left) (sym tells.same) (was.some moment (sym (ap (λ (k : Machine). k.phase) tells.same) ∙ at));
      }

  -- all ephemerons are listed
  rows_begin : (k : Ephemerons) → len k.short ≤ es → len k.long ≤ el → (items : List Item) → AreEphemerons k items → keys_to_come 9 0 (length items) (size_of none_off) ≤ most 11 e
  rows_begin k few_short few_long items are =
      let count = rows_few k items are in
      let within : length items ≤ e = omega (arith, count, few_short, few_long) in
      let few = most_le 9 (length items) e within in
      let all = two_more 11 9 e refl in
      let same : 0 + length items + 0 ≡ length items = omega arith in
      let rest = ap (most 9) same in
      omega (arith, few, all, rest, within)

  pub begins_few : (from : ℕ) (old begun : Machine) → IsBegunFrom from old begun → len old.finalizers.state.ephemerons.short ≤ es → len old.finalizers.state.ephemerons.long ≤ el → IsHearing 0 begun
  begins_few from old begun is few_short few_long =
      let t = old.finalizers.state in
      let listed : AreEphemerons t.ephemerons begun.walk.left = subst (λ (u : State). AreEphemerons u.ephemerons begun.walk.left) is.finalizers is.begins.lists in
      let few = rows_begin t.ephemerons few_short few_long begun.walk.left listed in
      let first : to_come (Some (Keys First)) 0 (length begun.walk.left) 0 (size_of none_off) ≤ all_to_come = omega (arith, few) in
      record {
        few = subst (λ o. 0 + to_come o (length begun.walk.kept) (length begun.walk.left) (length begun.walk.aside) (size_of begun.walk.off) ≤ all_to_come) (sym is.phase)
            (none_before (to_come (Some (Keys First)) (length begun.walk.kept) (length begun.walk.left) (length begun.walk.aside) (size_of begun.walk.off)) all_to_come
            (subst (λ (k : Going). to_come_in (Some (Keys First)) k ≤ all_to_come)
            (λ i. record { finalizers = t; kept = sym is.begins.none i; left = begun.walk.left; aside = sym is.begins.aside i; off = sym is.begins.off i; told = begun.told }) first));
        asked = λ p at. let none = is.asked in omega (arith, none);
        costs = λ p at. ap cost_each (sym (same_Some (Keys First) p (sym is.phase ∙ at)));
        some = λ moment at. absurd (not_values moment (sym is.phase ∙ at));
      }

-- ---- how many items there are at most, whatever is told

module _ (r s g es el sc l : ℕ) where
  -- each list that is processed behind a sweep
  abbrev pub sized : Sweep → ℕ
  sized sweeps.ShortCleanups = sc
  sized sweeps.ShortTargets = 2 * s
  sized sweeps.Objects = 6 * r
  sized sweeps.LongTargets = 2 * g
  sized sweeps.ShortHolders = s
  sized sweeps.LongHolders = g
  sized sweeps.LongCleanups = l

  abbrev Cleanups : Map Attached → Type 0
  Cleanups m = HasOf Short sc m × HasOf Long l m

  fewer_cleanups : (m : Map Attached) (number : ℕ) → Cleanups m → Cleanups (remove m number)
  fewer_cleanups m number h = (fewer_of Short sc m number h.0, fewer_of Long l m number h.1)

  abbrev pub IsFit : State → Type 0
  IsFit = IsWithin r s g es el Cleanups

  pub fit_still : (phase : Phase) (item : Item) (answer : Bool) (t : State) → IsFit t → IsFit (after phase item answer t)
  fit_still phase item answer t h = still r s g es el Cleanups fewer_cleanups t h phase item answer

  pub fit_worked : (old m : Machine) → IsWorked old m → IsFit old.finalizers.state → IsFit m.finalizers.state
  fit_worked old m worked h =
      let there = subst IsFit (sym (work_apart 0 [] old.finalizers.state m.finalizers.state worked.event worked.work worked.follows)) (record { registered = h.registered; short = h.short; long = h.long; short_keys = h.short_keys; long_keys = h.long_keys; attached = h.attached }) in
      record { registered = there.registered; short = there.short; long = there.long; short_keys = there.short_keys; long_keys = there.long_keys; attached = there.attached }

  -- what the phase behind a sweep lists
  pub fit_swept : (from : ℕ) (told : List (ℕ × ℕ)) (t : State) → IsFit t → (sweep : Sweep) (given items : List Item) → Lists (swept sweep) from told t given items → cost sweep (length items) ≤ sized sweep
  fit_swept from told t h sweeps.ShortCleanups given items are = let few = cleanups_few from told Short sc t.cleanups items h.attached.0 are in omega (arith, few)
  fit_swept from told t h sweeps.ShortTargets given items are = let many = links_few target_of told t.short items are in let few = h.short in omega (arith, many, few)
  fit_swept from told t h sweeps.Objects given items are = let many = objects_few from told t.registrations t.late items are in let few = h.registered in omega (arith, many, few)
  fit_swept from told t h sweeps.LongTargets given items are = let many = links_few target_of told t.long items are in let few = h.long in omega (arith, many, few)
  fit_swept from told t h sweeps.ShortHolders given items are = let many = links_few word_of told t.short items are in let few = h.short in omega (arith, many, few)
  fit_swept from told t h sweeps.LongHolders given items are = let many = links_few word_of told t.long items are in let few = h.long in omega (arith, many, few)
  fit_swept from told t h sweeps.LongCleanups given items are = let few = cleanups_few from told Long l t.cleanups items h.attached.1 are in omega (arith, few)

  -- so what begins is no more than that
  pub fit_begins : {from : ℕ} (phase next : Phase) (p n : Going) → IsFit p.finalizers → next_phase phase (looks_again p.off) ≡ Some next → Begins from next p n → IsEnough sized es el phase (length n.left)
  fit_begins {from = from} (Regions sweep) next p n fit turns begins =
      fit_swept from p.told p.finalizers fit sweep (given (swept sweep) p.kept p.aside p.off) n.left
      (subst (λ (o : Phase). Lists o from p.told p.finalizers (given o p.kept p.aside p.off) n.left) (sym (same_Some (swept sweep) next turns)) begins.lists)
  fit_begins phase next p n fit turns begins = tt

  few_listed : {from : ℕ} (phase : Phase) (g : Going) (last : Option Phase) (k : Going) (goes : GoesOn from phase g last k) → IsFit g.finalizers → AreFewListed sized es el phase g last k goes
  few_listed phase g last k (Asks item left some) fit = tt
  few_listed phase g last k Sweeps fit = tt
  few_listed phase g last k (Turns {next = next} {h = n} none turns begins rest) fit =
      let past = skip_keeps IsFit fit_still phase g fit in
      (inl (fit_begins phase next (skip phase g) n past turns begins), few_listed next n last k rest (subst IsFit (sym begins.same) past))
  few_listed phase g last k (Ends none turns) fit = tt

  -- what is heard keeps what fits, and leaves less to come by the number of answers
  pub record HasLess (n : ℕ) (old m : Machine) : Type 0 where
    pub fit : IsFit m.finalizers.state
    pub less : n + to_come_at sized es el m ≤ to_come_at sized es el old

  answers_on : (old m : Machine) (next : Next) (answers : List Bool) (goes : GoesTo old (Answers answers) m next) → GoesOn old.from goes.phase (steps goes.phase answers (going_of old)) m.phase (going_of m)
  answers_on old m next answers goes = subst (λ (x : Going). GoesOn old.from goes.phase x m.phase (going_of m)) (heard_answers goes.phase old.regions answers (going_of old)) goes.goes

  pub answers_less : (old m : Machine) (next : Next) (answers : List Bool) → length answers ≤ length old.walk.left → ((p : Phase) → old.phase ≡ Some p → CostsIfAny answers p) → IsFit old.finalizers.state → GoesTo old (Answers answers) m next → HasLess (length answers) old m
  answers_less old m next answers few costs h goes =
      let k : Going = steps goes.phase answers (going_of old) in
      let fit = steps_keep IsFit fit_still goes.phase answers (going_of old) h in
      let on = answers_on old m next answers goes in
      record {
        fit = goes_keep IsFit fit_still goes.phase k m.phase (going_of m) on fit;
        less = goes_less sized es el goes.phase old m (length answers) k m.finalizers.state goes.was (answers_few sized es el goes.phase answers old old.finalizers.state few (costs goes.phase goes.was)) on (few_listed goes.phase k m.phase (going_of m) on fit);
      }

  abbrev words_in : (old m : Machine) (next : Next) (words : List ℕ) → GoesTo old (Words words) m next → Going
  words_in old m next words goes = record (going_of old) { told = (heard_by goes.phase old.regions (Words words) (going_of old)).told }

  words_on : (old m : Machine) (next : Next) (words : List ℕ) (goes : GoesTo old (Words words) m next) → GoesOn old.from goes.phase (words_in old m next words goes) m.phase (going_of m)
  words_on old m next words goes = subst (λ (x : Going). GoesOn old.from goes.phase x m.phase (going_of m)) (heard_words goes.phase old.regions words (going_of old)) goes.goes

  pub words_less : (old m : Machine) (next : Next) (words : List ℕ) → IsFit old.finalizers.state → GoesTo old (Words words) m next → HasLess 0 old m
  words_less old m next words h goes =
      let k : Going = words_in old m next words goes in
      let on = words_on old m next words goes in
      record {
        fit = goes_keep IsFit fit_still goes.phase k m.phase (going_of m) on h;
        less = goes_less sized es el goes.phase old m 0 k m.finalizers.state goes.was (omega arith) on (few_listed goes.phase k m.phase (going_of m) on h);
      }

  record IsOn (n : ℕ) (m : Machine) : Type 0 where
    fit : IsFit m.finalizers.state
    hears : IsHearing sized es el n m

  heard : (begun m : Machine) (n : ℕ) → IsOn 0 begun → Hears begun m n → IsOn n m
  heard begun m n h Begun = h
  heard begun m n h (Goes {m = old} {next = next} {n = before} answers few goes hears) =
      let was = heard begun old before h hears in
      let asked = was.hears.asked goes.phase goes.was in
      let has = answers_less old m next answers (omega (arith, few, asked)) (λ p at some. was.hears.costs p at) was.fit goes in
      record { fit = has.fit; hears = hears_on sized es el goes.phase before (length answers) old m (steps goes.phase answers (going_of old)) m.finalizers.state next (answers_on old m next answers goes) has.less goes.tells was.hears }
  heard begun m n h (Learns {m = old} {next = next} {n = before} words goes hears) =
      let was = heard begun old before h hears in
      let has = words_less old m next words was.fit goes in
      let all : before + 0 ≡ before = omega arith in
      record { fit = has.fit; hears = subst (λ x. IsHearing sized es el x m) all (hears_on sized es el goes.phase before 0 old m (words_in old m next words goes) m.finalizers.state next (words_on old m next words goes) has.less goes.tells was.hears) }
  heard begun m n h (Meanwhile {m = old} worked hears) =
      let was = heard begun old n h hears in
      record { fit = fit_worked old m worked was.fit; hears = worked_few sized es el n old m worked was.hears }
  heard begun m n h (Told {m = old} key tells hears) =
      let was = heard begun old n h hears in
      record { fit = subst (λ (k : Machine). IsFit k.finalizers.state) (sym tells.same) was.fit; hears = told_few sized es el n key old m tells was.hears }

pub passes_end : PassesEnd
passes_end from old begun m n is hears =
    let t = old.finalizers.state in
    let r = len t.registrations in
    let s = len t.short in
    let g = len t.long in
    let es = len t.ephemerons.short in
    let el = len t.ephemerons.long in
    let kinds = both_kinds t.cleanups in
    let sc = kinds.0 in
    let l = kinds.1 in
    let start : IsOn r s g es el sc l 0 begun = record {
      fit = subst (IsFit r s g es el sc l) (sym is.finalizers) (record { registered = omega arith; short = omega arith; long = omega arith; short_keys = omega arith; long_keys = omega arith; attached = (kinds.2, kinds.3) });
      hears = begins_few (sized r s g es el sc l) es el from old begun is (omega arith) (omega arith);
    } in
    let end = (heard r s g es el sc l begun m n start hears).hears.few in
    let product = most_is (es + el) in
    let count = kinds.4 in
    omega (arith, end, product, count)
