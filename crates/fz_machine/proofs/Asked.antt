-- A question of a pass, and what comes before it.
use Rattle.std.proofs.Common.{All, ◌≡◌, ◌≢◌, ◌∙◌, ◌≤◌, ◌<◌, ◌-◌, ◌++◌, ℕ, zero, suc, min, Bool, true, false, cond, true≢false, slice_index_or, List, [], ◌∷◌, map, take, drop, zip, length, slice_get, is_some, Option, Some, None, IsTrue, refl, ap, sym, subst, ⊎_elim, append-nil, append_assoc, arith}
use Rattle.std.proofs.lemmas.List.{drop_all, take_all, get_or-map, length-drop, length-take, map-append, take-append-drop}
use Rattle.std.proofs.Math.Seq.{take-nil}
use Rattle.std.proofs.lemmas.Option.{none-some, same_Some}
use Rattle.std.specs.FinMap.{get-empty}
use Rattle.std.specs.Map.{keys_of}
use Rattle.std.specs.Ordering.{nat_cmp}
use Rattle.fz_finalizers.specs.States.{State, View, opening}
use Rattle.fz_machine.specs.declared.item.Item.{Item}
use Rattle.fz_machine.specs.declared.machine.By.{By}
use Rattle.fz_machine.specs.declared.pass.Next.{Next}
use Rattle.fz_machine.specs.declared.phase.Phase.{Phase}
use Rattle.fz_machine.specs.declared.phase.Phase.TheVariants.{Regions}
use Rattle.fz_machine.specs.declared.phase.Sweep.{Sweep}
use Rattle.fz_machine.specs.declared.phase.Sweep.TheVariants as sweeps
use Rattle.fz_machine.specs.declared.question.Ask.{Ask}
use Rattle.fz_machine.specs.declared.question.Question.{Question}
use Rattle.fz_machine.specs.Going.{AreAlike, AreFewer, AreNoMore, AreTables, AsksNone, Changes, HasAsk, HasRoom, HasRoomOff, HasRoomOffIn, HaveRoom, IsInOrder, IsSameRoom, IsTable, Lacks, asked_in, ephemerons_in, going, left_in, noted_by, questions_by, questions_of, questions_to_come, told_in}
use Rattle.fz_machine.specs.Machines.{Answers, AsksItems, AsksRegions, GoesTo, Heard, Machine, Tells, Words, going_of, heard_by, questions_left}
use Rattle.fz_machine.specs.Phases.{asks, settles, settles_in, swept, sweep_ask}
use Rattle.fz_machine.specs.Regions.{Regions as Table, AreNoted, IsOfSweep, IsUntold, index_of, no_regions, place_in, table_at}
use Rattle.fz_machine.specs.Steps.{Going, GoesOn, IsQuestion, steps}
use Rattle.fz_machine.specs.Walks.{Walk}
use Rattle.fz_machine.proofs.Less.{less_same, steps_less}
use Rattle.fz_machine.proofs.Rooms.{rooms_as, rooms_of, steps_rooms}
use Rattle.fz_machine.proofs.Tabled.{cases_sweep, fewer_map, index_within, more_questions, same_map}
use Rattle.fz_machine.proofs.Throughout.{heard_answers}
use Rattle.fz_machine.proofs.Turned.{is_sweep, left_other, lengths, not_swept, same_sweep, steps_told, tables_less}

-- ---- what a machine shows of its tables

abbrev pub are_complete : List Table → List Bool
are_complete tables = map (λ (t : Table). t.complete) tables

pub complete_at : (tables : List Table) (sweep : Sweep) → length tables ≡ 7 → slice_index_or (are_complete tables) (index_of sweep) false ≡ (table_at tables sweep).complete
complete_at tables sweep many = get_or-map (λ (t : Table). t.complete) tables (index_of sweep) no_regions false (let lt = index_within sweep in omega (arith, lt, many))

module _ (old new : List Table) (many : length old ≡ 7) (alike : AreAlike old new) where
  pub alike_count : length new ≡ 7
  alike_count = alike.count ∙ many

  pub alike_complete : are_complete new ≡ are_complete old
  alike_complete = same_map old new many alike_count (λ (t : Table). t.complete) alike.complete

  pub alike_lengths : lengths new ≡ lengths old
  alike_lengths = same_map old new many alike_count (λ (t : Table). length t.order) (λ sweep. ap length (alike.order sweep))

module _ (old new : List Table) (many : length old ≡ 7) (as_many : length new ≡ 7) (more : AreNoMore old new) where
  pub more_complete : are_complete new ≡ are_complete old
  more_complete = same_map old new many as_many (λ (t : Table). t.complete) more.complete

  pub more_lengths : AreFewer (lengths old) (lengths new)
  more_lengths = fewer_map old new many as_many (λ (t : Table). length t.order) more.fewer

pub no_fewer : (ns : List ℕ) → AreFewer ns ns
no_fewer [] = tt
no_fewer (n ∷ ns) = (omega arith, no_fewer ns)

pub fewer_twice : (xs bs cs : List ℕ) → AreFewer xs bs → AreFewer bs cs → AreFewer xs cs
fewer_twice [] [] [] p q = tt
fewer_twice [] [] (c ∷ cs) p q = absurd q
fewer_twice [] (b ∷ bs) cs p q = absurd p
fewer_twice (a ∷ xs) [] cs p q = absurd p
fewer_twice (a ∷ xs) (b ∷ bs) [] p q = absurd q
fewer_twice (a ∷ xs) (b ∷ bs) (c ∷ cs) p q = (let x = p.0 in let y = q.0 in omega (arith, x, y), fewer_twice xs bs cs p.1 q.1)

-- ---- one table changes: its sweep ends early, or it is told

module _ (s : State) (old new : List Table) (sweep : Sweep) (changes : Changes sweep old new) where
  -- at the sweep's end
  pub stopped_tables : table_at new sweep ≡ record (table_at old sweep) { told = []; left = []; asked = 0 } → AreTables s old (Some (Regions sweep)) → AreTables s new None
  stopped_tables is are = record {
    each = λ other.
        ⊎_elim
        (λ (same : other ≡ sweep).
        let untold : IsUntold (table_at new sweep) = (ap (λ (t : Table). t.told) is, ap (λ (t : Table). t.left) is, ap (λ (t : Table). t.asked) is) in
        subst (λ w. IsTable w s (table_at new w) None) (sym same)
        (record {
          noted = λ complete. subst (AreNoted sweep s) (sym (ap (λ (t : Table). t.order) is)) ((are.each sweep).noted (sym (ap (λ (t : Table). t.complete) is) ∙ complete));
          whole = λ at complete. absurd (none-some (Regions sweep) at);
          idle = λ not. untold;
          lacking = λ off. untold;
        }))
        (λ (ne : other ≢ sweep).
        let one = are.each other in
        let untold = one.idle (λ at. ne (sym (same_sweep sweep other at))) in
        subst (λ (t : Table). IsTable other s t None) (sym (changes.others other ne)) (record { noted = one.noted; whole = λ at complete. absurd (none-some (Regions other) at); idle = λ not. untold; lacking = λ off. untold }))
        (cases_sweep other sweep);
    count = changes.count ∙ are.count;
  }

  -- in the sweep
  pub heard_tables : table_at new sweep ≡ record (table_at old sweep) { told = (table_at new sweep).told; left = (table_at new sweep).left } → (keys_of (table_at old sweep).told ++ (table_at old sweep).left ≡ keys_of (table_at old sweep).order → keys_of (table_at new sweep).told ++ (table_at new sweep).left ≡ keys_of (table_at old sweep).order)
      → (IsUntold (table_at old sweep) → IsUntold (table_at new sweep)) → AreTables s old (Some (Regions sweep)) → AreTables s new (Some (Regions sweep))
  heard_tables is whole untold are = record {
    each = λ other.
        ⊎_elim
        (λ (same : other ≡ sweep).
        let one = are.each sweep in
        subst (λ w. IsTable w s (table_at new w) (Some (Regions sweep))) (sym same)
        (record {
          noted = λ complete. subst (AreNoted sweep s) (sym (ap (λ (t : Table). t.order) is)) (one.noted (sym (ap (λ (t : Table). t.complete) is) ∙ complete));
          whole = λ at complete. whole (one.whole refl (sym (ap (λ (t : Table). t.complete) is) ∙ complete)) ∙ ap keys_of (sym (ap (λ (t : Table). t.order) is));
          idle = λ not. absurd (not refl);
          lacking = λ off. untold (one.lacking (sym (ap (λ (t : Table). t.complete) is) ∙ off));
        }))
        (λ (ne : other ≢ sweep). subst (λ (t : Table). IsTable other s t (Some (Regions sweep))) (sym (changes.others other ne)) (are.each other))
        (cases_sweep other sweep);
    count = changes.count ∙ are.count;
  }

-- only what a table notes of a sweep changes
pub alike_one : (old new : List Table) (sweep : Sweep) → Changes sweep old new → (table_at new sweep).complete ≡ (table_at old sweep).complete → (table_at new sweep).order ≡ (table_at old sweep).order → AreAlike old new
alike_one old new sweep changes complete order = record {
  complete = λ other. ⊎_elim (λ (same : other ≡ sweep). subst (λ w. (table_at new w).complete ≡ (table_at old w).complete) (sym same) complete) (λ (ne : other ≢ sweep). ap (λ (t : Table). t.complete) (changes.others other ne)) (cases_sweep other sweep);
  order = λ other. ⊎_elim (λ (same : other ≡ sweep). subst (λ w. (table_at new w).order ≡ (table_at old w).order) (sym same) order) (λ (ne : other ≢ sweep). ap (λ (t : Table). t.order) (changes.others other ne)) (cases_sweep other sweep);
  count = changes.count;
}

-- regions with words are the first ones
pub keys_zipped : (ks ws : List ℕ) → keys_of (zip ks ws) ≡ take (length ws) ks
keys_zipped [] [] = refl
keys_zipped [] (w ∷ ws) = refl
keys_zipped (k ∷ ks) [] = refl
keys_zipped (k ∷ ks) (w ∷ ws) = ap (λ xs. k ∷ xs) (keys_zipped ks ws)

pub taken_twice : (n m : ℕ) (xs : List ℕ) → take n (take m xs) ≡ take (min m n) xs
taken_twice n m [] = ap (take n) (take-nil m) ∙ take-nil n ∙ sym (take-nil (min m n))
taken_twice zero m (x ∷ xs) = let none : min m 0 ≡ 0 = omega arith in ap (λ k. take k (x ∷ xs)) (sym none)
taken_twice (suc n) zero (x ∷ xs) = let none : min 0 (suc n) ≡ 0 = omega arith in ap (λ k. take k (x ∷ xs)) (sym none)
taken_twice (suc n) (suc m) (x ∷ xs) = let next : min (suc m) (suc n) ≡ suc (min m n) = omega arith in ap (λ ys. x ∷ ys) (taken_twice n m xs) ∙ ap (λ k. take k (x ∷ xs)) (sym next)

-- what is told and what is left are all regions still
pub still_whole : (told : List (ℕ × ℕ)) (left words order : List ℕ) (asked : ℕ) → length words ≡ 64 → keys_of told ++ left ≡ order → keys_of (told ++ zip (take asked left) words) ++ drop (min asked 64) left ≡ order
still_whole told left words order asked many whole =
    let first : keys_of (zip (take asked left) words) ≡ take (min asked 64) left = keys_zipped (take asked left) words ∙ ap (λ n. take n (take asked left)) many ∙ taken_twice 64 asked left in
    ap (λ ks. ks ++ drop (min asked 64) left) (map-append (λ (e : ℕ × ℕ). e.0) told (zip (take asked left) words)) ∙ append_assoc (keys_of told) (keys_of (zip (take asked left) words)) (drop (min asked 64) left)
    ∙ ap (λ ks. keys_of told ++ ks) (ap (λ ks. ks ++ drop (min asked 64) left) first ∙ take-append-drop (min asked 64) left) ∙ whole

pub untold_still : (old new : Table) (words : List ℕ) → new.told ≡ old.told ++ zip (take old.asked old.left) words → new.left ≡ drop (min old.asked 64) old.left → new ≡ record old { told = new.told; left = new.left } → IsUntold old → IsUntold new
untold_still old new words told left same untold = (
  told ∙ (λ i. untold.0 i ++ zip (take (untold.2 i) (untold.1 i)) words),
  left ∙ (λ i. drop (min (untold.2 i) 64) (untold.1 i)),
  ap (λ (t : Table). t.asked) same ∙ untold.2,
)

-- ---- a machine

-- what a machine shows of its parts
abbrev pub shown : View → Walk → List Table → Option Phase → ℕ → ℕ → ℕ → By → Machine
shown f walk tables phase asked before from by = record {
  finalizers = f;
  walk = walk;
  phase = phase;
  asked = asked;
  before = before;
  from = from;
  told = told_in tables phase;
  remaining = length (left_in tables phase);
  regions = take (asked_in tables phase) (left_in tables phase);
  by = by;
  noted = are_complete tables;
  tabled = lengths tables;
}

-- it goes on from a phase, and then asks a question, by which only the tables change
module _ (f0 f : View) (walk0 walk : Walk) (tables0 tables1 tables : List Table) (was last : Option Phase) (phase : Phase) (asked0 asked before from : ℕ) (by : By) (at : was ≡ Some phase)
    (goes : GoesOn from phase (going f0 walk0 (told_in tables0 (Some phase))) last (going f walk (told_in tables1 last))) (told : told_in tables last ≡ told_in tables1 last) (left : left_in tables last ≡ left_in tables1 last)
    (many : length tables0 ≡ 7) (as_many : length tables1 ≡ 7) (more : AreNoMore tables0 tables1) (alike : AreAlike tables1 tables) (fewer : questions_by last tables1 ≤ questions_by (Some phase) tables0) where
  abbrev new : Machine
  new = shown f walk tables last asked before from by

  pub goes_to : (next : Next) → Tells new next → GoesTo (shown f0 walk0 tables0 was asked0 before from by) (Answers []) new next
  goes_to next tells = record {
    phase = phase;
    was = at;
    goes = subst (λ (t : List (ℕ × ℕ)). GoesOn from phase (heard_by phase (take (asked_in tables0 was) (left_in tables0 was)) (Answers []) (going f0 walk0 (told_in tables0 was))) last (going f walk t)) (sym told)
        (subst (λ (o : Option Phase). GoesOn from phase (heard_by phase (take (asked_in tables0 was) (left_in tables0 was)) (Answers []) (going f0 walk0 (told_in tables0 o))) last (going f walk (told_in tables1 last))) (sym at)
        (subst (λ (g : Going). GoesOn from phase g last (going f walk (told_in tables1 last))) (sym (heard_answers phase (take (asked_in tables0 was) (left_in tables0 was)) [] (going f0 walk0 (told_in tables0 (Some phase))))) goes));
    tells = tells;
    before = refl;
    from = refl;
    by = refl;
    noted = alike_complete tables1 tables as_many alike ∙ more_complete tables0 tables1 many as_many more;
    tabled = subst (AreFewer (lengths tables0)) (sym (alike_lengths tables1 tables as_many alike)) (more_lengths tables0 tables1 many as_many more);
    fewer =
        subst (λ (o : Option Phase). questions_by last tables ≤ questions_by o tables0) (sym at)
        (subst (λ (ns : List ℕ). questions_to_come last (length (left_in tables last)) ns ≤ questions_by (Some phase) tables0) (sym (alike_lengths tables1 tables as_many alike))
        (subst (λ (xs : List ℕ). questions_to_come last (length xs) (lengths tables1) ≤ questions_by (Some phase) tables0) (sym left) fewer));
  }

-- ---- what it asks

-- a sweep about which regions are left has a complete table
swept_complete : (s : State) (tables : List Table) (sweep : Sweep) → AreTables s tables (Some (Regions sweep)) → 0 < length (table_at tables sweep).left → IsTrue (table_at tables sweep).complete
swept_complete s tables sweep are some = by (table_at tables sweep).complete refl
  where
    by : (b : Bool) → (table_at tables sweep).complete ≡ b → IsTrue (table_at tables sweep).complete
    by true on = on
    by false off = absurd (let none = ap length ((are.each sweep).lacking off).1 in omega (arith, none, some))

module _ (f : View) (walk : Walk) (tables1 tables : List Table) (sweep : Sweep) (asked before from count : ℕ) (by : By) (about : List ℕ) (are : AreTables f.state tables1 (Some (Regions sweep))) (changes : Changes sweep tables1 tables)
    (count_is : count ≡ min 64 (length (table_at tables1 sweep).left)) (asked_is : table_at tables sweep ≡ record (table_at tables1 sweep) { asked = count }) (about_is : take count about ≡ take count (table_at tables1 sweep).left)
    (begin : All (λ region. place_in region ≡ 0) (take count (table_at tables1 sweep).left)) (some : 0 < length (table_at tables1 sweep).left) (none : asked ≡ 0) where
  abbrev m : Machine
  m = shown f walk tables (Some (Regions sweep)) asked before from by

  left_is : (table_at tables sweep).left ≡ (table_at tables1 sweep).left
  left_is = ap (λ (t : Table). t.left) asked_is

  regions_are : m.regions ≡ take count (table_at tables1 sweep).left
  regions_are = ap (λ (t : Table). take t.asked t.left) asked_is

  pub asks_regions : (ask : Ask) → ask ≡ sweep_ask sweep → AsksRegions m (Regions sweep) (record { ask = ask; about = about; count = count })
  asks_regions ask ask_is = record {
    sweep = sweep;
    is = refl;
    noted = complete_at tables sweep (changes.count ∙ are.count) ∙ ap (λ (t : Table). t.complete) asked_is ∙ swept_complete f.state tables1 sweep are some;
    ask = ask_is;
    some = omega (arith, count_is, some);
    most = count_is ∙ ap (λ xs. min 64 (length xs)) (sym left_is);
    about = about_is ∙ sym regions_are;
    count = let long = ap length regions_are in let took = length-take count (table_at tables1 sweep).left in omega (arith, long, took, count_is);
    begin = subst (All (λ region. place_in region ≡ 0)) (sym regions_are) begin;
    asked = none;
  }

  pub asked_alike : AreAlike tables1 tables
  asked_alike = alike_one tables1 tables sweep changes (ap (λ (t : Table). t.complete) asked_is) (ap (λ (t : Table). t.order) asked_is)

  pub asked_tables : AreTables f.state tables (Some (Regions sweep))
  asked_tables = record {
    each = λ other.
        ⊎_elim
        (λ (same : other ≡ sweep).
        let one = are.each sweep in
        subst (λ w. IsTable w f.state (table_at tables w) (Some (Regions sweep))) (sym same)
        (record {
          noted = λ complete. subst (AreNoted sweep f.state) (sym (ap (λ (t : Table). t.order) asked_is)) (one.noted (sym (ap (λ (t : Table). t.complete) asked_is) ∙ complete));
          whole = λ at complete. ap (λ (t : Table). keys_of t.told ++ t.left) asked_is ∙ one.whole refl (sym (ap (λ (t : Table). t.complete) asked_is) ∙ complete) ∙ ap (λ (t : Table). keys_of t.order) (sym asked_is);
          idle = λ not. absurd (not refl);
          lacking = λ off. absurd (true≢false (sym (ap (λ (t : Table). t.complete) asked_is ∙ swept_complete f.state tables1 sweep are some) ∙ off));
        }))
        (λ (ne : other ≢ sweep). subst (λ (t : Table). IsTable other f.state t (Some (Regions sweep))) (sym (changes.others other ne)) (are.each other))
        (cases_sweep other sweep);
    count = changes.count ∙ are.count;
  }

-- a question about items
module _ (f : View) (walk : Walk) (tables : List Table) (phase : Phase) (last : Option Phase) (asked before from : ℕ) (by : By) (at : last ≡ Some phase) (not : is_sweep phase ≡ false) (many : length tables ≡ 7) (lacks : Lacks last tables) where
  pub asks_items : (q : Question) → asked ≡ q.count → IsQuestion phase walk.left q → AsksItems (shown f walk tables last asked before from by) phase q
  asks_items q asked_is question = record {
    others = λ sweep is. complete_at tables sweep many ∙ lacks sweep (at ∙ ap Some is);
    question = question;
    asked = asked_is;
    regions = ap (λ (o : Option Phase). take (asked_in tables o) (left_in tables o)) at ∙ ap (take (asked_in tables (Some phase))) (left_other tables phase not) ∙ take-nil (asked_in tables (Some phase));
  }

-- ---- what is heard before it goes on

module _ (old mid new : Machine) (heard : Heard) (phase : Phase) (next : Next) (was : old.phase ≡ Some phase) (same_phase : mid.phase ≡ old.phase) (on : going_of mid ≡ heard_by phase old.regions heard (going_of old)) (same_before : mid.before ≡ old.before) (same_from : mid.from ≡ old.from)
    (same_by : mid.by ≡ old.by) (same_noted : mid.noted ≡ old.noted) (same_tabled : mid.tabled ≡ old.tabled) (no_more : questions_left mid ≤ questions_left old) (goes : GoesTo mid (Answers []) new next) where
  pub after_heard : GoesTo old heard new next
  after_heard =
      let fewer = goes.fewer in
      let at : goes.phase ≡ phase = same_Some goes.phase phase (sym goes.was ∙ same_phase ∙ was) in
      let went : GoesOn mid.from goes.phase (going_of mid) new.phase (going_of new) = subst (λ (g : Going). GoesOn mid.from goes.phase g new.phase (going_of new)) (heard_answers goes.phase mid.regions [] (going_of mid)) goes.goes in
      let here : GoesOn old.from phase (going_of mid) new.phase (going_of new) = subst (λ n. GoesOn n phase (going_of mid) new.phase (going_of new)) same_from (subst (λ (p : Phase). GoesOn mid.from p (going_of mid) new.phase (going_of new)) at went) in
      record {
        phase = phase;
        was = was;
        goes = subst (λ (g : Going). GoesOn old.from phase g new.phase (going_of new)) on here;
        tells = goes.tells;
        before = goes.before ∙ same_before;
        from = goes.from ∙ same_from;
        by = goes.by ∙ same_by;
        noted = goes.noted ∙ same_noted;
        tabled = subst (λ ns. AreFewer ns new.tabled) same_tabled goes.tabled;
        fewer = omega (arith, fewer, no_more);
      }

-- ---- a machine is opened

none_of : (sweep : Sweep) (n : ℕ) → IsOfSweep sweep opening n → ⊥
none_of sweeps.ShortCleanups n (number, c, at, on, is) = none-some c (sym (get-empty nat_cmp number) ∙ at)
none_of sweeps.ShortTargets n (word, at) = none-some n (sym (get-empty nat_cmp word) ∙ at)
none_of sweeps.Objects n h = true≢false (sym h ∙ ap is_some (get-empty nat_cmp n))
none_of sweeps.LongTargets n (word, at) = none-some n (sym (get-empty nat_cmp word) ∙ at)
none_of sweeps.ShortHolders n h = true≢false (sym h ∙ ap is_some (get-empty nat_cmp n))
none_of sweeps.LongHolders n h = true≢false (sym h ∙ ap is_some (get-empty nat_cmp n))
none_of sweeps.LongCleanups n (number, c, at, on, is) = none-some c (sym (get-empty nat_cmp number) ∙ at)

abbrev fresh_tables : By → List Table
fresh_tables by = map (λ complete. record no_regions { complete = complete }) (noted_by by)

fresh_table : (sweep : Sweep) (b : Bool) → IsTable sweep opening (record no_regions { complete = b }) None
fresh_table sweep b = record { noted = λ complete n is_of. absurd (none_of sweep n is_of); whole = λ at complete. absurd (none-some (Regions sweep) at); idle = λ not. (refl, refl, refl); lacking = λ off. (refl, refl, refl) }

fresh_each : (by : By) (sweep : Sweep) → IsTable sweep opening (table_at (fresh_tables by) sweep) None
fresh_each by sweeps.ShortCleanups = fresh_table sweeps.ShortCleanups by.marks
fresh_each by sweeps.ShortTargets = fresh_table sweeps.ShortTargets by.marks
fresh_each by sweeps.Objects = fresh_table sweeps.Objects by.marks
fresh_each by sweeps.LongTargets = fresh_table sweeps.LongTargets by.marks
fresh_each by sweeps.ShortHolders = fresh_table sweeps.ShortHolders by.live
fresh_each by sweeps.LongHolders = fresh_table sweeps.LongHolders by.live
fresh_each by sweeps.LongCleanups = fresh_table sweeps.LongCleanups by.marks

pub opened_tables : (s : State) (by : By) (tables : List Table) → s ≡ opening → tables ≡ fresh_tables by → AreTables s tables None
opened_tables s by tables s_is is = subst (λ (ts : List Table). AreTables s ts None) (sym is) (subst (λ (t : State). AreTables t (fresh_tables by) None) (sym s_is) (record { each = fresh_each by; count = refl }))

-- a list that is written whole
pub rewritten : (len : ℕ) (old new : List Table) → len ≡ length old → length new ≡ length old → take len (new ++ drop (length new) old) ≡ new
rewritten len old new is same =
    ap (λ xs. take len (new ++ xs)) (drop_all (length new) old (omega (arith, same))) ∙ ap (take len) (append-nil new) ∙ take_all len new (omega (arith, is, same))

-- a question about regions isn't asked again
pub fewer_after : (n m : ℕ) → m ≡ n - min 64 n → 0 < min 64 n → questions_of m < questions_of n
fewer_after n m is some = omega (arith, is, some)

-- the lists when a pass ends early
pub stopped_rooms : (b : Bool) (s : State) (walk new : Walk) → new.room ≡ cond b walk.other walk.room → new.other ≡ cond b walk.room walk.other → new.off_room ≡ walk.off_room → HaveRoom b s walk → HaveRoom false s new
stopped_rooms true s walk new main rows off h = record { main = subst (HasRoom s) (sym main) h.main; rows = subst (λ n. ephemerons_in s ≤ n) (sym rows) h.rows; off = subst (λ n. ephemerons_in s ≤ n) (sym off) h.off }
stopped_rooms false s walk new main rows off h = record { main = subst (HasRoom s) (sym main) h.main; rows = subst (λ n. ephemerons_in s ≤ n) (sym rows) h.rows; off = subst (λ n. ephemerons_in s ≤ n) (sym off) h.off }

-- the same where the tables are written whole
module _ {X : Type 0} (P : List Table → X → Type 0) where
  pub as_rewritten : (x : X) (len : ℕ) (old new : List Table) → len ≡ length old → length new ≡ length old → P new x → P (take len (new ++ drop (length new) old)) x
  as_rewritten x len old new is same h = subst (λ ts. P ts x) (sym (rewritten len old new is same)) h

pub same_alike : (tables : List Table) → AreAlike tables tables
same_alike tables = record { complete = λ sweep. refl; order = λ sweep. refl; count = refl }

-- no phase behind a sweep is one
pub no_lacks : (sweep : Sweep) (o : Option Phase) (tables : List Table) → o ≡ Some (Regions sweep) → Lacks o tables
no_lacks sweep o tables at other is = absurd (not_swept sweep other (same_Some (Regions sweep) (swept other) (sym at ∙ is)))

pub no_asks : (sweep : Sweep) (o : Option Phase) → o ≡ Some (Regions sweep) → AsksNone o 0
no_asks sweep o at = subst (λ (p : Option Phase). AsksNone p 0) (sym at) refl

pub no_asks_at : (phase : Phase) (o : Option Phase) (asked : ℕ) → o ≡ Some phase → is_sweep phase ≡ false → AsksNone o asked
no_asks_at phase o asked at not = subst (λ (p : Option Phase). AsksNone p asked) (sym at) (by phase not)
  where
    by : (p : Phase) → is_sweep p ≡ false → AsksNone (Some p) asked
    by (Regions sweep) off = absurd (true≢false off)
    by p off = tt

pub item_asked : (phase : Phase) (items : List Item) (regions : List ℕ) → is_sweep phase ≡ false → HasAsk phase items regions → (item : Item) × (slice_get items 0 ≡ Some item) × IsTrue (is_some (asks phase item))
item_asked (Regions sweep) items regions off h = absurd (true≢false off)
item_asked phase items regions off h = h

pub region_left : (phase : Phase) (sweep : Sweep) (items : List Item) (tables : List Table) → phase ≡ Regions sweep → HasAsk phase items (left_in tables (Some phase)) → 0 < length (table_at tables sweep).left
region_left phase sweep items tables is h = subst (λ (p : Phase). HasAsk p items (left_in tables (Some p))) is h

-- ---- a machine goes on, and its tables are written back

module _ (m0 : Machine) (f0 f : View) (walk0 walk : Walk) (tables0 tables1 lent : List Table) (was last : Option Phase) (phase : Phase) (asked0 before from len : ℕ) (by : By) (view_is : shown f0 walk0 tables0 was asked0 before from by ≡ m0) (required : m0.phase ≡ Some phase) (given : lent ≡ tables0)
    (lent_goes : GoesOn from phase (going f0 walk0 (told_in lent (Some phase))) last (going f walk (told_in tables1 last))) (lent_more : AreNoMore lent tables1) (lent_fewer : questions_by last tables1 ≤ questions_by (Some phase) lent) (many : length tables0 ≡ 7) (as_many : length tables1 ≡ 7) (long : len ≡ length tables0) where
  at_first : was ≡ Some phase
  at_first = ap (λ (m : Machine). m.phase) view_is ∙ required

  goes : GoesOn from phase (going f0 walk0 (told_in tables0 (Some phase))) last (going f walk (told_in tables1 last))
  goes = subst (λ (ts : List Table). GoesOn from phase (going f0 walk0 (told_in ts (Some phase))) last (going f walk (told_in tables1 last))) given lent_goes

  more : AreNoMore tables0 tables1
  more = subst (λ (ts : List Table). AreNoMore ts tables1) given lent_more

  fewer : questions_by last tables1 ≤ questions_by (Some phase) tables0
  fewer = subst (λ (ts : List Table). questions_by last tables1 ≤ questions_by (Some phase) ts) given lent_fewer

  pub whole_once : take len (tables1 ++ drop (length tables1) tables0) ≡ tables1
  whole_once = rewritten len tables0 tables1 long (as_many ∙ sym many)

  -- a question, or the end, by which no table changes
  pub went : (asked : ℕ) (n : Next) → Tells (shown f walk tables1 last asked before from by) n → GoesTo m0 (Answers []) (shown f walk (take len (tables1 ++ drop (length tables1) tables0)) last asked before from by) n
  went asked n tells =
      subst (λ (ts : List Table). GoesTo m0 (Answers []) (shown f walk ts last asked before from by) n) (sym whole_once)
      (subst (λ (m : Machine). GoesTo m (Answers []) (shown f walk tables1 last asked before from by) n) view_is
      (goes_to f0 f walk0 walk tables0 tables1 tables1 was last phase asked0 asked before from by at_first goes refl refl many as_many more (same_alike tables1) fewer n tells))

  -- a question about regions
  module _ (tables2 : List Table) (alike : AreAlike tables1 tables2) where
    pub whole_twice : take len (tables2 ++ drop (length tables2) (take len (tables1 ++ drop (length tables1) tables0))) ≡ tables2
    whole_twice = ap (λ ts. take len (tables2 ++ drop (length tables2) ts)) whole_once ∙ rewritten len tables1 tables2 (long ∙ many ∙ sym as_many) alike.count

    pub went_on : (n : Next) → told_in tables2 last ≡ told_in tables1 last → left_in tables2 last ≡ left_in tables1 last → Tells (shown f walk tables2 last 0 before from by) n
        → GoesTo m0 (Answers []) (shown f walk (take len (tables2 ++ drop (length tables2) (take len (tables1 ++ drop (length tables1) tables0)))) last 0 before from by) n
    went_on n told left tells =
        subst (λ (ts : List Table). GoesTo m0 (Answers []) (shown f walk ts last 0 before from by) n) (sym whole_twice)
        (subst (λ (m : Machine). GoesTo m (Answers []) (shown f walk tables2 last 0 before from by) n) view_is
        (goes_to f0 f walk0 walk tables0 tables1 tables2 was last phase asked0 0 before from by at_first goes told left many as_many more alike fewer n tells))

-- ---- answers about items

module _ (f g : View) (walk new : Walk) (tables : List Table) (was : Option Phase) (phase : Phase) (answers : List Bool) (order : IsInOrder f.state walk tables was) (at : was ≡ Some phase) (heard : going g new [] ≡ steps phase answers (going f walk [])) (room_off : HasRoomOff (settles phase) new) (room : IsSameRoom walk new) where
  pub answered_in_order : IsInOrder g.state new tables was
  answered_in_order =
      let same = ap (λ (k : Going). k.finalizers) heard in
      record {
        room = rooms_as (settles_in was) g.state walk new room (rooms_of (settles_in was) (steps phase answers (going f walk [])).finalizers g.state walk same (steps_rooms (settles_in was) walk phase answers (going f walk []) order.room));
        room_off = subst (λ (o : Option Phase). HasRoomOffIn o new) (sym at) room_off;
        tables = tables_less f.state g.state tables was (λ sweep n is. steps_less f.state phase answers (going f walk []) (less_same f.state) sweep n (subst (λ (s : State). IsOfSweep sweep s n) same is)) order.tables;
      }

pub answered_on : (f g : View) (walk new : Walk) (phase : Phase) (regions : List ℕ) (answers as_asked : List Bool) (told : List (ℕ × ℕ)) → answers ≡ as_asked → going g new [] ≡ steps phase answers (going f walk []) → going g new told ≡ heard_by phase regions (Answers as_asked) (going f walk told)
answered_on f g walk new phase regions answers as_asked told same heard =
    ap (λ (k : Going). record k { told = told }) heard ∙ sym (steps_told phase told answers (going f walk [])) ∙ ap (λ xs. steps phase xs (going f walk told)) same ∙ sym (heard_answers phase regions as_asked (going f walk told))

-- ---- words about regions

module _ (f : View) (walk : Walk) (old new : List Table) (words : List ℕ) where
  words_at : (phase : Phase) → told_in new (Some phase) ≡ told_in old (Some phase) ++ zip (take (asked_in old (Some phase)) (left_in old (Some phase))) words
      → going f walk (told_in new (Some phase)) ≡ heard_by phase (take (asked_in old (Some phase)) (left_in old (Some phase))) (Words words) (going f walk (told_in old (Some phase)))
  words_at (Regions sweep) is = ap (going f walk) is
  words_at phase is = refl

  pub words_on : (was : Option Phase) (phase : Phase) → was ≡ Some phase → told_in new (Some phase) ≡ told_in old (Some phase) ++ zip (take (asked_in old (Some phase)) (left_in old (Some phase))) words
      → going f walk (told_in new was) ≡ heard_by phase (take (asked_in old was) (left_in old was)) (Words words) (going f walk (told_in old was))
  words_on was phase at is = subst (λ (o : Option Phase). going f walk (told_in new o) ≡ heard_by phase (take (asked_in old o) (left_in old o)) (Words words) (going f walk (told_in old o))) (sym at) (words_at phase is)

module _ (old new : List Table) (phase : Phase) (many : length old ≡ 7) (alike : AreAlike old new) (left : left_in new (Some phase) ≡ drop (min (asked_in old (Some phase)) 64) (left_in old (Some phase))) where
  long : length (left_in new (Some phase)) ≡ length (left_in old (Some phase)) - min (asked_in old (Some phase)) 64
  long = ap length left ∙ length-drop (min (asked_in old (Some phase)) 64) (left_in old (Some phase))

  same_to_come : questions_by (Some phase) new ≡ questions_to_come (Some phase) (length (left_in new (Some phase))) (lengths old)
  same_to_come = ap (questions_to_come (Some phase) (length (left_in new (Some phase)))) (alike_lengths old new many alike)

  pub heard_no_more : questions_by (Some phase) new ≤ questions_by (Some phase) old
  heard_no_more =
      let less = more_questions (length (left_in new (Some phase))) (length (left_in old (Some phase))) (let is = long in omega (arith, is)) in
      let same = same_to_come in
      omega (arith, less, same)

  -- those of a question are passed over
  pub heard_fewer : length (take (asked_in old (Some phase)) (left_in old (Some phase))) ≡ min 64 (length (left_in old (Some phase))) → 0 < min 64 (length (left_in old (Some phase))) → questions_by (Some phase) new < questions_by (Some phase) old
  heard_fewer most some =
      let took = length-take (asked_in old (Some phase)) (left_in old (Some phase)) in
      let is = long in
      let less = fewer_after (length (left_in old (Some phase))) (length (left_in new (Some phase))) (omega (arith, took, is, most)) some in
      let same = same_to_come in
      omega (arith, less, same)

-- the same where the tables are written back
pub alike_lacks : (was : Option Phase) (old new : List Table) → AreAlike old new → Lacks was old → Lacks was new
alike_lacks was old new alike lacks sweep is = alike.complete sweep ∙ lacks sweep is
