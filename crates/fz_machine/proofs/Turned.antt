-- From one phase to the next, with the tables of regions.
use Rattle.std.proofs.Common.{All, ◌≡◌, ◌≢◌, ◌⊎◌, ℕ, suc, ◌+◌, ◌<◌, ◌≤◌, ◌++◌, Bool, true, false, true≢false, cond, is_some, List, [], ◌∷◌, map, drop, length, slice_get, Option, Some, None, IsTrue, inl, inr, refl, sym, ap, subst, ◌∙◌, ⊎_elim, append-nil, arith}
use Rattle.std.proofs.lemmas.List.{drop_all, length-append, length-map}
use Rattle.std.proofs.lemmas.Option.{none-some, same_Some}
use Rattle.std.specs.Map.{keys_of}
use Rattle.fz_finalizers.specs.States.{State, View}
use Rattle.fz_machine.specs.declared.item.Item.{Item}
use Rattle.fz_machine.specs.declared.phase.Moment.TheVariants.{First, Led, Picked, Last}
use Rattle.fz_machine.specs.declared.phase.Phase.{Phase}
use Rattle.fz_machine.specs.declared.phase.Phase.TheVariants.{Keys, KeysAgain, Holders, Values, Regions, ShortCleanups, ShortTargets, ShortWords, ShortKeys, ShortKeyWords, Objects, Children, Again, Picks, Entries, LateAgain, LatePicks, LongTargets, LongWords, LongKeys, LongKeyWords, ShortHolders, LongHolders, ShortKeyHolders, LongKeyHolders, LongCleanups}
use Rattle.fz_machine.specs.declared.phase.Sweep.{Sweep}
use Rattle.fz_machine.specs.declared.phase.Sweep.TheVariants as sweeps
use Rattle.fz_machine.specs.Going.{AreNoMore, AreReady, AreTables, Changes, HasAsk, HasRoomOff, HaveRoom, IsListed, IsTable, emptied, follows_settling, going, left_in, questions_by, questions_in, questions_of, swept_by, told_for, told_in}
use Rattle.fz_machine.proofs.Among.{Each, each_from}
use Rattle.fz_machine.specs.Phases.{behind, Lists, ask_of, asks, is_known, given, is_swept, next_phase, settles, swept}
use Rattle.fz_machine.specs.Regions.{Regions as Table, AreNoted, IsRenoted, IsTold, IsUntold, begun, index_of, table_at}
use Rattle.fz_machine.specs.Steps.{Begins, Going, GoesOn, Sweeps, skip, skipped, step, stepped, steps}
use Rattle.fz_machine.specs.Walks.{Walk}
use Rattle.fz_machine.proofs.Less.{IsLess}
use Rattle.fz_machine.proofs.Renoted.{known_listed}
use Rattle.fz_machine.proofs.Beside.{rows_grown, rows_resumed}
use Rattle.fz_machine.proofs.Rooms.{rooms_grown}
use Rattle.fz_machine.proofs.Stepping.{skip_stops}
use Rattle.fz_machine.proofs.Tabled.{begun_questions, cases_sweep, fewer_map, fewer_questions, more_questions}

-- ---- what was told stays, whatever is answered

module _ (phase : Phase) (told : List (ℕ × ℕ)) where
  stepped_told : (answer : Bool) (g : Going) (xs : List Item) → stepped phase answer (record g { told = told }) xs ≡ record (stepped phase answer g xs) { told = told }
  stepped_told answer g [] = refl
  stepped_told answer g (x ∷ xs) = refl

  step_told : (answer : Bool) (g : Going) → step phase answer (record g { told = told }) ≡ record (step phase answer g) { told = told }
  step_told answer g = stepped_told answer g g.left

  pub steps_told : (answers : List Bool) (g : Going) → steps phase answers (record g { told = told }) ≡ record (steps phase answers g) { told = told }
  steps_told [] g = refl
  steps_told (answer ∷ answers) g = ap (steps phase answers) (step_told answer g) ∙ steps_told answers (step phase answer g)

  skipped_told : (xs : List Item) (g : Going) → skipped phase xs (record g { told = told }) ≡ record (skipped phase xs g) { told = told }
  skipped_told [] g = refl
  skipped_told (x ∷ xs) g = ap (λ k. cond (is_some (asks phase x)) (record g { told = told }) k) (ap (skipped phase xs) (step_told false g) ∙ skipped_told xs (step phase false g)) ∙ by (is_some (asks phase x)) (skipped phase xs (step phase false g))
    where
      by : (b : Bool) (k : Going) → cond b (record g { told = told }) (record k { told = told }) ≡ record (cond b g k) { told = told }
      by true k = refl
      by false k = refl

  pub skip_told : (g : Going) → skip phase (record g { told = told }) ≡ record (skip phase g) { told = told }
  skip_told g = skipped_told g.left g

-- ---- what a phase asks

abbrev pub is_sweep : Phase → Bool
is_sweep (Regions sweep) = true
is_sweep phase = false

-- a region is left
pub sweeps_on : (tables : List Table) (phase : Phase) → is_some (slice_get (left_in tables (Some phase)) 0) ≡ true → (from : ℕ) (g : Going) → GoesOn from phase g (Some phase) g
sweeps_on tables (Regions sweep) some from g = Sweeps
sweeps_on tables phase some from g = absurd (true≢false (sym some))

pub has_region : (tables : List Table) (phase : Phase) (items : List Item) → is_some (slice_get (left_in tables (Some phase)) 0) ≡ true → HasAsk phase items (left_in tables (Some phase))
has_region tables (Regions sweep) items some = by (table_at tables sweep).left some
  where
    by : (xs : List ℕ) → is_some (slice_get xs 0) ≡ true → 0 < length xs
    by [] h = absurd (true≢false (sym h))
    by (x ∷ xs) h = omega arith
has_region tables phase items some = absurd (true≢false (sym some))

-- an item is
pub has_item : (phase : Phase) (items : List Item) (regions : List ℕ) (item : Item) → slice_get items 0 ≡ Some item → is_some (asks phase item) ≡ true → HasAsk phase items regions
has_item (Regions sweep) items regions item at some = absurd (true≢false (sym some))
has_item phase items regions item at some = (item, at, some)

pub has_first : (phase : Phase) (g : Going) (items : List Item) (regions : List ℕ) → items ≡ (skip phase g).left → is_some (slice_get items 0) ≡ true → HasAsk phase items regions
has_first phase g [] regions is some = absurd (true≢false (sym some))
has_first phase g (item ∷ items) regions is some = has_item phase (item ∷ items) regions item refl (skip_stops phase g item items (sym is))

pub no_regions_left : (regions : List ℕ) → is_some (slice_get regions 0) ≡ false → regions ≡ []
no_regions_left [] none = refl
no_regions_left (region ∷ regions) none = absurd (true≢false none)

-- ---- what is known is skipped

known_asks : (sweep : Sweep) (item : Item) → IsTrue item.known → is_some (asks (swept sweep) item) ≡ false
known_asks sweep item known = ap is_some (ap (λ b. cond b None (ask_of (swept sweep) item)) (is_known_swept sweep))
  where
    is_known_swept : (w : Sweep) → is_known (swept w) item ≡ true
    is_known_swept sweeps.ShortCleanups = known
    is_known_swept sweeps.ShortTargets = known
    is_known_swept sweeps.Objects = known
    is_known_swept sweeps.LongTargets = known
    is_known_swept sweeps.ShortHolders = known
    is_known_swept sweeps.LongHolders = known
    is_known_swept sweeps.LongCleanups = known

skipped_known : (sweep : Sweep) (xs : List Item) (g : Going) → g.left ≡ xs → Each (λ (item : Item). IsTrue item.known) xs → (skipped (swept sweep) xs g).left ≡ []
skipped_known sweep [] g is h = is
skipped_known sweep (x ∷ xs) g is h =
    ap (λ b. (cond b g (skipped (swept sweep) xs (step (swept sweep) false g))).left) (known_asks sweep x h.0)
    ∙ skipped_known sweep xs (step (swept sweep) false g) (ap (λ ys. (stepped (swept sweep) false g ys).left) is) h.1

pub skip_known : (phase : Phase) (sweep : Sweep) (g : Going) → phase ≡ swept sweep → All (λ (item : Item). IsTrue item.known) g.left → (skip phase g).left ≡ []
skip_known phase sweep g is all = ap (λ (p : Phase). (skip p g).left) is ∙ skipped_known sweep g.left g refl (each_from (λ (item : Item). IsTrue item.known) g.left all)

pub no_region_behind : (tables : List Table) (phase : Phase) (sweep : Sweep) → phase ≡ swept sweep → left_in tables (Some phase) ≡ []
no_region_behind tables phase sweep is = ap (λ (p : Phase). left_in tables (Some p)) is ∙ by sweep
  where
    by : (w : Sweep) → left_in tables (Some (swept w)) ≡ []
    by sweeps.ShortCleanups = refl
    by sweeps.ShortTargets = refl
    by sweeps.Objects = refl
    by sweeps.LongTargets = refl
    by sweeps.ShortHolders = refl
    by sweeps.LongHolders = refl
    by sweeps.LongCleanups = refl

-- ---- fewer items are noted still

pub tables_less : (s t : State) (tables : List Table) (phase : Option Phase) → IsLess s t → AreTables s tables phase → AreTables t tables phase
tables_less s t tables phase less are = record {
  each = λ sweep. let one = are.each sweep in record { noted = λ complete n is. one.noted complete n (less sweep n is); whole = one.whole; idle = one.idle; lacking = one.lacking };
  count = are.count;
}

-- ---- a sweep begins

pub not_swept : (sweep other : Sweep) → Regions sweep ≡ swept other → ⊥
not_swept sweep sweeps.ShortCleanups is = true≢false (ap is_sweep is)
not_swept sweep sweeps.ShortTargets is = true≢false (ap is_sweep is)
not_swept sweep sweeps.Objects is = true≢false (ap is_sweep is)
not_swept sweep sweeps.LongTargets is = true≢false (ap is_sweep is)
not_swept sweep sweeps.ShortHolders is = true≢false (ap is_sweep is)
not_swept sweep sweeps.LongHolders is = true≢false (ap is_sweep is)
not_swept sweep sweeps.LongCleanups is = true≢false (ap is_sweep is)

abbrev sweep_of : Sweep → Phase → Sweep
sweep_of other (Regions sweep) = sweep
sweep_of other phase = other

-- which phase a sweep is
pub same_sweep : (a b : Sweep) → Some (Regions a) ≡ Some (Regions b) → a ≡ b
same_sweep a b is = ap (sweep_of a) (same_Some (Regions a) (Regions b) is)

module _ (s : State) (old new : List Table) (sweep : Sweep) (ready : AreReady s old (Regions sweep)) (changes : Changes sweep old new) (is : table_at new sweep ≡ begun (table_at old sweep)) where
  pub sweep_tables : AreTables s new (Some (Regions sweep))
  sweep_tables = record {
    each = λ other.
        ⊎_elim
        (λ (same : other ≡ sweep).
        subst (λ w. IsTable w s (table_at new w) (Some (Regions sweep))) (sym same)
        (record {
          noted = λ complete. subst (AreNoted sweep s) (sym (ap (λ (t : Table). t.order) is)) (ready.noted sweep (sym (ap (λ (t : Table). t.complete) is) ∙ complete));
          whole = λ at complete.
              ap (λ (t : Table). keys_of t.told ++ t.left) is ∙ ap (λ b. cond b (keys_of (table_at old sweep).order) []) (sym (ap (λ (t : Table). t.complete) is) ∙ complete) ∙ sym (ap (λ (t : Table). keys_of t.order) is);
          idle = λ not. absurd (not refl);
          lacking = λ off. (ap (λ (t : Table). t.told) is, ap (λ (t : Table). t.left) is ∙ ap (λ b. cond b (keys_of (table_at old sweep).order) []) (sym (ap (λ (t : Table). t.complete) is) ∙ off), ap (λ (t : Table). t.asked) is);
        }))
        (λ (ne : other ≢ sweep).
        subst (λ (t : Table). IsTable other s t (Some (Regions sweep))) (sym (changes.others other ne))
        (record { noted = ready.noted other; whole = λ at complete. absurd (ne (sym (same_sweep sweep other at))); idle = λ not. ready.untold other (not_swept sweep other); lacking = λ off. ready.untold other (not_swept sweep other) }))
        (cases_sweep other sweep);
    count = changes.count ∙ ready.count;
  }

  pub sweep_more : AreNoMore old new
  sweep_more = record {
    complete = λ other. ⊎_elim (λ (same : other ≡ sweep). subst (λ w. (table_at new w).complete ≡ (table_at old w).complete) (sym same) (ap (λ (t : Table). t.complete) is)) (λ (ne : other ≢ sweep). ap (λ (t : Table). t.complete) (changes.others other ne)) (cases_sweep other sweep);
    fewer = λ other. ⊎_elim (λ (same : other ≡ sweep). subst (λ w. length (table_at new w).order ≤ length (table_at old w).order) (sym same) (let long = ap (λ (t : Table). length t.order) is in omega (arith, long))) (λ (ne : other ≢ sweep). let long = ap (λ (t : Table). length t.order) (changes.others other ne) in omega (arith, long)) (cases_sweep other sweep);
  }

module _ (from : ℕ) (f : View) (walk new : Walk) where
  pub sweep_begins : (sweep : Sweep) → new ≡ emptied sweep walk → Begins from (Regions sweep) (going f walk []) (going f new [])
  sweep_begins sweep is = subst (λ (w : Walk). Begins from (Regions sweep) (going f walk []) (going f w [])) (sym is) (by sweep)
    where
      by : (w : Sweep) → Begins from (Regions w) (going f walk []) (going f (emptied w walk) [])
      by sweeps.ShortCleanups = record { same = refl; none = refl; lists = refl; aside = refl; off = refl; told = refl }
      by sweeps.ShortTargets = record { same = refl; none = refl; lists = refl; aside = refl; off = refl; told = refl }
      by sweeps.Objects = record { same = refl; none = refl; lists = refl; aside = refl; off = refl; told = refl }
      by sweeps.LongTargets = record { same = refl; none = refl; lists = refl; aside = refl; off = refl; told = refl }
      by sweeps.ShortHolders = record { same = refl; none = refl; lists = refl; aside = refl; off = refl; told = refl }
      by sweeps.LongHolders = record { same = refl; none = refl; lists = refl; aside = refl; off = refl; told = refl }
      by sweeps.LongCleanups = record { same = refl; none = refl; lists = refl; aside = refl; off = refl; told = refl }

  pub sweep_room : (s : State) (sweep : Sweep) → new ≡ emptied sweep walk → HaveRoom (follows_settling (Regions sweep)) s walk → HaveRoom false s new
  sweep_room s sweep is = subst (λ (w : Walk). HaveRoom (follows_settling (Regions sweep)) s walk → HaveRoom false s w) (sym is) (by sweep)
    where
      by : (w : Sweep) → HaveRoom (follows_settling (Regions w)) s walk → HaveRoom false s (emptied w walk)
      by sweeps.ShortCleanups h = record { main = h.main; rows = h.rows; off = h.off }
      by sweeps.ShortTargets h = record { main = h.main; rows = h.rows; off = h.off }
      by sweeps.Objects h = record { main = h.main; rows = h.rows; off = h.off }
      by sweeps.LongTargets h = record { main = h.main; rows = h.rows; off = h.off }
      by sweeps.ShortHolders h = record { main = h.main; rows = h.rows; off = h.off }
      by sweeps.LongHolders h = record { main = h.main; rows = h.rows; off = h.off }
      by sweeps.LongCleanups h = record { main = h.main; rows = h.rows; off = h.off }

  pub sweep_room_off : (sweep : Sweep) → new ≡ emptied sweep walk → HasRoomOff (follows_settling (Regions sweep)) walk → HasRoomOff false new
  sweep_room_off sweep is = subst (λ (w : Walk). HasRoomOff (follows_settling (Regions sweep)) walk → HasRoomOff false w) (sym is) (by sweep)
    where
      by : (w : Sweep) → HasRoomOff (follows_settling (Regions w)) walk → HasRoomOff false (emptied w walk)
      by sweeps.ShortCleanups h = rows_resumed walk h
      by sweeps.ShortTargets h = h
      by sweeps.Objects h = h
      by sweeps.LongTargets h = rows_resumed walk h
      by sweeps.ShortHolders h = h
      by sweeps.LongHolders h = h
      by sweeps.LongCleanups h = h

-- ---- the phase behind a sweep begins

swept_once : (a b : Sweep) → swept a ≡ swept b → a ≡ b
swept_once a b is = sym (back a) ∙ ap to is ∙ back b
  where
    to : Phase → Sweep
    to ShortCleanups = sweeps.ShortCleanups
    to ShortTargets = sweeps.ShortTargets
    to Objects = sweeps.Objects
    to LongTargets = sweeps.LongTargets
    to ShortHolders = sweeps.ShortHolders
    to LongHolders = sweeps.LongHolders
    to phase = sweeps.LongCleanups

    back : (w : Sweep) → to (swept w) ≡ w
    back sweeps.ShortCleanups = refl
    back sweeps.ShortTargets = refl
    back sweeps.Objects = refl
    back sweeps.LongTargets = refl
    back sweeps.ShortHolders = refl
    back sweeps.LongHolders = refl
    back sweeps.LongCleanups = refl

not_regions : (phase : Phase) (other : Sweep) → is_sweep phase ≡ false → Some phase ≡ Some (Regions other) → ⊥
not_regions phase other off is = true≢false (sym (ap is_sweep (same_Some phase (Regions other) is)) ∙ off)

pub swept_no_sweep : (w : Sweep) → is_sweep (swept w) ≡ false
swept_no_sweep sweeps.ShortCleanups = refl
swept_no_sweep sweeps.ShortTargets = refl
swept_no_sweep sweeps.Objects = refl
swept_no_sweep sweeps.LongTargets = refl
swept_no_sweep sweeps.ShortHolders = refl
swept_no_sweep sweeps.LongHolders = refl
swept_no_sweep sweeps.LongCleanups = refl

-- where nothing is told, a phase that is no sweep goes on with these tables
pub plain_tables : (s : State) (tables : List Table) (phase : Phase) → is_sweep phase ≡ false → ((sweep : Sweep) → IsTrue (table_at tables sweep).complete → AreNoted sweep s (table_at tables sweep).order) → ((sweep : Sweep) → IsUntold (table_at tables sweep)) → length tables ≡ 7
    → AreTables s tables (Some phase)
plain_tables s tables phase off noted untold count = record {
  each = λ sweep. record { noted = noted sweep; whole = λ at complete. absurd (not_regions phase sweep off at); idle = λ not. untold sweep; lacking = λ none. untold sweep };
  count = count;
}

module _ (s : State) (old new : List Table) (sweep : Sweep) (ready : AreReady s old (swept sweep)) (changes : Changes sweep old new) (renoted : IsRenoted sweep s (table_at old sweep) (table_at new sweep)) where
  pub swept_tables : AreTables s new (Some (swept sweep))
  swept_tables =
      plain_tables s new (swept sweep) (swept_no_sweep sweep)
      (λ other complete. ⊎_elim (λ (same : other ≡ sweep). subst (λ w. AreNoted w s (table_at new w).order) (sym same) (renoted.noted (subst (λ w. IsTrue (table_at new w).complete) same complete)))
      (λ (ne : other ≢ sweep). subst (λ (t : Table). AreNoted other s t.order) (sym (changes.others other ne)) (ready.noted other (sym (ap (λ (t : Table). t.complete) (changes.others other ne)) ∙ complete))) (cases_sweep other sweep))
      (λ other. ⊎_elim (λ (same : other ≡ sweep). subst (λ w. IsUntold (table_at new w)) (sym same) renoted.untold)
      (λ (ne : other ≢ sweep). subst IsUntold (sym (changes.others other ne)) (ready.untold other (λ is. ne (sym (swept_once sweep other is))))) (cases_sweep other sweep))
      (changes.count ∙ ready.count)

  pub swept_more : AreNoMore old new
  swept_more = record {
    complete = λ other. ⊎_elim (λ (same : other ≡ sweep). subst (λ w. (table_at new w).complete ≡ (table_at old w).complete) (sym same) renoted.same) (λ (ne : other ≢ sweep). ap (λ (t : Table). t.complete) (changes.others other ne)) (cases_sweep other sweep);
    fewer = λ other. ⊎_elim (λ (same : other ≡ sweep). subst (λ w. length (table_at new w).order ≤ length (table_at old w).order) (sym same) renoted.fewer) (λ (ne : other ≢ sweep). let long = ap (λ (t : Table). length t.order) (changes.others other ne) in omega (arith, long)) (cases_sweep other sweep);
  }

pub same_more : (tables : List Table) → AreNoMore tables tables
same_more tables = record { complete = λ other. refl; fewer = λ other. omega arith }

pub more_twice : (old mid new : List Table) → AreNoMore old mid → AreNoMore mid new → AreNoMore old new
more_twice old mid new p q = record {
  complete = λ sweep. q.complete sweep ∙ p.complete sweep;
  fewer = λ sweep. let a = p.fewer sweep in let b = q.fewer sweep in omega (arith, a, b);
}

module _ (from : ℕ) (f : View) (walk new : Walk) (listed : IsListed walk new) where
  pub swept_begins : (sweep : Sweep) (tables : List Table) → Lists (swept sweep) from (table_at tables sweep).told f.state [] new.left → Begins from (swept sweep) (going f walk (told_for tables (swept sweep))) (going f new [])
  swept_begins sweep tables = by sweep
    where
      none : new.kept ≡ []
      none = ap (λ (w : Walk). w.kept) listed.0

      aside : new.aside ≡ walk.aside
      aside = ap (λ (w : Walk). w.aside) listed.0

      off : new.off ≡ walk.off
      off = ap (λ (w : Walk). w.off) listed.0

      by : (w : Sweep) → Lists (swept w) from (table_at tables w).told f.state [] new.left → Begins from (swept w) (going f walk (told_for tables (swept w))) (going f new [])
      by sweeps.ShortCleanups h = record { same = refl; none = none; lists = h; aside = aside; off = off; told = refl }
      by sweeps.ShortTargets h = record { same = refl; none = none; lists = h; aside = aside; off = off; told = refl }
      by sweeps.Objects h = record { same = refl; none = none; lists = h; aside = aside; off = off; told = refl }
      by sweeps.LongTargets h = record { same = refl; none = none; lists = h; aside = aside; off = off; told = refl }
      by sweeps.ShortHolders h = record { same = refl; none = none; lists = h; aside = aside; off = off; told = refl }
      by sweeps.LongHolders h = record { same = refl; none = none; lists = h; aside = aside; off = off; told = refl }
      by sweeps.LongCleanups h = record { same = refl; none = none; lists = h; aside = aside; off = off; told = refl }

  pub swept_room : (s : State) (sweep : Sweep) → HaveRoom (follows_settling (swept sweep)) s walk → HaveRoom (settles (swept sweep)) s new
  swept_room s sweep h = by sweep h
    where
      grown : HaveRoom false s walk → HaveRoom false s new
      grown h = rooms_grown false s walk new listed.1 (ap (λ (w : Walk). w.other) listed.0, ap (λ (w : Walk). w.off_room) listed.0) h

      by : (w : Sweep) → HaveRoom (follows_settling (swept w)) s walk → HaveRoom (settles (swept w)) s new
      by sweeps.ShortCleanups h = grown h
      by sweeps.ShortTargets h = grown h
      by sweeps.Objects h = grown h
      by sweeps.LongTargets h = grown h
      by sweeps.ShortHolders h = grown h
      by sweeps.LongHolders h = grown h
      by sweeps.LongCleanups h = grown h

  pub swept_room_off : (sweep : Sweep) → HasRoomOff (follows_settling (swept sweep)) walk → HasRoomOff (settles (swept sweep)) new
  swept_room_off sweeps.ShortCleanups = rows_grown walk new listed
  swept_room_off sweeps.ShortTargets = rows_grown walk new listed
  swept_room_off sweeps.Objects = rows_grown walk new listed
  swept_room_off sweeps.LongTargets = rows_grown walk new listed
  swept_room_off sweeps.ShortHolders = rows_grown walk new listed
  swept_room_off sweeps.LongHolders = rows_grown walk new listed
  swept_room_off sweeps.LongCleanups = rows_grown walk new listed

-- ---- what a phase begins with

pub swept_before : (phase : Phase) → is_swept phase ≡ false → (sweep : Sweep) → phase ≡ swept sweep → ⊥
swept_before phase off sweep is = true≢false (sym (on sweep) ∙ ap is_swept (sym is) ∙ off)
  where
    on : (w : Sweep) → is_swept (swept w) ≡ true
    on sweeps.ShortCleanups = refl
    on sweeps.ShortTargets = refl
    on sweeps.Objects = refl
    on sweeps.LongTargets = refl
    on sweeps.ShortHolders = refl
    on sweeps.LongHolders = refl
    on sweeps.LongCleanups = refl

pub nothing_told : (tables : List Table) (phase : Phase) → is_swept phase ≡ false → told_for tables phase ≡ []
nothing_told tables ShortCleanups off = absurd (true≢false off)
nothing_told tables ShortTargets off = absurd (true≢false off)
nothing_told tables Objects off = absurd (true≢false off)
nothing_told tables LongTargets off = absurd (true≢false off)
nothing_told tables ShortHolders off = absurd (true≢false off)
nothing_told tables LongHolders off = absurd (true≢false off)
nothing_told tables LongCleanups off = absurd (true≢false off)
nothing_told tables phase off = refl

told_behind : (tables : List Table) (sweep : Sweep) → (table_at tables sweep).told ≡ told_for tables (swept sweep)
told_behind tables sweeps.ShortCleanups = refl
told_behind tables sweeps.ShortTargets = refl
told_behind tables sweeps.Objects = refl
told_behind tables sweeps.LongTargets = refl
told_behind tables sweeps.ShortHolders = refl
told_behind tables sweeps.LongHolders = refl
told_behind tables sweeps.LongCleanups = refl

-- a phase behind a sweep comes from that sweep alone; and the sweep that comes is the next
abbrev Follows : Phase → Option Phase → Type 0
Follows phase None = Unit {0}
Follows phase (Some next) = (is_swept next ≡ false) × (((is_sweep next ≡ false) × (swept_by next ≡ swept_by phase)) ⊎ ((sweep : Sweep) × (next ≡ Regions sweep) × (index_of sweep ≡ swept_by phase)))

follows : (phase : Phase) (more : Bool) → is_sweep phase ≡ false → Follows phase (next_phase phase more)
follows (Keys First) more off = (refl, inl (refl, refl))
follows (KeysAgain First) more off = (refl, inl (refl, refl))
follows (Holders First) more off = (refl, inl (refl, refl))
follows (Values First) true off = (refl, inl (refl, refl))
follows (Values First) false off = (refl, inr (sweeps.ShortCleanups, refl, refl))
follows (Keys Led) more off = (refl, inl (refl, refl))
follows (KeysAgain Led) more off = (refl, inl (refl, refl))
follows (Holders Led) more off = (refl, inl (refl, refl))
follows (Values Led) true off = (refl, inl (refl, refl))
follows (Values Led) false off = (refl, inl (refl, refl))
follows (Keys Picked) more off = (refl, inl (refl, refl))
follows (KeysAgain Picked) more off = (refl, inl (refl, refl))
follows (Holders Picked) more off = (refl, inl (refl, refl))
follows (Values Picked) true off = (refl, inl (refl, refl))
follows (Values Picked) false off = (refl, inl (refl, refl))
follows (Keys Last) more off = (refl, inl (refl, refl))
follows (KeysAgain Last) more off = (refl, inl (refl, refl))
follows (Holders Last) more off = (refl, inl (refl, refl))
follows (Values Last) true off = (refl, inl (refl, refl))
follows (Values Last) false off = (refl, inr (sweeps.LongTargets, refl, refl))
follows (Regions sweep) more off = absurd (true≢false off)
follows ShortCleanups more off = (refl, inr (sweeps.ShortTargets, refl, refl))
follows ShortTargets more off = (refl, inl (refl, refl))
follows ShortWords more off = (refl, inl (refl, refl))
follows ShortKeys more off = (refl, inl (refl, refl))
follows ShortKeyWords more off = (refl, inr (sweeps.Objects, refl, refl))
follows Objects more off = (refl, inl (refl, refl))
follows Children more off = (refl, inl (refl, refl))
follows Again more off = (refl, inl (refl, refl))
follows Picks more off = (refl, inl (refl, refl))
follows Entries more off = (refl, inl (refl, refl))
follows LateAgain more off = (refl, inl (refl, refl))
follows LatePicks more off = (refl, inl (refl, refl))
follows LongTargets more off = (refl, inl (refl, refl))
follows LongWords more off = (refl, inl (refl, refl))
follows LongKeys more off = (refl, inl (refl, refl))
follows LongKeyWords more off = (refl, inr (sweeps.ShortHolders, refl, refl))
follows ShortHolders more off = (refl, inr (sweeps.LongHolders, refl, refl))
follows LongHolders more off = (refl, inl (refl, refl))
follows ShortKeyHolders more off = (refl, inl (refl, refl))
follows LongKeyHolders more off = (refl, inr (sweeps.LongCleanups, refl, refl))
follows LongCleanups more off = tt

swept_as : (sweep : Sweep) → swept_by (swept sweep) ≡ suc (index_of sweep)
swept_as sweeps.ShortCleanups = refl
swept_as sweeps.ShortTargets = refl
swept_as sweeps.Objects = refl
swept_as sweeps.LongTargets = refl
swept_as sweeps.ShortHolders = refl
swept_as sweeps.LongHolders = refl
swept_as sweeps.LongCleanups = refl

module _ (s : State) (tables : List Table) (more : Bool) (next : Phase) where
  -- nothing is left of a phase, and the next begins
  pub ready_for : (phase : Phase) → AreTables s tables (Some phase) → left_in tables (Some phase) ≡ [] → next_phase phase more ≡ Some next → AreReady s tables next
  ready_for (Regions sweep) are none is =
      let next_is : swept sweep ≡ next = same_Some (swept sweep) next is in
      subst (AreReady s tables) next_is
      (record {
        told = λ other at. subst (λ w. IsTold w s (table_at tables w)) (swept_once sweep other at)
            (let one = are.each sweep in record {
              noted = one.noted;
              whole = λ complete. sym (append-nil (keys_of (table_at tables sweep).told)) ∙ ap (λ xs. keys_of (table_at tables sweep).told ++ xs) (sym none) ∙ one.whole refl complete;
              lacking = λ off. (one.lacking off).0;
            });
        noted = λ other. (are.each other).noted;
        untold = λ other not. (are.each other).idle (λ at. not (ap swept (same_sweep sweep other at)));
        count = are.count;
      })
  ready_for phase are none is =
      let plain = subst (Follows phase) is (follows phase more refl) in record {
        told = λ other at. absurd (swept_before next plain.0 other at);
        noted = λ other. (are.each other).noted;
        untold = λ other not. (are.each other).idle (not_regions phase other refl);
        count = are.count;
      }

  pub told_still : (phase : Phase) → next_phase phase more ≡ Some next → told_in tables (Some phase) ≡ told_for tables next
  told_still (Regions sweep) is = told_behind tables sweep ∙ ap (told_for tables) (same_Some (swept sweep) next is)
  told_still phase is = let plain = subst (Follows phase) is (follows phase more refl) in sym (nothing_told tables next plain.0)

pub no_sweep : (phase : Phase) → ((sweep : Sweep) → phase ≡ Regions sweep → ⊥) → is_sweep phase ≡ false
no_sweep (Regions sweep) not = absurd (not sweep refl)
no_sweep phase not = refl

pub plain_told : (tables : List Table) (phase : Phase) → is_sweep phase ≡ false → told_in tables (Some phase) ≡ []
plain_told tables (Regions sweep) off = absurd (true≢false off)
plain_told tables phase off = refl

pub swept_told : (tables : List Table) (sweep : Sweep) → told_in tables (Some (swept sweep)) ≡ []
swept_told tables sweep = plain_told tables (swept sweep) (swept_no_sweep sweep)

-- ---- how many questions are to come

abbrev pub lengths : List Table → List ℕ
lengths tables = map (λ (t : Table). length t.order) tables

pub fewer_to_come : (old new : List Table) → length old ≡ 7 → length new ≡ 7 → AreNoMore old new → (k : ℕ) → questions_in (drop k (lengths new)) ≤ questions_in (drop k (lengths old))
fewer_to_come old new many as_many few k = fewer_questions (lengths old) (lengths new) k (fewer_map old new many as_many (λ (t : Table). length t.order) few.fewer)

-- no more regions are left than there are
pub left_within : (sweep : Sweep) (s : State) (t : Table) → IsTable sweep s t (Some (Regions sweep)) → length t.left ≤ length t.order
left_within sweep s t is = by t.complete refl
  where
    by : (b : Bool) → t.complete ≡ b → length t.left ≤ length t.order
    by true on =
        let whole = ap length (is.whole refl on) in
        let both = length-append (keys_of t.told) t.left in
        let all = length-map t.order (λ (e : ℕ × ℕ). e.0) in
        omega (arith, whole, both, all)
    by false off = let none = ap length (is.lacking off).1 in omega (arith, none)

pub left_other : (tables : List Table) (phase : Phase) → is_sweep phase ≡ false → left_in tables (Some phase) ≡ []
left_other tables (Regions sweep) off = absurd (true≢false off)
left_other tables phase off = refl

module _ (s : State) (old new : List Table) (few : AreNoMore old new) (many : length old ≡ 7) (more : Bool) (next : Phase) (are : AreTables s new (Some next)) where
  -- the same number of sweeps has begun
  same_begun : (n : ℕ) → swept_by next ≡ n → is_sweep next ≡ false → questions_by (Some next) new ≤ questions_in (drop n (lengths old))
  same_begun n is off =
      let none = ap (λ (xs : List ℕ). questions_of (length xs)) (left_other new next off) in
      let rest = fewer_to_come old new many are.count few n in
      let here = ap (λ k. questions_in (drop k (lengths new))) is in
      omega (arith, none, rest, here)

  -- the next sweep has begun
  next_begun : (sweep : Sweep) → next ≡ Regions sweep → questions_by (Some next) new ≤ questions_in (drop (index_of sweep) (lengths old))
  next_begun sweep is =
      subst (λ (p : Phase). questions_by (Some p) new ≤ questions_in (drop (index_of sweep) (lengths old))) (sym is)
      (let rest = fewer_to_come old new many are.count few (suc (index_of sweep)) in
      let first = begun_questions (λ (t : Table). length t.order) old sweep many in
      let within = left_within sweep s (table_at new sweep) (subst (λ (p : Phase). IsTable sweep s (table_at new sweep) (Some p)) is (are.each sweep)) in
      let one = more_questions (length (table_at new sweep).left) (length (table_at new sweep).order) within in
      let two = more_questions (length (table_at new sweep).order) (length (table_at old sweep).order) (few.fewer sweep) in
      omega (arith, rest, first, one, two))

  pub turned : (phase : Phase) → left_in old (Some phase) ≡ [] → next_phase phase more ≡ Some next → questions_by (Some next) new ≤ questions_by (Some phase) old
  turned (Regions sweep) none is =
      let next_is : swept sweep ≡ next = same_Some (swept sweep) next is in
      let le = same_begun (suc (index_of sweep)) (ap swept_by (sym next_is) ∙ swept_as sweep) (ap is_sweep (sym next_is) ∙ swept_no_sweep sweep) in
      omega (arith, le)
  turned phase none is =
      let plain = subst (Follows phase) is (follows phase more refl) in
      ⊎_elim
      (λ (h : (is_sweep next ≡ false) × (swept_by next ≡ swept_by phase)). let le = same_begun (swept_by phase) h.1 h.0 in omega (arith, le))
      (λ (h : (sweep : Sweep) × (next ≡ Regions sweep) × (index_of sweep ≡ swept_by phase)).
      let le = next_begun h.0 h.1 in
      let here = ap (λ k. questions_in (drop k (lengths old))) h.2 in
      omega (arith, le, here))
      plain.1

-- ---- the end

pub last_phase : (phase : Phase) (more : Bool) → next_phase phase more ≡ None → phase ≡ LongCleanups
last_phase LongCleanups more is = refl
last_phase (Values moment) true is = absurd (none-some (KeysAgain moment) (sym is))
last_phase (Values moment) false is = absurd (none-some (behind moment) (sym is))
last_phase (Keys moment) more is = absurd (none-some (Holders moment) (sym is))
last_phase (KeysAgain moment) more is = absurd (none-some (Holders moment) (sym is))
last_phase (Holders moment) more is = absurd (none-some (Values moment) (sym is))
last_phase (Regions sweep) more is = absurd (none-some (swept sweep) (sym is))
last_phase ShortCleanups more is = absurd (none-some (Regions sweeps.ShortTargets) (sym is))
last_phase ShortTargets more is = absurd (none-some ShortWords (sym is))
last_phase ShortWords more is = absurd (none-some ShortKeys (sym is))
last_phase ShortKeys more is = absurd (none-some ShortKeyWords (sym is))
last_phase ShortKeyWords more is = absurd (none-some (Regions sweeps.Objects) (sym is))
last_phase Objects more is = absurd (none-some Children (sym is))
last_phase Children more is = absurd (none-some (Keys Led) (sym is))
last_phase Again more is = absurd (none-some Picks (sym is))
last_phase Picks more is = absurd (none-some Entries (sym is))
last_phase Entries more is = absurd (none-some (Keys Picked) (sym is))
last_phase LateAgain more is = absurd (none-some LatePicks (sym is))
last_phase LatePicks more is = absurd (none-some (Keys Last) (sym is))
last_phase LongTargets more is = absurd (none-some LongWords (sym is))
last_phase LongWords more is = absurd (none-some LongKeys (sym is))
last_phase LongKeys more is = absurd (none-some LongKeyWords (sym is))
last_phase LongKeyWords more is = absurd (none-some (Regions sweeps.ShortHolders) (sym is))
last_phase ShortHolders more is = absurd (none-some (Regions sweeps.LongHolders) (sym is))
last_phase LongHolders more is = absurd (none-some ShortKeyHolders (sym is))
last_phase ShortKeyHolders more is = absurd (none-some LongKeyHolders (sym is))
last_phase LongKeyHolders more is = absurd (none-some (Regions sweeps.LongCleanups) (sym is))

pub ended_tables : (s : State) (tables : List Table) (phase : Phase) → is_sweep phase ≡ false → AreTables s tables (Some phase) → AreTables s tables None
ended_tables s tables phase off are = record {
  each = λ sweep.
      let one = are.each sweep in
      let untold = one.idle (not_regions phase sweep off) in
      record { noted = one.noted; whole = λ at complete. absurd (none-some (Regions sweep) at); idle = λ not. untold; lacking = λ none. untold };
  count = are.count;
}

pub none_to_come : (tables : List Table) → length tables ≡ 7 → questions_by None tables ≡ 0
none_to_come tables many = ap (λ xs. questions_of 0 + questions_in xs) (drop_all 7 (lengths tables) (let long = length-map tables (λ (t : Table). length t.order) in omega (arith, long, many)))

-- ---- what is listed behind a sweep is known, if all was told

pub known_or_not : (b : Bool) → (b ≡ true → ⊥) → b ≡ false
known_or_not true not = absurd (not refl)
known_or_not false not = refl

pub known_behind : (from : ℕ) (s : State) (tables : List Table) (phase : Phase) (sweep : Sweep) → phase ≡ swept sweep → (items given : List Item) → Lists phase from (told_for tables phase) s given items → IsTold sweep s (table_at tables sweep) → IsTrue (table_at tables sweep).complete
    → All (λ (item : Item). IsTrue item.known) items
known_behind from s tables phase sweep is items given lists told complete =
    known_listed s (table_at tables sweep) complete from sweep told items (by sweep (subst (λ (p : Phase). Lists p from (told_for tables p) s given items) is lists))
  where
    by : (w : Sweep) → Lists (swept w) from (told_for tables (swept w)) s given items → Lists (swept w) from (table_at tables w).told s [] items
    by sweeps.ShortCleanups h = h
    by sweeps.ShortTargets h = h
    by sweeps.Objects h = h
    by sweeps.LongTargets h = h
    by sweeps.ShortHolders h = h
    by sweeps.LongHolders h = h
    by sweeps.LongCleanups h = h
