-- What holds of a machine between passes, while calls change its finalizers and note what comes.
use Rattle.std.proofs.Common.{◌≡◌, ◌≢◌, ◌⊎◌, ◌≤◌, ◌+◌, ◌<◌, ◌∙◌, ℕ, Bool, true, false, true≢false, IsTrue, List, Option, Some, None, Result, Ok, Err, OnErr, OnOk, inl, inr, length, map, refl, slice_index_or, sym, ap, subst, ⊎_elim, arith}
use Rattle.std.proofs.lemmas.List.{get_or-map}
use Rattle.std.proofs.lemmas.Option.{none-some}
use Rattle.std.specs.FinMap.{get, insert}
use Rattle.fz_model.specs.declared.kinds.LinkKind.{LinkKind}
use Rattle.fz_model.specs.declared.kinds.LinkKind.TheVariants.{Long, Short}
use Rattle.fz_model.specs.Steps.{moved_to}
use Rattle.fz_pass.specs.Keyed.{moved}
use Rattle.fz_finalizers.specs.Causes.{Causes}
use Rattle.fz_finalizers.specs.declared.cleanups.Cleanup.{Cleanup}
use Rattle.fz_finalizers.specs.declared.kinds.Finalizer.{Finalizer}
use Rattle.fz_finalizers.specs.Follows.{with_cleanup, with_registration}
use Rattle.fz_finalizers.specs.States.{State, links_of, with_links}
use Rattle.fz_machine.specs.declared.phase.Phase.{Phase}
use Rattle.fz_machine.specs.declared.phase.Phase.TheVariants.{Regions}
use Rattle.fz_machine.specs.declared.phase.Sweep.{Sweep}
use Rattle.fz_machine.specs.declared.phase.Sweep.TheVariants.{Objects}
use Rattle.fz_machine.specs.Causes.{first_of}
use Rattle.fz_machine.specs.declared.machine.By.{By}
use Rattle.fz_machine.specs.Going.{AreRenewed, AreTables, AsksNone, Changes, HasRoomOffIn, HaveRoom, IsInOrder, IsTable, Lacks}
use Rattle.fz_machine.specs.Machines.{Keeps, Machine, Notes, is_noted, of_links, tabled_for}
use Rattle.fz_machine.specs.Phases.{settles_in, swept}
use Rattle.fz_machine.specs.Regions.{Regions as Table, IsNoted, IsOfSweep, KeepsTable, attached, holders, index_of, no_regions, table_at, targets}
use Rattle.fz_machine.specs.Walks.{Walk}
use Rattle.fz_machine.proofs.Less.{IsLess, IsOfLink, added_more, linked_more, moved_more, registered_more, state_less}
use Rattle.fz_machine.proofs.Less.{tables_less as same_tables_less}
use Rattle.fz_machine.proofs.Renewed.{still_untold}
use Rattle.fz_machine.proofs.Tabled.{cases_sweep, index_within}
use Rattle.fz_machine.proofs.Turned.{tables_less}

-- ---- between passes

pub unopened : (phase : Option Phase) (causes : Causes) → first_of phase causes ≡ None → phase ≡ None
unopened None causes h = refl
unopened (Some p) causes h = absurd (none-some _ (sym h))

-- the invariant of a machine
abbrev pub IsWell : State → Walk → List Table → Option Phase → ℕ → Type 0
IsWell s walk tables phase asked = IsInOrder s walk tables phase × AsksNone phase asked × Lacks phase tables

module _ (s : State) (walk : Walk) (tables : List Table) (phase : Option Phase) (asked : ℕ) (well : IsWell s walk tables phase asked) (idle : phase ≡ None) where
  pub idle_rooms : HaveRoom false s walk
  idle_rooms = subst (λ (o : Option Phase). HaveRoom (settles_in o) s walk) idle well.0.room

  pub idle_tables : AreTables s tables None
  idle_tables = subst (AreTables s tables) idle well.0.tables

  -- with other tables
  pub anew : (t : State) (other : Walk) (ts : List Table) → HaveRoom false t other → AreTables t ts None → IsWell t other ts phase asked
  anew t other ts room are = (
    record { room = subst (λ (o : Option Phase). HaveRoom (settles_in o) t other) (sym idle) room; room_off = subst (λ (o : Option Phase). HasRoomOffIn o other) (sym idle) tt; tables = subst (AreTables t ts) (sym idle) are },
    subst (λ (o : Option Phase). AsksNone o asked) (sym idle) tt,
    λ sweep at. absurd (none-some (swept sweep) (sym idle ∙ at)),
  )

  -- a call takes something away, or changes nothing that sweeps are about
  pub calm : (t : State) (other : Walk) → HaveRoom false t other → IsLess s t → IsWell t other tables phase asked
  calm t other room less = anew t other tables room (tables_less s t tables None less idle_tables)

-- ---- something is noted

keeps_same : (t : Table) → KeepsTable t t
keeps_same t = record { same = refl; complete = λ on. on; kept = λ n noted. noted }

keeps_twice : (t u v : Table) → KeepsTable t u → KeepsTable u v → KeepsTable t v
keeps_twice t u v first second = record {
  same = second.same ∙ (λ i. record (first.same i) { order = v.order; complete = v.complete });
  complete = λ on. first.complete (second.complete on);
  kept = λ n noted. second.kept n (first.kept n noted);
}

-- each table keeps what it has
abbrev pub KeepEach : List Table → List Table → Type 0
KeepEach old new = (sweep : Sweep) → KeepsTable (table_at old sweep) (table_at new sweep)

pub keeps_each : (old new : List Table) (sweep : Sweep) → Changes sweep old new → KeepsTable (table_at old sweep) (table_at new sweep) → KeepEach old new
keeps_each old new sweep changes keeps other =
    ⊎_elim
    (λ (is : other ≡ sweep). subst (λ (o : Sweep). KeepsTable (table_at old o) (table_at new o)) (sym is) keeps)
    (λ (ne : other ≢ sweep). subst (KeepsTable (table_at old other)) (sym (changes.others other ne)) (keeps_same (table_at old other)))
    (cases_sweep other sweep)

pub keeps_more : (old mid new : List Table) → KeepEach old mid → KeepEach mid new → KeepEach old new
keeps_more old mid new first second sweep = keeps_twice (table_at old sweep) (table_at mid sweep) (table_at new sweep) (first sweep) (second sweep)

-- what comes is noted, unless memory lacks
abbrev pub IsThere : List Table → Sweep → ℕ → Type 0
IsThere tables sweep n = IsTrue (table_at tables sweep).complete → IsNoted (table_at tables sweep).order n

pub there_still : (old new : List Table) → KeepEach old new → (sweep : Sweep) (n : ℕ) → IsThere old sweep n → IsThere new sweep n
there_still old new keeps sweep n there on = (keeps sweep).kept n (there ((keeps sweep).complete on))

there_at : (tables : List Table) (a b : Sweep) (n m : ℕ) → a ≡ b → n ≡ m → IsThere tables b m → IsThere tables a n
there_at tables a b n m sweep same there = subst (λ (o : Sweep). IsThere tables o n) (sym sweep) (subst (IsThere tables b) (sym same) there)

module _ (s t : State) (old new : List Table) (are : AreTables s old None) (keeps : KeepEach old new) (count : length new ≡ length old) (comes : (sweep : Sweep) (n : ℕ) → IsOfSweep sweep t n → IsOfSweep sweep s n ⊎ IsThere new sweep n) where
  one_table : (sweep : Sweep) → IsTable sweep t (table_at new sweep) None
  one_table sweep =
      let was = are.each sweep in
      let untold = still_untold (table_at old sweep) (table_at new sweep) (keeps sweep) (was.idle (none-some (Regions sweep))) in
      record {
        noted = λ on n of. ⊎_elim (λ before. (keeps sweep).kept n (was.noted ((keeps sweep).complete on) n before)) (λ there. there on) (comes sweep n of);
        whole = λ at. absurd (none-some (Regions sweep) at);
        idle = λ none. untold;
        lacking = λ off. untold;
      }

  pub noted_tables : AreTables t new None
  noted_tables = record { each = one_table; count = count ∙ are.count }

-- ---- by each call

module _ (s t : State) (new : List Table) where
  abbrev Comes : Type 0
  Comes = (sweep : Sweep) (n : ℕ) → IsOfSweep sweep t n → IsOfSweep sweep s n ⊎ IsThere new sweep n

  nothing_comes : t ≡ s → Comes
  nothing_comes same sweep n of = inl (state_less s t same sweep n of)

  module _ {A R : Type 0} (result : Result A R) (same : OnErr result (t ≡ s)) where
    pub registered_comes : (object : ℕ) (finalizer : Finalizer) → IsThere new Objects object → OnOk result (t ≡ with_registration s object finalizer) → Comes
    registered_comes object finalizer there follows = by result same follows
      where
        by : (r : Result A R) → OnErr r (t ≡ s) → OnOk r (t ≡ with_registration s object finalizer) → Comes
        by (Err e) is follow = nothing_comes is
        by (Ok x) is follow = λ sweep n of. ⊎_elim inl (λ at. inr (there_at new sweep Objects n object at.0 at.1 there)) (registered_more s object finalizer sweep n (subst (λ (u : State). IsOfSweep sweep u n) follow of))

    pub linked_comes : (kind : LinkKind) (word target : ℕ) → IsThere new (targets kind) target → IsThere new (holders kind) word → OnOk result (t ≡ with_links s kind (insert (links_of s kind) word target)) → Comes
    linked_comes kind word target to at follows = by result same follows
      where
        one : (sweep : Sweep) (n : ℕ) → IsOfLink kind word target sweep n → IsThere new sweep n
        one sweep n (inl is) = there_at new sweep (targets kind) n target is.0 is.1 to
        one sweep n (inr is) = there_at new sweep (holders kind) n word is.0 is.1 at

        by : (r : Result A R) → OnErr r (t ≡ s) → OnOk r (t ≡ with_links s kind (insert (links_of s kind) word target)) → Comes
        by (Err e) is follow = nothing_comes is
        by (Ok x) is follow = λ sweep n of. ⊎_elim inl (λ new_one. inr (one sweep n new_one)) (linked_more s kind word target sweep n (subst (λ (u : State). IsOfSweep sweep u n) follow of))

    pub moved_comes : (kind : LinkKind) (word to : ℕ) → IsThere new (holders kind) to → OnOk result (t ≡ with_links s kind (moved_to (links_of s kind) word to (get (links_of s kind) word))) → Comes
    moved_comes kind word to there follows = by result same follows
      where
        by : (r : Result A R) → OnErr r (t ≡ s) → OnOk r (t ≡ with_links s kind (moved_to (links_of s kind) word to (get (links_of s kind) word))) → Comes
        by (Err e) is follow = nothing_comes is
        by (Ok x) is follow = λ sweep n of. ⊎_elim inl (λ at. inr (there_at new sweep (holders kind) n to at.0 at.1 there)) (moved_more s kind word to sweep n (subst (λ (u : State). IsOfSweep sweep u n) follow of))

    pub added_comes : (object : ℕ) (cleanup : Cleanup) → IsThere new (attached cleanup.when) object → OnOk result (t ≡ with_cleanup s object cleanup) → Comes
    added_comes object cleanup there follows = by result same follows
      where
        by : (r : Result A R) → OnErr r (t ≡ s) → OnOk r (t ≡ with_cleanup s object cleanup) → Comes
        by (Err e) is follow = nothing_comes is
        by (Ok x) is follow = λ sweep n of. ⊎_elim inl (λ at. inr (there_at new sweep (attached cleanup.when) n object at.0 at.1 there)) (added_more s object cleanup sweep n (subst (λ (u : State). IsOfSweep sweep u n) follow of))

    -- nothing that sweeps are about comes
    pub unchanged_or : OnOk result (IsLess s t) → IsLess s t
    unchanged_or less = by result same less
      where
        by : (r : Result A R) → OnErr r (t ≡ s) → OnOk r (IsLess s t) → IsLess s t
        by (Err e) is follow = state_less s t is
        by (Ok x) is follow = follow

-- words of ephemerons are noted nowhere
pub moved_rows_less : {A R : Type 0} (s : State) (word to : ℕ) (t : State) (result : Result A R) → OnErr result (t ≡ s) → OnOk result (t ≡ record s { ephemerons = moved s.ephemerons word to }) → IsLess s t
moved_rows_less s word to t (Err e) same is = state_less s t same
moved_rows_less s word to t (Ok x) same is = subst (IsLess s) (sym is) (same_tables_less s (record s { ephemerons = moved s.ephemerons word to }) refl refl refl refl)

-- ---- how many regions there are

abbrev pub completes : List Table → List Bool
completes tables = map (λ (t : Table). t.complete) tables

abbrev pub sizes : List Table → List ℕ
sizes tables = map (λ (t : Table). length t.order) tables

module _ (tables : List Table) (many : length tables ≡ 7) (sweep : Sweep) where
  within : index_of sweep < length tables
  within = let lt = index_within sweep in omega (arith, lt, many)

  pub complete_at : slice_index_or (completes tables) (index_of sweep) false ≡ (table_at tables sweep).complete
  complete_at = get_or-map (λ (t : Table). t.complete) tables (index_of sweep) no_regions false within

  pub size_at : slice_index_or (sizes tables) (index_of sweep) 0 ≡ length (table_at tables sweep).order
  size_at = get_or-map (λ (t : Table). length t.order) tables (index_of sweep) no_regions 0 within

pub complete_still : (old new : List Table) → length old ≡ 7 → length new ≡ 7 → (sweep : Sweep) → (table_at new sweep).complete ≡ (table_at old sweep).complete → slice_index_or (completes new) (index_of sweep) false ≡ slice_index_or (completes old) (index_of sweep) false
complete_still old new many as_many sweep same = complete_at new as_many sweep ∙ same ∙ sym (complete_at old many sweep)

off_too : (b : Bool) {c : Bool} → c ≡ b → (c ≡ true → ⊥) → c ≡ false
off_too false is none = is
off_too true is none = absurd (none is)

-- what is noted already needs no memory
pub noted_stays : (s : State) (sweep : Sweep) (n : ℕ) (old new : Table) → IsTable sweep s old None → KeepsTable old new → (IsNoted old.order n → new.complete ≡ old.complete) → IsOfSweep sweep s n → new.complete ≡ old.complete
noted_stays s sweep n old new table keeps stays of = by old.complete refl
  where
    by : (on : Bool) → old.complete ≡ on → new.complete ≡ old.complete
    by true on = stays (table.noted on n of)
    by false off = off_too new.complete {c = new.complete} refl (λ on. true≢false (sym (keeps.complete on) ∙ off)) ∙ sym off

-- ---- which regions change

-- something more is noted in a table, or less of it is noted than should be
abbrev pub NotesTable : Table → Table → Type 0
NotesTable old new = (IsTrue new.complete → IsTrue old.complete) × (length new.order ≤ length old.order + 1)

abbrev pub ChangesTable : Bool → Table → Table → Type 0
ChangesTable noted old new = (IsTrue noted × NotesTable old new) ⊎ (new ≡ old)

module _ (kind : LinkKind) (a b : Sweep) (a_is : a ≡ targets kind) (b_is : b ≡ holders kind) (old mid last new : List Table) (same : last ≡ mid) (first : Changes a old mid) (keeps : KeepsTable (table_at old a) (table_at mid a)) (few : length (table_at mid a).order ≤ length (table_at old a).order + 1)
    (second : Changes b last new) (keeps_too : KeepsTable (table_at last b) (table_at new b)) (few_too : length (table_at new b).order ≤ length (table_at last b).order + 1) where
  targets_are : (k : LinkKind) → IsTrue (of_links k (targets k))
  targets_are Short = refl
  targets_are Long = refl

  holders_are : (k : LinkKind) → IsTrue (of_links k (holders k))
  holders_are Short = refl
  holders_are Long = refl

  apart : (k : LinkKind) → targets k ≡ holders k → ⊥
  apart Short is = let numbers = ap index_of is in omega (arith, numbers)
  apart Long is = let numbers = ap index_of is in omega (arith, numbers)

  -- the first change is all that happens to another table than the second one's
  after_first : (sweep : Sweep) → sweep ≢ b → table_at new sweep ≡ table_at mid sweep
  after_first sweep ne = second.others sweep ne ∙ ap (λ (ts : List Table). table_at ts sweep) same

  before_second : (sweep : Sweep) → sweep ≢ a → table_at last sweep ≡ table_at old sweep
  before_second sweep ne = ap (λ (ts : List Table). table_at ts sweep) same ∙ first.others sweep ne

  pub linked_tables : (sweep : Sweep) → ChangesTable (of_links kind sweep) (table_at old sweep) (table_at new sweep)
  linked_tables sweep = ⊎_elim at_first (λ not_first. ⊎_elim at_second (λ not_second. inr (after_first sweep not_second ∙ first.others sweep not_first)) (cases_sweep sweep b)) (cases_sweep sweep a)
    where
      at_first : sweep ≡ a → ChangesTable (of_links kind sweep) (table_at old sweep) (table_at new sweep)
      at_first is =
          let other : sweep ≢ b = λ too. apart kind (sym a_is ∙ sym is ∙ too ∙ b_is) in
          let here : NotesTable (table_at old sweep) (table_at mid sweep) = subst (λ (o : Sweep). NotesTable (table_at old o) (table_at mid o)) (sym is) (keeps.complete, few) in
          inl (subst (λ (o : Sweep). IsTrue (of_links kind o)) (sym (is ∙ a_is)) (targets_are kind), subst (NotesTable (table_at old sweep)) (sym (after_first sweep other)) here)

      at_second : sweep ≡ b → ChangesTable (of_links kind sweep) (table_at old sweep) (table_at new sweep)
      at_second is =
          let other : sweep ≢ a = λ too. apart kind (sym a_is ∙ sym too ∙ is ∙ b_is) in
          let here : NotesTable (table_at last sweep) (table_at new sweep) = subst (λ (o : Sweep). NotesTable (table_at last o) (table_at new o)) (sym is) (keeps_too.complete, few_too) in
          inl (subst (λ (o : Sweep). IsTrue (of_links kind o)) (sym (is ∙ b_is)) (holders_are kind), subst (λ (t : Table). NotesTable t (table_at new sweep)) (before_second sweep other) here)

-- the same of machines
pub machines_note : (noted : Sweep → Bool) (before after : Machine) (old new : List Table) → length old ≡ 7 → length new ≡ 7 → before.noted ≡ completes old → before.tabled ≡ sizes old → after.noted ≡ completes new → after.tabled ≡ sizes new
    → ((sweep : Sweep) → ChangesTable (noted sweep) (table_at old sweep) (table_at new sweep)) → (sweep : Sweep) → (IsTrue (noted sweep) × Notes before after sweep) ⊎ Keeps before after sweep
machines_note noted before after old new many as_many old_noted old_tabled new_noted new_tabled changes sweep =
    let was : is_noted sweep before ≡ (table_at old sweep).complete = ap (λ (bs : List Bool). slice_index_or bs (index_of sweep) false) old_noted ∙ complete_at old many sweep in
    let is : is_noted sweep after ≡ (table_at new sweep).complete = ap (λ (bs : List Bool). slice_index_or bs (index_of sweep) false) new_noted ∙ complete_at new as_many sweep in
    let was_size : tabled_for sweep before ≡ length (table_at old sweep).order = ap (λ (ns : List ℕ). slice_index_or ns (index_of sweep) 0) old_tabled ∙ size_at old many sweep in
    let size : tabled_for sweep after ≡ length (table_at new sweep).order = ap (λ (ns : List ℕ). slice_index_or ns (index_of sweep) 0) new_tabled ∙ size_at new as_many sweep in
    ⊎_elim
    (λ (on : IsTrue (noted sweep) × NotesTable (table_at old sweep) (table_at new sweep)). inl (on.0, ((λ there. was ∙ on.1.0 (sym is ∙ there)), no_more (tabled_for sweep before) (tabled_for sweep after) (length (table_at old sweep).order) (length (table_at new sweep).order) was_size size on.1.1)))
    (λ (same : table_at new sweep ≡ table_at old sweep). inr (is ∙ ap (λ (t : Table). t.complete) same ∙ sym was, size ∙ ap (λ (t : Table). length t.order) same ∙ sym was_size))
    (changes sweep)
  where
    no_more : (a b c d : ℕ) → a ≡ c → b ≡ d → d ≤ c + 1 → b ≤ a + 1
    no_more a b c d x y le = omega (arith, x, y, le)

-- ---- all is noted again

pub renewed_tables : (by : By) (s t : State) (old new : List Table) → t ≡ s → AreTables s old None → AreRenewed by t old new → AreTables t new None
renewed_tables by s t old new same are renewed = record { each = one; count = renewed.count ∙ are.count }
  where
    one : (sweep : Sweep) → IsTable sweep t (table_at new sweep) None
    one sweep =
        ⊎_elim
        (λ (is : table_at new sweep ≡ table_at old sweep). subst (λ (u : Table). IsTable sweep t u None) (sym is) (subst (λ (u : State). IsTable sweep u (table_at old sweep) None) (sym same) (are.each sweep)))
        (λ is. record { noted = λ on. is.1.noted; whole = λ at. absurd (none-some (Regions sweep) at); idle = λ none. is.1.untold; lacking = λ off. is.1.untold })
        (renewed.each sweep)
