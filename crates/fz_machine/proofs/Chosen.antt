-- The objects of a table that aren't marked are picked, one after another.
use Rattle.std.proofs.Common.{◌≡◌, ◌≢◌, ◌≤◌, ◌<◌, ◌+◌, ◌*◌, ◌^◌, ◌⊎◌, ◌&&◌, ◌++◌, ◌∷◌, ◌∙◌, [], ℕ, Bool, true, false, not, List, map, Option, Some, None, refl, sym, ap, subst, inl, inr, ⊎_elim, is_some, IsTrue, nat_eq, arith}
use Rattle.std.proofs.lemmas.Bool.{and_parts, and_from, not-true, both_ways, true≢false, eq-eqb, eqb-true, cases_lt}
use Rattle.std.proofs.lemmas.Option.{same_Some}
use Rattle.std.specs.FinMap.{get, contains_key}
use Rattle.fz_model.specs.declared.answers.Pick.{Pick}
use Rattle.fz_model.specs.declared.answers.Registration.{Registration}
use Rattle.fz_model.specs.State.{Map, Object}
use Rattle.fz_model.specs.Reachability.{Leads}
use Rattle.fz_model.proofs.Lists.{place_of, map_at}
use Rattle.fz_model.proofs.Sound.{is_some_of, left_other}
use Rattle.fz_table.specs.Tabled.{Content}
use Rattle.fz_pass.specs.All.{unknown}
use Rattle.fz_pass.specs.Marks.{IsClosed, Marks, AreReached}
use Rattle.fz_pass.specs.Picking.{pick_of, IsReady, Picks, Takes, left_by}
use Rattle.fz_pass.specs.Tiers.{skips}
use Rattle.fz_pass.proofs.Picked.{StandsBefore, all_map, picks_as, picks_more, picks_none, same_test, without_other}
use Rattle.fz_machine.specs.declared.item.Item.{Item}
use Rattle.fz_machine.specs.Graph.{Graph}
use Rattle.fz_machine.specs.Items as items
use Rattle.fz_machine.proofs.Among.{Each, OneOf, each_as}
use Rattle.fz_machine.proofs.DeadWords.{more, or_parts, or_left, or_right}

-- a registration's place among those of its table
abbrev pub place_in : ℕ → ℕ → Registration → ℕ
place_in offset a r = (offset + r.rank) * 2 ^ 64 + a

module _ (E : Type 0) (clear : Map Object) (table : Content) (marked : ℕ → Bool) (second : Bool) (late : ℕ → Bool) (offset : ℕ) where
  -- those that this round passes over
  abbrev pub skip : ℕ → Bool
  skip = skips second late marked

  -- those that are gone are picked, and they and all that they lead to marked
  pub record AreChosen (now : Content) (picks : List Pick) (left : List Item) (h : Graph) : Type 0 where
    pub gone : ℕ → Bool
    pub objects : h.objects ≡ clear
    pub are : Picks clear gone table now [] picks
    pub was : (a : ℕ) → gone a ≡ true → (r : Registration) × (get table.registrations a ≡ Some r) × (skip a ≡ false)
    pub before : (a : ℕ) (r : Registration) → gone a ≡ true → get table.registrations a ≡ Some r → Each (λ i. place_in offset a r ≤ items.place_of i) left
    pub closed : IsClosed clear h.marked
    pub least : (a : ℕ) → IsTrue (marked a) → IsTrue (h.marked a)
    pub gained : (o a : ℕ) → gone o ≡ true → Leads clear o a → IsTrue (h.marked a)
    pub most : E → (a : ℕ) → IsTrue (h.marked a) → IsTrue (marked a) ⊎ AreReached clear table.registrations skip a
    pub rest : (a : ℕ) (r : Registration) → get table.registrations a ≡ Some r → skip a ≡ false → (gone a ≡ true) ⊎ OneOf (λ (i : Item). i.object ≡ a) left

  -- what is to be picked may be marked already
  pub choosing_from : (left : List Item) (h : Graph) → h.objects ≡ clear → IsClosed clear h.marked → ((a : ℕ) → IsTrue (marked a) → IsTrue (h.marked a)) → (E → (a : ℕ) → IsTrue (h.marked a) → IsTrue (marked a) ⊎ AreReached clear table.registrations skip a)
      → ((a : ℕ) (r : Registration) → get table.registrations a ≡ Some r → skip a ≡ false → OneOf (λ (i : Item). i.object ≡ a) left) → AreChosen table [] left h
  choosing_from left h objects closed least most listed = record {
    gone = λ a. false;
    objects = objects;
    are = picks_none clear (λ a. false) table [] (λ a on. true≢false (sym on));
    was = λ a on. absurd (true≢false (sym on));
    before = λ a r on. absurd (true≢false (sym on));
    closed = closed;
    least = least;
    gained = λ o a on. absurd (true≢false (sym on));
    most = most;
    rest = λ a r here off. inr (listed a r here off);
  }

  pub choosing_begins : (left : List Item) (h : Graph) → h.objects ≡ clear → h.marked ≡ marked → IsClosed clear marked
      → ((a : ℕ) (r : Registration) → get table.registrations a ≡ Some r → skip a ≡ false → OneOf (λ (i : Item). i.object ≡ a) left) → AreChosen table [] left h
  choosing_begins left h objects same closed listed =
      choosing_from left h objects (subst (IsClosed clear) (sym same) closed) (λ a on. subst (λ (m : ℕ → Bool). IsTrue (m a)) (sym same) on) (λ exact a on. inl (subst (λ (m : ℕ → Bool). IsTrue (m a)) same on)) listed

  -- an item is passed that isn't of the table
  pub chosen_on : (now : Content) (picks : List Pick) (left : List Item) (item : Item) (h : Graph) → skip item.object ≡ true → AreChosen now picks (item ∷ left) h → AreChosen now picks left h
  chosen_on now picks left item h apart c = record {
    gone = c.gone;
    objects = c.objects;
    are = c.are;
    was = c.was;
    before = λ a r on here. (c.before a r on here).1;
    closed = c.closed;
    least = c.least;
    gained = c.gained;
    most = c.most;
    rest = λ a r here off. ⊎_elim inl (by a off) (c.rest a r here off);
  }
    where
      by : (a : ℕ) → skip a ≡ false → OneOf (λ (i : Item). i.object ≡ a) (item ∷ left) → (c.gone a ≡ true) ⊎ OneOf (λ (i : Item). i.object ≡ a) left
      by a off (inl at) = absurd (both_ways (skip a) off (ap skip (sym at) ∙ apart))
      by a off (inr k) = inr k

  module _ (now : Content) (picks : List Pick) (h : Graph) where
    -- all are, once none is left
    pub chosen_all : AreChosen now picks [] h
        → Picks clear (λ a. contains_key table.registrations a && not (skip a)) table now [] picks × Marks E clear marked h.marked (AreReached clear table.registrations skip)
    chosen_all c = (
      picks_as clear c.gone (λ a. contains_key table.registrations a && not (skip a)) table now [] picks is c.are,
      record {
        closed = c.closed;
        least = λ a. ⊎_elim (c.least a) (λ (o, r, here, off, leads). c.gained o a (all o r here (not-true (skip o) off)) leads);
        most = c.most;
      },
    )
      where
        all : (a : ℕ) (r : Registration) → get table.registrations a ≡ Some r → skip a ≡ false → c.gone a ≡ true
        all a r here off = ⊎_elim (λ on. on) (λ none. absurd none) (c.rest a r here off)

        is : (a : ℕ) → c.gone a ≡ (contains_key table.registrations a && not (skip a))
        is a = same_test _ _ (λ on. let w = c.was a on in and_from (contains_key table.registrations a) (not (skip a)) (ap is_some w.1) (ap not w.2))
            (λ on. let parts = and_parts (contains_key table.registrations a) (not (skip a)) on in let r = is_some_of (get table.registrations a) (ap not parts.0) in all a r.0 r.1 (not-true (skip a) parts.1))

  module _ (now : Content) (picks : List Pick) (item : Item) (left : List Item) (h new : Graph) (c : AreChosen now picks (item ∷ left) h)
      (r : Registration) (here : get table.registrations item.object ≡ Some r) (off : skip item.object ≡ false) (place : items.place_of item ≡ place_in offset item.object r) where
    -- it is picked before, or isn't yet
    pub still : c.gone item.object ≡ false → get now.registrations item.object ≡ Some r
    still none =
        ap (λ (t : Content). get t.registrations item.object) c.are.table_is
        ∙ without_other table.registrations c.are.picks item.object (all_map (IsReady clear table.registrations c.gone) (λ (x : Pick). x.obj ≢ item.object) (λ x is same. both_ways (c.gone item.object) none (ap c.gone (sym same) ∙ is.ready)) c.are.picks c.are.picked.each)
        ∙ here

    pub no_more : c.gone item.object ≡ true → get now.registrations item.object ≡ None
    no_more on = at (get now.registrations item.object) refl
      where
        at : (o : Option Registration) → get now.registrations item.object ≡ o → o ≡ None
        at None is = refl
        at (Some q) is =
            let k = place_of (map (λ (x : Pick). x.obj) c.are.picks) item.object (c.are.picked.whole item.object on) in
            let x = map_at (λ (x : Pick). x.obj) c.are.picks k.0 item.object k.1 in
            absurd (left_other table.registrations c.are.picks item.object q (ap (λ (t : Content). get t.registrations item.object) (sym c.are.table_is) ∙ is) k.0 x.0 x.1 (sym x.2))

    module _ (same : new.objects ≡ h.objects) (m : Marks E clear h.marked new.marked (Leads clear item.object)) where
      reached : E → (a : ℕ) → IsTrue (new.marked a) → IsTrue (marked a) ⊎ AreReached clear table.registrations skip a
      reached exact a on = ⊎_elim (c.most exact a) (λ leads. inr (item.object, r, here, ap not off, leads)) (m.most exact a on)

      -- it is picked already
      pub chosen_again : c.gone item.object ≡ true → AreChosen now picks left new
      chosen_again on = record {
        gone = c.gone;
        objects = same ∙ c.objects;
        are = c.are;
        was = c.was;
        before = λ a s was at. (c.before a s was at).1;
        closed = m.closed;
        least = λ a was. m.least a (inl (c.least a was));
        gained = λ o a was leads. m.least a (inl (c.gained o a was leads));
        most = reached;
        rest = λ a s at un. ⊎_elim inl (by a) (c.rest a s at un);
      }
        where
          by : (a : ℕ) → OneOf (λ (i : Item). i.object ≡ a) (item ∷ left) → (c.gone a ≡ true) ⊎ OneOf (λ (i : Item). i.object ≡ a) left
          by a (inl at) = inl (ap c.gone (sym at) ∙ on)
          by a (inr k) = inr k

      -- it is picked now
      module _ (starts : (a : ℕ) (s : Registration) → get table.registrations a ≡ Some s → a < 2 ^ 64) (later : Each (λ i. items.place_of item ≤ items.place_of i) left)
          (object : Object) (there : get clear item.object ≡ Some object) (birth : object.birth ≡ 0) (none : c.gone item.object ≡ false) where
        abbrev pick : Pick
        pick = pick_of r item.object unknown

        takes : Takes clear item.object now (left_by now item.object) picks (picks ++ pick ∷ [])
        takes = record {
          pick = pick;
          taken = record {
            registration = r;
            object = object;
            registered = still none;
            here = there;
            table_is = refl;
            pick_is = ap (λ n. record { reg = r.number; obj = item.object; birth = n; proc = r.proc; cd = r.cd }) (sym birth);
          };
          out_is = refl;
        }

        stands : (a : ℕ) (s : Registration) → c.gone a ≡ true → get table.registrations a ≡ Some s → StandsBefore a s item.object r
        stands a s on at =
            let low : place_in offset a s ≤ items.place_of item = (c.before a s on at).0 in
            let small = starts a s at in
            let small_item = starts item.object r here in
            ⊎_elim (λ (lt : s.rank < r.rank). inl lt)
            (λ (ge : r.rank ≤ s.rank). inr (omega (arith, low, small, small_item, ge, place), ⊎_elim (λ (lt : a < item.object). lt) (λ (le : item.object ≤ a). absurd (apart (omega (arith, low, small, small_item, ge, place, le)))) (cases_lt a item.object)))
            (cases_lt s.rank r.rank)
          where
            apart : a ≡ item.object → ⊥
            apart is = both_ways (c.gone item.object) none (ap c.gone (sym is) ∙ on)

        pub chosen_more : AreChosen (left_by now item.object) (picks ++ pick ∷ []) left new
        unfolding takes
        chosen_more = record {
          gone = more c.gone item.object;
          objects = same ∙ c.objects;
          are = picks_more clear c.gone (more c.gone item.object) item.object table now (left_by now item.object) [] picks (picks ++ pick ∷ []) c.are takes
              (λ a on. or_left (c.gone a) (nat_eq a item.object) on) (or_right (c.gone item.object) (nat_eq item.object item.object) (eq-eqb item.object item.object refl))
              (λ a on. ⊎_elim inl (λ is. inr (eqb-true a item.object is)) (or_parts (c.gone a) (nat_eq a item.object) on)) stands;
          was = λ a on. ⊎_elim (c.was a) (λ is. let at = eqb-true a item.object is in (r, ap (get table.registrations) at ∙ here, ap skip at ∙ off)) (or_parts (c.gone a) (nat_eq a item.object) on);
          before = λ a s on at. ⊎_elim (λ was. (c.before a s was at).1) (λ is. its a s (eqb-true a item.object is) at) (or_parts (c.gone a) (nat_eq a item.object) on);
          closed = m.closed;
          least = λ a was. m.least a (inl (c.least a was));
          gained = λ o a on leads. ⊎_elim (λ was. m.least a (inl (c.gained o a was leads))) (λ is. m.least a (inr (subst (λ x. Leads clear x a) (eqb-true o item.object is) leads))) (or_parts (c.gone o) (nat_eq o item.object) on);
          most = reached;
          rest = λ a s at un. ⊎_elim (λ was. inl (or_left (c.gone a) (nat_eq a item.object) was)) (by a) (c.rest a s at un);
        }
          where
            by : (a : ℕ) → OneOf (λ (i : Item). i.object ≡ a) (item ∷ left) → (more c.gone item.object a ≡ true) ⊎ OneOf (λ (i : Item). i.object ≡ a) left
            by a (inl at) = inl (or_right (c.gone a) (nat_eq a item.object) (eq-eqb a item.object (sym at)))
            by a (inr k) = inr k

            its : (a : ℕ) (s : Registration) → a ≡ item.object → get table.registrations a ≡ Some s → Each (λ i. place_in offset a s ≤ items.place_of i) left
            its a s is at =
                let one : s ≡ r = same_Some s r (sym at ∙ ap (get table.registrations) is ∙ here) in
                let low : place_in offset a s ≡ items.place_of item = ap (λ (q : Registration). place_in offset a q) one ∙ ap (λ x. place_in offset x r) is ∙ sym place in
                each_as (λ i. items.place_of item ≤ items.place_of i) (λ i. place_in offset a s ≤ items.place_of i) (λ i le. subst (λ n. n ≤ items.place_of i) (sym low) le) left later
