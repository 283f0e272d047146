-- What the marks of a pass with ephemerons mean.
use Rattle.std.proofs.Common.{◌≡◌, ◌≢◌, ℕ, ◌⊎◌, ◌++◌, not, Bool, true, false, List, [], map, get_or, Option, Some, is_some, refl, sym, ap, ◌∙◌, subst, inl, inr, ⊎_elim, arith, Contains, IsTrue}
use Rattle.std.proofs.lemmas.Bool.{both_ways, and_parts, and_from, not-true}
use Rattle.std.proofs.lemmas.List.{map-append}
use Rattle.std.proofs.lemmas.List.Elements.{All-append, Contains-append_left, Contains-append_right}
use Rattle.std.specs.Option.{option_map_or}
use Rattle.std.specs.FinMap.{get, contains_key, retain_keys}
use Rattle.fz_model.specs.State.{Map, Object}
use Rattle.fz_model.specs.declared.answers.Entry.{Entry}
use Rattle.fz_model.specs.declared.answers.Pick.{Pick}
use Rattle.fz_model.specs.declared.answers.Registration.{Registration}
use Rattle.fz_model.specs.Reachability.{Itself}
use Rattle.fz_model.specs.Pass.{ComesBefore, rank_at, is_dead, is_outside, cleared, without_picks, entries_of}
use Rattle.fz_model.proofs.Lists.{AllPairs-append}
use Rattle.fz_model.proofs.Maps.{filled_back}
use Rattle.fz_table.specs.Tabled.{Content}
use Rattle.fz_pass.specs.Decides.{Parts}
use Rattle.fz_pass.specs.Flagged.{IsUnfound, ComesAfterFlag}
use Rattle.fz_pass.specs.Holds.{Ephemerons, Holds, Member, ByChild, IsOfKey, Settles}
use Rattle.fz_pass.specs.Leading.{AreLeading, is_unreachable}
use Rattle.fz_pass.specs.Marks.{AreRegistered}
use Rattle.fz_pass.specs.Picking.{IsReady, pick_of, without_flags}
use Rattle.fz_pass.specs.Places.{placed, links_held}
use Rattle.fz_pass.specs.Queued.{MarksLed, is_ready}
use Rattle.fz_pass.specs.QueuedWhole.{QueuesWhole}
use Rattle.fz_pass.specs.Whole.{ArePicksThen, DecidesWhole, IsFirst, IsHeldEarly, IsHeldFirst, IsLost, IsLostEarly, IsPickedThen, ephemerons_judged, objects_judged}
use Rattle.fz_pass.proofs.Children.{first_child}
use Rattle.fz_pass.proofs.Filling.{has_filled}
use Rattle.fz_pass.proofs.Holding.{holds_all, holds_leads, within_whole}
use Rattle.fz_pass.proofs.Picked.{all_map, without_append, without_other, flags_append, was_registered}
use Rattle.fz_pass.proofs.Tiers.{unskipped_off, flag_of_round, not_skipped, ready_off, ready_flag, is_ready_now}

module _ (E : Type 0) (place : ℕ → Option ℕ) (value : Map Object → ℕ → Option ℕ) (late : ℕ → Bool) (objects : Map Object) (short long : Map ℕ) (ephemerons : Ephemerons) (found first_led led kept : ℕ → Bool) (table new_table : Content)
    (pass first : ℕ) (queue new_queue : List Entry) where
  abbrev all : Map Registration
  all = table.registrations

  abbrev old : Parts
  old = record { objects = objects; registrations = all; short = short; long = long }

  abbrev begun : Map Object
  begun = cleared (placed place short) found objects

  abbrev clear : Map Object
  clear = objects_judged place value old ephemerons found

  abbrev Of : ℕ → ℕ → Type 0
  Of = IsOfKey (ephemerons_judged place value old ephemerons found)

  abbrev H : (ℕ → Type 0) → ℕ → Type 0
  H = Holds place value clear Of

  abbrev On : (ℕ → Bool) → ℕ → Type 0
  On m a = IsTrue (m a)

  abbrev Firsts : ℕ → Type 0
  Firsts a = IsTrue (found a) ⊎ IsFirst place value old ephemerons found a

  abbrev Early : ℕ → Type 0
  Early a = IsTrue (found a) ⊎ (IsFirst place value old ephemerons found a ⊎ IsLostEarly place value old ephemerons found late a)

  abbrev Lost : ℕ → Type 0
  Lost a = IsTrue (found a) ⊎ IsLost place value old ephemerons found a

  module _ (registered : AreRegistered clear all) (leading : MarksLed E clear found first_led all) (settled : Settles place value clear Of E first_led led)
      (h : QueuesWhole E place value Of late pass first clear led kept table new_table queue new_queue) where
    here_still : (o : ℕ) → contains_key clear o ≡ contains_key objects o
    here_still o = has_filled (is_dead begun (placed place ephemerons.short) found) 0 begun o ∙ has_filled (is_dead objects (placed place short) found) 0 objects o

    same_of : (w k : ℕ) → Of w k → Of w k
    same_of w k is = is

    -- ---- unreachable registered objects

    lost : (o : ℕ) (r : Registration) → get all o ≡ Some r → found o ≡ false → IsUnfound place old found o r
    lost o r here off = record { registered = here; outside = and_from (contains_key objects o) (not (found o)) (sym (here_still o) ∙ registered o r here) (ap not off) }

    not_found : (o : ℕ) (r : Registration) → IsUnfound place old found o r → found o ≡ false
    not_found o r un = not-true (found o) (and_parts (contains_key objects o) (not (found o)) un.outside).1

    listed : (o : ℕ) (r : Registration) → IsUnfound place old found o r → IsTrue (is_unreachable clear all found o)
    listed o r un =
        and_from (contains_key all o) (is_outside clear found o) (ap is_some un.registered)
        (and_from (contains_key clear o) (not (found o)) (registered o r un.registered) (ap not (not_found o r un)))

    off_of : (o : ℕ) → IsTrue (is_unreachable clear all found o) → found o ≡ false
    off_of o on = not-true (found o) (and_parts (contains_key clear o) (not (found o)) (and_parts (contains_key all o) (is_outside clear found o) on).1).1

    unmarked : (before after : ℕ → Bool) → ((a : ℕ) → IsTrue (before a) → IsTrue (after a)) → (a : ℕ) → after a ≡ false → before a ≡ false
    unmarked before after more a off = at (before a) refl
      where
        at : (b : Bool) → before a ≡ b → b ≡ false
        at false is = refl
        at true is = absurd (both_ways (after a) off (more a is))

    to_led : (a : ℕ) → IsTrue (found a) → IsTrue (led a)
    to_led a on = settled.more a (leading.least a (inl on))

    to_between : (a : ℕ) → IsTrue (led a) → IsTrue (h.between a)
    to_between a on = h.settled.more a (h.reached.least a (inl on))

    to_kept : (a : ℕ) → IsTrue (h.between a) → IsTrue (kept a)
    to_kept a on = h.settled_late.more a (h.reached_late.least a (inl on))

    unfound_off : (a : ℕ) → led a ≡ false → found a ≡ false
    unfound_off = unmarked found led to_led

    not_led : (a : ℕ) → h.between a ≡ false → led a ≡ false
    not_led = unmarked led h.between to_between

    -- ---- the table between the rounds

    back : (a : ℕ) (r : Registration) → get h.mid.registrations a ≡ Some r → get all a ≡ Some r
    back a r is = was_registered clear (is_ready false late all led) a table h.mid [] h.picks h.picked r is

    -- the flagged ones are all left
    still : (a : ℕ) → late a ≡ true → get h.mid.registrations a ≡ get all a
    still a on =
        ap (λ (t : Content). get t.registrations a) h.picked.table_is
        ∙ without_other all h.picked.picks a
        (all_map (IsReady clear all (is_ready false late all led)) (λ (p : Pick). p.obj ≢ a) (λ p is same. both_ways (late p.obj) (ready_flag false late led p.obj all is.ready) (ap late same ∙ on)) h.picked.picks h.picked.picked.each)

    -- ---- what first steps hold

    first_marked : (a : ℕ) → IsFirst place value old ephemerons found a → IsTrue (first_led a)
    first_marked a (o, r, un, step) = leading.least a (inr (o, r, un.registered, listed o r un, (a, step, Itself)))

    from_leading : (a : ℕ) → AreLeading clear all (is_unreachable clear all found) a → H Firsts a
    from_leading a (o, r, here, on, (b, step, rest)) = holds_leads place value clear Of Firsts b a (Member (inr (o, r, lost o r here (off_of o on), step))) rest

    held_led : (a : ℕ) → H Firsts a → IsTrue (led a)
    held_led = within_whole place value clear Of led Firsts settled.whole (λ b. ⊎_elim (to_led b) (λ f. settled.more b (first_marked b f)))

    led_held : E → (a : ℕ) → IsTrue (led a) → H Firsts a
    led_held e a on = holds_all place value clear Of Of (On first_led) Firsts same_of (λ b was. ⊎_elim (λ f. Member (inl f)) (from_leading b) (leading.most e b was)) a (settled.most e a on)

    -- ---- what the objects of the first round hold besides

    early_between : (a : ℕ) → IsLostEarly place value old ephemerons found late a → IsTrue (h.between a)
    early_between a ((r, un), flag) = at (led a) refl
      where
        at : (b : Bool) → led a ≡ b → IsTrue (h.between a)
        at true is = to_between a is
        at false is = h.settled.more a (h.reached.least a (inr (a, r, un.registered, not_skipped false late led a flag is, Itself)))

    held_between : (a : ℕ) → H Early a → IsTrue (h.between a)
    held_between = within_whole place value clear Of h.between Early h.settled.whole (λ b. ⊎_elim (λ f. to_between b (to_led b f)) (⊎_elim (λ f. to_between b (settled.more b (first_marked b f))) (early_between b)))

    first_early : (a : ℕ) → H Firsts a → H Early a
    first_early = holds_all place value clear Of Of Firsts Early same_of (λ b. ⊎_elim (λ f. Member (inl f)) (λ f. Member (inr (inl f))))

    between_held : E → (a : ℕ) → IsTrue (h.between a) → H Early a
    between_held e a on = holds_all place value clear Of Of (On h.after) Early same_of
        (λ b was. ⊎_elim (λ on. first_early b (led_held e b on))
        (λ (o, r, here, off, leads). holds_leads place value clear Of Early o b (Member (inr (inr ((r, lost o r here (unfound_off o (unskipped_off false late led o off))), flag_of_round false late led o off)))) leads)
        (h.reached.most e b was)) a (h.settled.most e a on)

    -- ---- what is retained

    lost_kept : (a : ℕ) → IsLost place value old ephemerons found a → IsTrue (kept a)
    lost_kept a (r, un) = by_flag (late a) refl
      where
        by_mark : late a ≡ true → (b : Bool) → h.between a ≡ b → IsTrue (kept a)
        by_mark flag true is = to_kept a is
        by_mark flag false is = h.settled_late.more a (h.reached_late.least a (inr (a, r, still a flag ∙ un.registered, not_skipped true late h.between a flag is, Itself)))

        by_flag : (b : Bool) → late a ≡ b → IsTrue (kept a)
        by_flag false flag = to_kept a (early_between a ((r, un), flag))
        by_flag true flag = by_mark flag (h.between a) refl

    held_kept : (a : ℕ) → H Lost a → IsTrue (kept a)
    held_kept = within_whole place value clear Of kept Lost h.settled_late.whole (λ b. ⊎_elim (λ f. to_kept b (to_between b (to_led b f))) (lost_kept b))

    early_lost : (a : ℕ) → H Early a → H Lost a
    early_lost = holds_all place value clear Of Of Early Lost same_of
        (λ b. ⊎_elim (λ f. Member (inl f)) (⊎_elim (λ (o, r, un, step). ByChild (Member (inr (r, un))) (first_child clear o r.kind b step)) (λ e. Member (inr e.0))))

    kept_held : E → (a : ℕ) → IsTrue (kept a) → H Lost a
    kept_held e a on = holds_all place value clear Of Of (On h.after_late) Lost same_of
        (λ b was. ⊎_elim (λ on. early_lost b (between_held e b on))
        (λ (o, r, here, off, leads). holds_leads place value clear Of Lost o b (Member (inr (r, lost o r (back o r here) (unfound_off o (not_led o (unskipped_off true late h.between o off)))))) leads)
        (h.reached_late.most e b was)) a (h.settled_late.most e a on)

    -- ---- what is picked

    abbrev P1 : Pick → Type 0
    P1 = IsReady clear all (is_ready false late all led)

    abbrev P2 : Pick → Type 0
    P2 = IsReady clear h.mid.registrations (is_ready true late h.mid.registrations h.between)

    early_flag : (x : Pick) → P1 x → late x.obj ≡ false
    early_flag x is = ready_flag false late led x.obj all is.ready

    late_flag : (x : Pick) → P2 x → late x.obj ≡ true
    late_flag x is = ready_flag true late h.between x.obj h.mid.registrations is.ready

    rank_same : (x : Pick) → P2 x → rank_at h.mid.registrations x.obj ≡ rank_at all x.obj
    rank_same x is = ap (λ o. option_map_or (λ (r : Registration). r.rank) o 0) (still x.obj (late_flag x is))

    ready_as : (t : Map Registration) (test : ℕ → Bool) → ((a : ℕ) (r : Registration) → get t a ≡ Some r → get all a ≡ Some r) → (x : Pick) → IsReady clear t test x → led x.obj ≡ false
        → (IsTrue (late x.obj) → IsHeldEarly place value old ephemerons found late x.obj → ⊥) → IsPickedThen place value old ephemerons found late x
    ready_as t test of x is off last =
        let one = filled_back (is_dead begun (placed place ephemerons.short) found) 0 begun x.obj is.object is.here in
        let two = filled_back (is_dead objects (placed place short) found) 0 objects x.obj one.0 one.1 in
        record {
          registration = is.registration;
          object = two.0;
          unreachable = lost x.obj is.registration (of x.obj is.registration is.registered) (unfound_off x.obj off);
          here = two.1;
          is = is.is ∙ ap (λ (o : Object). pick_of is.registration x.obj o) one.2 ∙ ap (λ (o : Object). pick_of is.registration x.obj o) two.2;
          free = λ held. both_ways (led x.obj) off (held_led x.obj held);
          last = last;
        }

    first_ready : (x : Pick) → P1 x → IsPickedThen place value old ephemerons found late x
    first_ready x is = ready_as all _ (λ a r e. e) x is (ready_off false late led x.obj all is.ready) (λ on. absurd (both_ways (late x.obj) (early_flag x is) on))

    second_ready : (x : Pick) → P2 x → IsPickedThen place value old ephemerons found late x
    second_ready x is =
        let off = ready_off true late h.between x.obj h.mid.registrations is.ready in
        ready_as h.mid.registrations _ back x is (not_led x.obj off) (λ on held. both_ways (h.between x.obj) off (held_between x.obj held))

    are_picks : ArePicksThen place value old ephemerons found E late (h.picked.picks ++ h.picked_late.picks)
    are_picks = record {
      ordered = AllPairs-append (ComesAfterFlag late all) h.picked.picks h.picked_late.picks
          (λ i j d lt within. inr (early_flag _ (h.picked.picked.each i d (omega (arith, lt, within))) ∙ sym (early_flag _ (h.picked.picked.each j d within)), h.picked.picked.ordered i j d lt within))
          (λ i j d lt within.
          let x = h.picked_late.picked.each i d (omega (arith, lt, within)) in
          let y = h.picked_late.picked.each j d within in
          inr (late_flag _ x ∙ sym (late_flag _ y), ranked (get_or h.picked_late.picks i d) (get_or h.picked_late.picks j d) x y (h.picked_late.picked.ordered i j d lt within)))
          (λ i j d left right. inl (early_flag _ (h.picked.picked.each i d left), late_flag _ (h.picked_late.picked.each j d right)));
      each = All-append (IsPickedThen place value old ephemerons found late) h.picked.picks h.picked_late.picks
          (all_map P1 (IsPickedThen place value old ephemerons found late) first_ready h.picked.picks h.picked.picked.each)
          (all_map P2 (IsPickedThen place value old ephemerons found late) second_ready h.picked_late.picks h.picked_late.picked.each);
      whole = λ exact o r un none may.
          subst (λ os. Contains os o) (sym (map-append (λ (p : Pick). p.obj) h.picked.picks h.picked_late.picks))
          (by exact o r un none may (late o) refl);
    }
      where
        ranked : (x y : Pick) → P2 x → P2 y → ComesBefore h.mid.registrations x y → ComesBefore all x y
        ranked x y p q = ⊎_elim (λ less. inl (let a = rank_same x p in let b = rank_same y q in omega (arith, less, a, b))) (λ same. inr (sym (rank_same x p) ∙ same.0 ∙ rank_same y q, same.1))

        free : (m : ℕ → Bool) (o : ℕ) → (IsTrue (m o) → ⊥) → m o ≡ false
        free m o none = at (m o) refl
          where
            at : (b : Bool) → m o ≡ b → b ≡ false
            at false is = refl
            at true is = absurd (none is)

        by : E → (o : ℕ) (r : Registration) → IsUnfound place old found o r → (IsHeldFirst place value old ephemerons found o → ⊥) → (IsTrue (late o) → IsHeldEarly place value old ephemerons found late o → ⊥) → (b : Bool) → late o ≡ b
            → Contains (map (λ (p : Pick). p.obj) h.picked.picks ++ map (λ (p : Pick). p.obj) h.picked_late.picks) o
        by exact o r un none may false flag =
            Contains-append_left (map (λ (p : Pick). p.obj) h.picked.picks) (map (λ (p : Pick). p.obj) h.picked_late.picks) o
            (h.picked.picked.whole o (is_ready_now false late led o all r un.registered flag (free led o (λ on. none (led_held exact o on)))))
        by exact o r un none may true flag =
            Contains-append_right (map (λ (p : Pick). p.obj) h.picked.picks) (map (λ (p : Pick). p.obj) h.picked_late.picks) o
            (h.picked_late.picked.whole o (is_ready_now true late h.between o h.mid.registrations r (still o flag ∙ un.registered) flag (free h.between o (λ on. may flag (between_held exact o on)))))

    -- the table without all of them
    left_registrations : new_table.registrations ≡ without_picks all (h.picked.picks ++ h.picked_late.picks)
    left_registrations =
        ap (λ (t : Content). t.registrations) h.picked_late.table_is
        ∙ ap (λ (t : Content). without_picks t.registrations h.picked_late.picks) h.picked.table_is
        ∙ sym (without_append all h.picked.picks h.picked_late.picks)

    left_flags : new_table.late ≡ without_flags table.late (h.picked.picks ++ h.picked_late.picks)
    left_flags =
        ap (λ (t : Content). t.late) h.picked_late.table_is
        ∙ ap (λ (t : Content). without_flags t.late h.picked_late.picks) h.picked.table_is
        ∙ sym (flags_append table.late h.picked.picks h.picked_late.picks)

    abbrev pub left : Parts
    left = record {
      objects = retain_keys (cleared (placed place ephemerons.long) kept (cleared (placed place long) kept clear)) kept;
      registrations = new_table.registrations;
      short = links_held place objects short found kept;
      long = links_held place objects long kept kept;
    }

    abbrev pub left_ephemerons : Ephemerons
    left_ephemerons = record { short = links_held place objects ephemerons.short found kept; long = links_held place objects ephemerons.long kept kept }

    pub decided : (new : Parts) (new_ephemerons : Ephemerons) → new ≡ left → new_ephemerons ≡ left_ephemerons
        → (d : DecidesWhole E place value late pass first old ephemerons found new new_ephemerons queue new_queue) × (new_table.late ≡ without_flags table.late d.picks)
    decided new new_ephemerons is ephemerons_are = (
      record {
        picks = h.picked.picks ++ h.picked_late.picks;
        picked = are_picks;
        queued = h.queued ∙ (λ i. queue ++ entries_of pass first (h.picked.out_is i ++ h.picked_late.out_is i));
        kept = kept;
        keeps = held_kept;
        most = kept_held;
        is = is ∙ (λ i. record left { registrations = left_registrations i });
        left = ephemerons_are;
      },
      left_flags,
    )
