-- A table all of whose registrations are picked.
use Rattle.std.proofs.Common.{◌≡◌, ◌≢◌, ◌++◌, ℕ, Bool, true, false, not, List, [], map, get_or, Option, None, Some, is_some, inl, inr, ⊎_elim, refl, sym, ap, ◌∙◌, subst, arith, IsTrue, All, AllPairs, Contains, nat_cmp}
use Rattle.std.proofs.lemmas.Bool.{both_ways}
use Rattle.std.proofs.lemmas.List.{map-append}
use Rattle.std.proofs.lemmas.List.Elements.{All-append, Contains-append_left, Contains-append_right}
use Rattle.std.specs.FinSet.{contains}
use Rattle.std.specs.Option.{option_map_or}
use Rattle.std.specs.Cmp.{nat_cmp_total}
use Rattle.std.specs.FinMap.{get, contains_key, empty, get-empty, same_map, nat_cmp-IsAntisymmetric}
use Rattle.fz_model.specs.declared.answers.Pick.{Pick}
use Rattle.fz_model.specs.declared.answers.Registration.{Registration}
use Rattle.fz_model.specs.State.{Map, Object}
use Rattle.fz_model.specs.Pass.{ComesBefore, rank_at, without_picks}
use Rattle.fz_model.proofs.Lists.{AllPairs-append, place_of, map_at}
use Rattle.fz_model.proofs.Maps.{mapped_back}
use Rattle.fz_model.proofs.Sound.{is_some_of, left_back, left_other}
use Rattle.fz_pass.specs.All.{IsQueuedOf, unknown, unknown_objects}
use Rattle.fz_table.specs.Tabled.{Content}
use Rattle.fz_pass.specs.Flagged.{ComesAfterFlag}
use Rattle.fz_pass.specs.Picking.{IsReady, Picks, pick_of, without_flags}
use Rattle.fz_pass.specs.Queued.{is_ready}
use Rattle.fz_pass.proofs.Picked.{all_map, flags_append, was_registered, without_append, without_other}
use Rattle.fz_pass.proofs.Tiers.{flag_left, is_ready_now, ready_flag}

-- a ready one is the pick of its registration, without a birth
pub queued_of : (registrations : Map Registration) (test : ℕ → Bool) (p : Pick) → IsReady (unknown_objects registrations) registrations test p → IsQueuedOf registrations p
queued_of registrations test p is =
    let back = mapped_back (λ _ _. unknown) registrations p.obj is.object is.here in
    (is.registration, is.registered, is.is ∙ ap (λ (o : Object). pick_of is.registration p.obj o) (sym back.2))

-- nothing is left where each registration is picked
pub none_left : (registrations : Map Registration) (picks : List Pick) → ((a : ℕ) → IsTrue (contains_key registrations a) → Contains (map (λ (p : Pick). p.obj) picks) a) → without_picks registrations picks ≡ empty
none_left registrations picks whole = same_map nat_cmp_total nat_cmp-IsAntisymmetric _ _ (λ a. at a (get (without_picks registrations picks) a) refl ∙ sym (get-empty nat_cmp a))
  where
    at : (a : ℕ) (o : Option Registration) → get (without_picks registrations picks) a ≡ o → get (without_picks registrations picks) a ≡ None
    at a None is = is
    at a (Some r) is =
        let place = place_of (map (λ (p : Pick). p.obj) picks) a (whole a (ap is_some (left_back registrations picks a r is))) in
        let pick = map_at (λ (p : Pick). p.obj) picks place.0 a place.1 in
        absurd (left_other registrations picks a r is place.0 pick.0 pick.1 (sym pick.2))

pub all_left : (registrations : Map Registration) (picks : List Pick) → ((a : ℕ) (r : Registration) → get registrations a ≡ Some r → Contains (map (λ (p : Pick). p.obj) picks) a) → without_picks registrations picks ≡ empty
all_left registrations picks whole = none_left registrations picks (λ a here. let r = is_some_of (get registrations a) (ap not here) in whole a r.0 r.1)

-- ---- both rounds of the registrations

pub record AreBoth (table new : Content) (out : List Pick) : Type 0 where
  pub picks : List Pick
  pub out_is : out ≡ picks
  pub ordered : AllPairs (ComesAfterFlag (contains table.late) table.registrations) picks
  pub each : All (IsQueuedOf table.registrations) picks
  pub whole : (a : ℕ) (r : Registration) → get table.registrations a ≡ Some r → Contains (map (λ (p : Pick). p.obj) picks) a
  pub empty : new.registered ≡ record { registrations = empty; next_number = table.next_number }
  pub flags : new.late ≡ without_flags table.late picks

module _ (table mid new : Content) (none between out : List Pick)
    (p : Picks (unknown_objects table.registrations) (is_ready false (contains table.late) table.registrations (λ _. false)) table mid none between)
    (q : Picks (unknown_objects mid.registrations) (is_ready true (contains mid.late) mid.registrations (λ _. false)) mid new between out) (is : none ≡ []) where
  abbrev early : ℕ → Bool
  early = contains table.late

  abbrev P : Pick → Type 0
  P = IsReady (unknown_objects table.registrations) table.registrations (is_ready false early table.registrations (λ _. false))

  abbrev Q : Pick → Type 0
  Q = IsReady (unknown_objects mid.registrations) mid.registrations (is_ready true (contains mid.late) mid.registrations (λ _. false))

  back : (a : ℕ) (r : Registration) → get mid.registrations a ≡ Some r → get table.registrations a ≡ Some r
  back a r here = was_registered (unknown_objects table.registrations) _ a table mid none between p r here

  first_flag : (x : Pick) → P x → early x.obj ≡ false
  first_flag x at = ready_flag false early (λ _. false) x.obj table.registrations at.ready

  second_flag : (x : Pick) → Q x → early x.obj ≡ true
  second_flag x at = sym (flag_left (unknown_objects table.registrations) _ table mid none between p x.obj at.registration at.registered) ∙ ready_flag true (contains mid.late) (λ _. false) x.obj mid.registrations at.ready

  rank_same : (x : Pick) → Q x → rank_at mid.registrations x.obj ≡ rank_at table.registrations x.obj
  rank_same x at = ap (λ o. option_map_or (λ (r : Registration). r.rank) o 0) (at.registered ∙ sym (back x.obj at.registration at.registered))

  ranked : (x y : Pick) → Q x → Q y → ComesBefore mid.registrations x y → ComesBefore table.registrations x y
  ranked x y f g = ⊎_elim (λ less. inl (let a = rank_same x f in let b = rank_same y g in omega (arith, less, a, b))) (λ same. inr (sym (rank_same x f) ∙ same.0 ∙ rank_same y g, same.1))

  queued_back : (x : Pick) → Q x → IsQueuedOf table.registrations x
  queued_back x at = let o = queued_of mid.registrations _ x at in (o.0, back x.obj o.0 o.1, o.2)

  -- what wasn't picked in the first round is still there
  still : (a : ℕ) (r : Registration) → get table.registrations a ≡ Some r → early a ≡ true → get mid.registrations a ≡ Some r
  still a r here on =
      ap (λ (t : Content). get t.registrations a) p.table_is
      ∙ without_other table.registrations p.picks a (all_map P (λ (x : Pick). x.obj ≢ a) (λ x at same. both_ways (early x.obj) (first_flag x at) (ap early same ∙ on)) p.picks p.picked.each) ∙ here

  all_picked : (a : ℕ) (r : Registration) → get table.registrations a ≡ Some r → Contains (map (λ (x : Pick). x.obj) (p.picks ++ q.picks)) a
  all_picked a r here = subst (λ os. Contains os a) (sym (map-append (λ (x : Pick). x.obj) p.picks q.picks)) (by (early a) refl)
    where
      by : (b : Bool) → early a ≡ b → Contains (map (λ (x : Pick). x.obj) p.picks ++ map (λ (x : Pick). x.obj) q.picks) a
      by false off = Contains-append_left (map (λ (x : Pick). x.obj) p.picks) (map (λ (x : Pick). x.obj) q.picks) a (p.picked.whole a (is_ready_now false early (λ _. false) a table.registrations r here off refl))
      by true on =
          let there = still a r here on in
          Contains-append_right (map (λ (x : Pick). x.obj) p.picks) (map (λ (x : Pick). x.obj) q.picks) a
          (q.picked.whole a (is_ready_now true (contains mid.late) (λ _. false) a mid.registrations r there (flag_left (unknown_objects table.registrations) _ table mid none between p a r there ∙ on) refl))

  pub both_rounds : AreBoth table new out
  both_rounds = record {
    picks = p.picks ++ q.picks;
    out_is = q.out_is ∙ ap (λ ps. ps ++ q.picks) (p.out_is ∙ ap (λ ps. ps ++ p.picks) is);
    ordered = AllPairs-append (ComesAfterFlag early table.registrations) p.picks q.picks
        (λ i j d lt within. inr (first_flag _ (p.picked.each i d (omega (arith, lt, within))) ∙ sym (first_flag _ (p.picked.each j d within)), p.picked.ordered i j d lt within))
        (λ i j d lt within.
        let x = q.picked.each i d (omega (arith, lt, within)) in
        let y = q.picked.each j d within in
        inr (second_flag _ x ∙ sym (second_flag _ y), ranked (get_or q.picks i d) (get_or q.picks j d) x y (q.picked.ordered i j d lt within)))
        (λ i j d left right. inl (first_flag _ (p.picked.each i d left), second_flag _ (q.picked.each j d right)));
    each = All-append (IsQueuedOf table.registrations) p.picks q.picks (all_map P (IsQueuedOf table.registrations) (queued_of table.registrations _) p.picks p.picked.each) (all_map Q (IsQueuedOf table.registrations) queued_back q.picks q.picked.each);
    whole = all_picked;
    empty = ap (λ (t : Content). t.registered) q.table_is
        ∙ ap (λ (t : Content). record { registrations = without_picks t.registrations q.picks; next_number = t.next_number }) p.table_is
        ∙ ap (λ m. record { registrations = m; next_number = table.next_number }) (sym (without_append table.registrations p.picks q.picks) ∙ all_left table.registrations (p.picks ++ q.picks) all_picked);
    flags = ap (λ (t : Content). t.late) q.table_is ∙ ap (λ (t : Content). without_flags t.late q.picks) p.table_is ∙ sym (flags_append table.late p.picks q.picks);
  }
