use Rattle.std.proofs.Common.{◌+◌, ◌-◌, ◌++◌, ◌/◌, List, length, take, drop, None, ℕ, ◌≡◌, ◌≤◌, ◌∙◌, false, ap, sym, subst, nat_cmp, nat_eq, arith}
use Rattle.std.proofs.lemmas.List.{length-drop}
use Rattle.std.proofs.lemmas.Option.{slice_get_within}
use Rattle.std.specs.FinMap.{get, len, remove, from_entries}
use Rattle.std.specs.List.{IsDistinct}
use Rattle.std.specs.Map.{keys_of}
use Rattle.std.specs.Option.{IsSome}
use Rattle.fz_model.specs.State.{Map}
use Rattle.fz_model.proofs.KeyedEntries.{len_made}
use Rattle.fz_table.specs.declared.limits.TheConstants.{MOST_ENTRIES}
use Rattle.fz_table.proofs.Entries.{limit_removed, place_removed}
use Rattle.fz_table.specs.Places.{lacks_place}
use Rattle.fz_links.specs.Linked.{Linked}
use Rattle.fz_links.proofs.Halves.{absent_before, halves_turned}
use Rattle.fz_links.proofs.links.Links.rebuild_without.Goals as goal

few_now : (l now : Linked) → l ≡ now → len l.links ≤ MOST_ENTRIES → len now.links ≤ MOST_ENTRIES
few_now l now is few = subst (λ (l : Linked). len l.links ≤ MOST_ENTRIES) is few

-- the links of both halves, without one
built_anew : (new items base es old : List (ℕ × ℕ)) (m : Map ℕ) (half link : ℕ) → IsDistinct nat_eq (keys_of es) → from_entries {R = nat_cmp} new ≡ remove (from_entries (items ++ base)) link
    → items ≡ drop half es → base ≡ take half es → from_entries {R = nat_cmp} es ≡ from_entries old → from_entries {R = nat_cmp} old ≡ m → from_entries {R = nat_cmp} new ≡ remove m link
built_anew new items base es old m half link once all listed cut same made =
    all ∙ ap (λ xs. remove (from_entries {R = nat_cmp} (xs ++ base)) link) listed ∙ ap (λ xs. remove (from_entries {R = nat_cmp} (drop half es ++ xs)) link) cut
    ∙ ap (λ (m : Map ℕ). remove m link) (halves_turned es half once ∙ same ∙ made)

-- the one is among them
still_known : (items base es old : List (ℕ × ℕ)) (m : Map ℕ) (half link : ℕ) → IsDistinct nat_eq (keys_of es) → items ≡ drop half es → base ≡ take half es → from_entries {R = nat_cmp} es ≡ from_entries old → from_entries {R = nat_cmp} old ≡ m
    → IsSome (get m link) → IsSome (get (from_entries {R = nat_cmp} (items ++ base)) link)
still_known items base es old m half link once listed cut same made known =
    subst (λ (m : Map ℕ). IsSome (get m link))
    (sym (ap (λ xs. from_entries {R = nat_cmp} (xs ++ base)) listed ∙ ap (λ xs. from_entries {R = nat_cmp} (drop half es ++ xs)) cut ∙ halves_turned es half once ∙ same ∙ made)) known

pub list_from-requires-clause-room : goal.list_from-requires-clause-room
list_from-requires-clause-room c =
    let count = len_made c.self.inside.entries.entries c.len-half.ensures.unique in
    let same = ap (λ (l : Linked). len l.links) c.self.view_is in
    let moved = c.put_last.ensures.count in
    let behind = length-drop (c.len-half.result / 2) c.put_last.new.links.entries in
    let room = c.requires.list in
    omega (arith, count, same, moved, behind, room, c.len-half.ensures.len)

pub insert_but-requires-clause-other : goal.insert_but-requires-clause-other
insert_but-requires-clause-other c =
    let es = c.put_last.new.links.entries in
    let half = c.len-half.result / 2 in
    let known = subst (λ (m : Map ℕ). IsSome (get m c.args.link)) (ap (λ (l : Linked). l.links) (sym c.self.view_is)) c.requires.known in
    let at = c.put_last.ensures.last known in
    let moved = c.put_last.ensures.count in
    let some = slice_get_within es (length es - 1) (c.args.link, at.0) at.1 in
    subst (λ xs. get (from_entries {R = nat_cmp} xs) c.args.link ≡ None) (sym c.truncate.ensures.entries)
    (absent_before es half (length es - 1) c.args.link at.0 c.put_last.ensures.unique (omega (arith, moved, some, c.len-half.ensures.len)) at.1)

pub insert_but-requires-clause-room : goal.insert_but-requires-clause-room
insert_but-requires-clause-room c =
    let es = c.put_last.new.links.entries in
    let half = c.len-half.result / 2 in
    let listed = ap (λ (xs : List (ℕ × ℕ)). length xs) c.list_from.ensures.all in
    let behind = length-drop half es in
    let moved = c.put_last.ensures.count in
    let cleared = c.truncate.ensures.capacity (omega (arith, moved, c.len-half.ensures.len)) in
    omega (arith, listed, behind, moved, cleared, c.truncate.ensures.len, c.len-half.ensures.len)

pub invariant_of-self : goal.invariant_of-self
invariant_of-self c = record {
  few = subst (λ m. len m ≤ MOST_ENTRIES)
      (sym (built_anew _ _ _ c.put_last.new.links.entries _ _ (c.len-half.result / 2) c.args.link c.put_last.ensures.unique c.insert_but.ensures.all c.list_from.ensures.all c.truncate.ensures.entries c.put_last.ensures.same (ap (λ (l : Linked). l.links) c.self.view_is)))
      (limit_removed c.args.self.now.links c.args.link (few_now _ _ c.self.view_is c.self.invariant.few));
  spared = c.room_within-self-inside.ensures.within;
}

pub returns-clause-removed : goal.returns-clause-removed
returns-clause-removed c =
    built_anew _ _ _ c.put_last.new.links.entries _ _ (c.len-half.result / 2) c.args.link c.put_last.ensures.unique c.insert_but.ensures.all c.list_from.ensures.all c.truncate.ensures.entries c.put_last.ensures.same (ap (λ (l : Linked). l.links) c.self.view_is)

pub returns-clause-place : goal.returns-clause-place
returns-clause-place c other =
    subst (λ m. lacks_place m other ≡ false) (sym (returns-clause-removed c))
    (place_removed c.args.self.now.links c.args.link other c.requires.known (few_now _ _ c.self.view_is c.self.invariant.few))

pub returns-clause-room : goal.returns-clause-room
returns-clause-room c =
    let es = c.put_last.new.links.entries in
    let half = c.len-half.result / 2 in
    let free = c.insert_but.ensures.room
    (still_known _ _ es _ _ half c.args.link c.put_last.ensures.unique c.list_from.ensures.all c.truncate.ensures.entries c.put_last.ensures.same (ap (λ (l : Linked). l.links) c.self.view_is) c.requires.known) in
    let listed = ap (λ (xs : List (ℕ × ℕ)). length xs) c.list_from.ensures.all in
    let behind = length-drop half es in
    let moved = c.put_last.ensures.count in
    let kept = c.put_last.ensures.room in
    let cleared = c.truncate.ensures.capacity (omega (arith, moved, c.len-half.ensures.len)) in
    let long = c.truncate.ensures.len in
    let spared = c.self.invariant.spared in
    let same = ap (λ (l : Linked). l.room) c.self.view_is in
    let small = c.room_within-self-inside.ensures.small in
    let added : c.saturating_add.result ≡ c.self.inside.room + 1 = omega (arith, c.saturating_add.ensures, free, listed, behind, moved, kept, cleared, long, spared, small, c.len-half.ensures.len) in
    let is = c.room_within-self-inside.ensures.all (omega (arith, added, free, listed, behind, moved, kept, cleared, long, spared, c.len-half.ensures.len)) in
    omega (arith, is, added, same)
