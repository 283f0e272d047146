use Rattle.std.proofs.Common.{◌≡◌, ◌≤◌, ◌<◌, ◌∙◌, ℕ, Option, None, Some, MatchOption, arith, ap, subst, length, slice_get, IsFalse}
use Rattle.std.proofs.lemmas.List.{length-set}
use Rattle.std.specs.FinSet.{contains, insert, remove}
use Rattle.fz_bits.specs.Flags.{Flagged, Set, IsNext}
use Rattle.fz_finalizers.proofs.Gathered.{all_gathered, is_on, front_next, places_next, rest_next}
use Rattle.fz_finalizers.proofs.Queues.{read_at}
use Rattle.fz_finalizers.proofs.stored.gather.Goals as goal

-- what the look for a next place tells where there is none
none_left : (now : Set) (from : ℕ) (o : Option ℕ) → o ≡ None → MatchOption o ((n : ℕ) → from ≤ n → IsFalse (contains now n)) (λ next. IsNext now from next) → (n : ℕ) → from ≤ n → IsFalse (contains now n)
none_left now from o is = subst (λ o. MatchOption o ((n : ℕ) → from ≤ n → IsFalse (contains now n)) (λ next. IsNext now from next)) is

pub loop-place-preserved : goal.loop-place-preserved
loop-place-preserved c =
    let inv = c.loop-place.invariant in
    let held = c.args.held.now.members in
    let old = c.args.entries.now.items in
    let now = c.loop-place.held.members in
    let items = c.loop-place.entries.items in
    let count = c.loop-place.count in
    let from = c.loop-place.from in
    let place = c.in-Some.place in
    let next : IsNext now from place = c.in-Some.ensures.next in
    let inside : place < length old = c.requires place (is_on held old now items count from inv.low inv.within inv.len inv.places inv.front inv.rest place next) in
    let x = c.index.result.now in
    let len = inv.len in
    let at : slice_get items place ≡ Some x = read_at items place x (omega (arith, inside, len)) c.index.ensures in
    let after = next.after in
    let low = inv.low in
    let members : c.insert.new.self.members ≡ insert (remove now place) count = ap (λ (f : Flagged). f.members) c.insert.ensures.inserted ∙ ap (λ (f : Flagged). insert f.members count) c.remove.ensures.removed in
    record {
      len = length-set items count x ∙ inv.len;
      capacity = inv.capacity;
      size = ap (λ (f : Flagged). f.size) c.insert.ensures.inserted ∙ ap (λ (f : Flagged). f.size) c.remove.ensures.removed ∙ inv.size;
      low = omega (arith, low, after);
      within = omega (arith, inside);
      places = λ n. ap (λ s. contains s n) members ∙ places_next held old now items count from inv.low inv.within inv.len inv.places inv.front inv.rest place next n;
      front = front_next held old now items count from inv.low inv.within inv.len inv.places inv.front inv.rest place next x inside at;
      rest = rest_next held old now items count from inv.low inv.within inv.len inv.places inv.front inv.rest place next x inside at;
    }

pub returns-clause-kept : goal.returns-clause-kept
returns-clause-kept c =
    let inv = c.loop-place.invariant in
    c.truncate.ensures.items
    ∙ all_gathered c.args.held.now.members c.args.entries.now.items c.loop-place.held.members c.loop-place.entries.items c.loop-place.count c.loop-place.from inv.low inv.within inv.len inv.places inv.front inv.rest (none_left c.loop-place.held.members c.loop-place.from c.next.result c.in_default.is c.next.ensures.next)
