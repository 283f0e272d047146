-- Ephemerons that come and go, and the room of the lists.
use Rattle.std.proofs.Common.{◌≡◌, ◌≢◌, ◌≤◌, ◌+◌, ◌||◌, ◌∙◌, ℕ, true, false, true≢false, Option, Some, None, refl, sym, ap, ⊎_elim, is_some, arith}
use Rattle.std.proofs.lemmas.Bool.{cases_eq}
use Rattle.std.specs.Cmp.{nat_cmp_total}
use Rattle.std.specs.FinMap.{get, insert, len, remove, same_map, nat_cmp-IsAntisymmetric}
use Rattle.fz_model.specs.State.{Map}
use Rattle.fz_model.specs.declared.kinds.LinkKind.{LinkKind}
use Rattle.fz_model.specs.declared.kinds.LinkKind.TheVariants.{Short, Long}
use Rattle.fz_model.proofs.Maps.{get-insert_other, get-remove_other, get-remove_same}
use Rattle.fz_pass.specs.Holds.{Ephemerons}
use Rattle.fz_pass.specs.Keyed.{ephemeron_at, kind_and_key, with_ephemeron, without_ephemeron}
use Rattle.fz_pass.proofs.Keyed.{long_in_place, short_in_place}
use Rattle.fz_finalizers.specs.States.{State}
use Rattle.fz_machine.specs.Going.{HasRoom, HaveRoom, ephemerons_in}
use Rattle.fz_machine.specs.Walks.{Walk}
use Rattle.fz_machine.proofs.DeadWords.{remove_none}
use Rattle.fz_machine.proofs.Rooms.{roomier}

-- ---- the lists have room still

pub have_room : (s : State) (walk : Walk) (e : Ephemerons) → len e.short + len e.long ≤ ephemerons_in s → HaveRoom false s walk → HaveRoom false (record s { ephemerons = e }) walk
have_room s walk e few h =
    let main : HasRoom s walk.room = h.main in
    let keyed = main.keyed in
    let rows : ephemerons_in s ≤ walk.other = h.rows in
    let off = h.off in
    record {
      main = record { registrations = main.registrations; short = main.short; long = main.long; cleanups = main.cleanups; keyed = omega (arith, few, keyed) };
      rows = omega (arith, few, rows);
      off = omega (arith, few, off);
    }

pub have_more : (s : State) (walk more : Walk) → walk.room ≤ more.room → walk.other ≤ more.other → walk.off_room ≤ more.off_room → HaveRoom false s walk → HaveRoom false s more
have_more s walk more room other off_room h =
    let rows : ephemerons_in s ≤ walk.other = h.rows in
    let off = h.off in
    record { main = roomier s walk.room more.room room h.main; rows = omega (arith, rows, other); off = omega (arith, off, off_room) }

-- ---- one comes in place of another

has_some : (a b : Option ℕ) → is_some (kind_and_key a b) ≡ true → (is_some a || is_some b) ≡ true
has_some None None known = known
has_some None (Some key) known = refl
has_some (Some key) b known = refl

pub known_few : (e : Ephemerons) (kind : LinkKind) (word key : ℕ) → is_some (ephemeron_at e word) ≡ true → len (with_ephemeron e kind word key).short + len (with_ephemeron e kind word key).long ≤ len e.short + len e.long
known_few e Short word key known = short_in_place e.short e.long word key (has_some (get e.short word) (get e.long word) known)
known_few e Long word key known = long_in_place e.short e.long word key (has_some (get e.short word) (get e.long word) known)

-- ---- one comes and goes again

no_parts : (a b : Option ℕ) → is_some (kind_and_key a b) ≡ false → (a ≡ None) × (b ≡ None)
no_parts None None none = (refl, refl)
no_parts None (Some key) none = absurd (true≢false none)
no_parts (Some key) b none = absurd (true≢false none)

remove_inserted : (m : Map ℕ) (word key : ℕ) → get m word ≡ None → remove (insert m word key) word ≡ m
remove_inserted m word key none = same_map nat_cmp_total nat_cmp-IsAntisymmetric _ _ (λ a. ⊎_elim (same a) (other a) (cases_eq a word))
  where
    same : (a : ℕ) → a ≡ word → get (remove (insert m word key) word) a ≡ get m a
    same a is = ap (get (remove (insert m word key) word)) is ∙ get-remove_same (insert m word key) word ∙ sym none ∙ ap (get m) (sym is)

    other : (a : ℕ) → a ≢ word → get (remove (insert m word key) word) a ≡ get m a
    other a apart = get-remove_other (insert m word key) word a apart ∙ get-insert_other m word key a apart

remove_twice : (m : Map ℕ) (word : ℕ) → get m word ≡ None → remove (remove m word) word ≡ m
remove_twice m word none = ap (λ (n : Map ℕ). remove n word) (remove_none m word none) ∙ remove_none m word none

gone_again : (e : Ephemerons) (kind : LinkKind) (word key : ℕ) → (get e.short word ≡ None) × (get e.long word ≡ None) → without_ephemeron (with_ephemeron e kind word key) word ≡ e
gone_again e Short word key none = λ i. record { short = remove_inserted e.short word key none.0 i; long = remove_twice e.long word none.1 i }
gone_again e Long word key none = λ i. record { short = remove_twice e.short word none.0 i; long = remove_inserted e.long word key none.1 i }

pub comes_and_goes : (old mid new : State) (kind : LinkKind) (word key : ℕ) → is_some (ephemeron_at old.ephemerons word) ≡ false → mid ≡ record old { ephemerons = with_ephemeron old.ephemerons kind word key }
    → new ≡ record mid { ephemerons = without_ephemeron mid.ephemerons word } → new ≡ old
comes_and_goes old mid new kind word key none comes goes =
    let parts = no_parts (get old.ephemerons.short word) (get old.ephemerons.long word) none in
    goes ∙ (λ i. record (comes i) { ephemerons = without_ephemeron (comes i).ephemerons word }) ∙ (λ i. record old { ephemerons = gone_again old.ephemerons kind word key parts i })
