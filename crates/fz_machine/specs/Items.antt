-- The items that phases process: links, ephemerons, registrations and cleanups.
-- code: fz_machine/src/item.rt, listing.rt
use Rattle.std.specs.Prelude.{◌≡◌, ℕ, zero, suc, ◌+◌, ◌*◌, ◌^◌, Bool, true, false, not, ◌&&◌, if◌then◌else◌, List, [], ◌++◌, filter, map, nat_eq, nat_le, Option, None, Some, All, refl}
use Rattle.std.specs.Coded.{Coded, code_by, coded×, coded_ℕ, coded_bool}
use Rattle.std.specs.List.{IsDistinct}
use Rattle.std.specs.List.Sorted.{IsPermutation, IsNonDecreasingBy}
use Rattle.std.specs.Map.{keys_of}
use Rattle.std.specs.FinMap.{from_entries, retain_keys}
use Rattle.std.specs.FinSet.{contains}
use Rattle.std.specs.Option.{option_map_or}
use Rattle.fz_model.specs.declared.answers.Registration.{Registration}
use Rattle.fz_model.specs.State.{Map}
use Rattle.fz_pass.specs.Holds.{Ephemerons}
use Rattle.fz_pass.specs.Keyed.{ephemeron_at}
use Rattle.fz_table.specs.declared.stored.Stored.{Stored}
use Rattle.fz_table.specs.Tabled.{Set, plain}
use Rattle.fz_model.specs.declared.kinds.LinkKind.{LinkKind}
use Rattle.fz_finalizers.specs.declared.cleanups.Attached.{Attached}
use Rattle.fz_finalizers.specs.declared.kinds.Kind.{Kind}
use Rattle.fz_finalizers.specs.declared.kinds.Kind.TheVariants.{Normal, IgnoreSelf, NoOrder, Unreachable}
use Rattle.fz_finalizers.specs.Cleanups.{AreDue, is_when}
use Rattle.fz_finalizers.specs.Kinds.{of_table}
use Rattle.fz_machine.specs.declared.item.Item.{Item}
use Rattle.fz_machine.specs.Regions.{is_marked, is_unmarked}

-- a link, or an ephemeron with its word and its key; and whether what a phase would ask about it is known to be false
abbrev pub of_link : Bool → ℕ × ℕ → Item
of_link known e = record { object = e.1; word = e.0; kind = Normal; turn = 0; known = known }

-- a registration of another kind than `Unreachable`, and one of kind `Unreachable`
abbrev pub of_other : Bool → ℕ × Registration → Item
of_other known e = record { object = e.0; word = 0; kind = of_table false e.1.kind; turn = e.1.rank; known = known }

abbrev pub of_late : Bool → ℕ × Registration → Item
of_late known e = record { object = e.0; word = 0; kind = Unreachable; turn = 256 + e.1.rank; known = known }

-- a registration with its flag
abbrev pub of_stored : Bool → ℕ × Stored → Item
of_stored known e = if e.1.unreachable then of_late known (plain e) else of_other known (plain e)

-- a cleanup, with its number
abbrev pub of_cleanup : Bool → ℕ × Attached → Item
of_cleanup known e = record { object = e.1.object; word = e.0; kind = Normal; turn = e.1.cleanup.rank; known = known }

-- these are the entries of a map, each once
abbrev pub AreEntriesOf : {X : Type 0} → Map X → List (ℕ × X) → Type 0
AreEntriesOf m es = (from_entries es ≡ m) × IsDistinct nat_eq (keys_of es)

-- the target of a link, which is the key of an ephemeron, and its word
abbrev pub target_of : ℕ × ℕ → ℕ
target_of e = e.1

abbrev pub word_of : ℕ × ℕ → ℕ
word_of e = e.0

-- what the sweep about words, or about targets, notes of a link
abbrev pub link_number : Bool → ℕ × ℕ → ℕ
link_number words = if words then word_of else target_of

-- the items are the links whose targets, or words, aren't told marked
abbrev pub AreLinks : (ℕ × ℕ → ℕ) → List (ℕ × ℕ) → Map ℕ → List Item → Type 0
AreLinks number told links items =
    (es : List (ℕ × ℕ)) × AreEntriesOf links es × (items ≡ map (λ e. of_link (is_unmarked told (number e)) e) (filter (λ e. not (is_marked told (number e))) es))

-- the items are the ephemerons of both kinds: the short ones, then the long ones
abbrev pub AreEphemerons : Ephemerons → List Item → Type 0
AreEphemerons ephemerons items = (shorts : List Item) × (longs : List Item) × AreLinks target_of [] ephemerons.short shorts × AreLinks target_of [] ephemerons.long longs × (items ≡ shorts ++ longs)

-- whether a kind is the one that is wanted, if one is
abbrev pub is_wanted : Option LinkKind → LinkKind → Bool
is_wanted None kind = true
is_wanted (Some wanted) kind = is_when wanted kind

-- whether the item still is an ephemeron, of this kind if one is given: it wasn't ended
abbrev pub is_still : Option LinkKind → Ephemerons → Item → Bool
is_still kind ephemerons item = option_map_or (λ (e : LinkKind × ℕ). is_wanted kind e.0 && nat_eq item.object e.1) (ephemeron_at ephemerons item.word) false

-- the items are the registrations from this number on whose objects aren't told marked, each with its flag
abbrev pub AreObjects : ℕ → List (ℕ × ℕ) → Map Registration → Set → List Item → Type 0
AreObjects from told registrations late items =
    (es : List (ℕ × Stored)) × AreEntriesOf registrations (map plain es) × All (λ (e : ℕ × Stored). e.1.unreachable ≡ contains late e.0) es
    × (items ≡ map (λ (e : ℕ × Stored). of_stored (is_unmarked told e.0) e) (filter (λ (e : ℕ × Stored). nat_le from e.1.number && not (is_marked told e.0)) es))

-- the items are the cleanups of this moment from this number on whose objects aren't told marked, in order
abbrev pub AreCleanups : ℕ → List (ℕ × ℕ) → LinkKind → Map Attached → List Item → Type 0
AreCleanups from told when cleanups items =
    (cs : List (ℕ × Attached)) × AreDue (λ (c : Attached). is_when when c.cleanup.when && not (is_marked told c.object)) (retain_keys cleanups (nat_le from)) cs
    × (items ≡ map (λ (e : ℕ × Attached). of_cleanup (is_unmarked told e.1.object) e) cs)

-- a cleanup, with its number, that is of this moment, from this number on, and whose object isn't told marked
abbrev pub is_listed : ℕ → List (ℕ × ℕ) → LinkKind → ℕ × Attached → Bool
is_listed from told when e = nat_le from e.0 && (is_when when e.1.cleanup.when && not (is_marked told e.1.object))

-- an item's sort key: position in queue order, then address
abbrev pub place_of : Item → ℕ
place_of item = item.turn * 2 ^ 64 + item.object

-- the same items, sorted by this key
abbrev pub AreInTurn : List Item → List Item → Type 0
AreInTurn items ordered = IsPermutation items ordered × IsNonDecreasingBy place_of ordered

-- kinds of which the same is asked, when children and when picks are marked, have neighbouring numbers
abbrev pub group_of : Kind → ℕ
group_of Unreachable = 0
group_of Normal = 1
group_of IgnoreSelf = 2
group_of NoOrder = 3

-- the same items, sorted by the groups of their kinds: a question takes items of one or two kinds, and no kinds alternate
abbrev pub AreGrouped : List Item → List Item → Type 0
AreGrouped items grouped = IsPermutation items grouped × IsNonDecreasingBy (λ (item : Item). group_of item.kind) grouped

abbrev kind_code : Coded Kind
kind_code = code_by ℕ coded_ℕ to back same
  where
    to : Kind → ℕ
    to Normal = 0
    to IgnoreSelf = 1
    to NoOrder = 2
    to Unreachable = 3

    back : ℕ → Kind
    back zero = Normal
    back (suc zero) = IgnoreSelf
    back (suc (suc zero)) = NoOrder
    back (suc (suc (suc n))) = Unreachable

    same : (k : Kind) → back (to k) ≡ k
    same Normal = refl
    same IgnoreSelf = refl
    same NoOrder = refl
    same Unreachable = refl

abbrev pub item_code : Coded Item
item_code =
    code_by (ℕ × (ℕ × (Kind × (ℕ × Bool)))) (coded× coded_ℕ (coded× coded_ℕ (coded× kind_code (coded× coded_ℕ coded_bool)))) (λ i. (i.object, (i.word, (i.kind, (i.turn, i.known)))))
    (λ p. record { object = p.0; word = p.1.0; kind = p.1.1.0; turn = p.1.1.1.0; known = p.1.1.1.1 }) (λ _. refl)
