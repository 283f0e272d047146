-- The ephemerons that are put off, since a key or a holder wasn't marked when the marks were made whole.
-- code: fz_machine/src/rows.rt
use Rattle.std.specs.Prelude.{◌≡◌, ℕ, ◌+◌, Bool, true, false, not, nat_eq, if◌then◌else◌, List, [], ◌∷◌, ◌++◌, filter, map, length, refl}
use Rattle.std.specs.Coded.{Coded, code_by, coded×, coded_ℕ, coded_list, coded_bool}
use Rattle.std.specs.List.Sorted.{IsPermutation}
use Rattle.fz_machine.specs.declared.item.Item.{Item}
use Rattle.fz_machine.specs.declared.phase.Phase.{Phase}
use Rattle.fz_machine.specs.declared.phase.Phase.TheVariants.{Keys, KeysAgain, Holders, Values}
use Rattle.fz_machine.specs.declared.rows.Row.{Row}
use Rattle.fz_machine.specs.Items.{item_code}

-- the ephemerons that are put off
pub record PutOff : Type 0 where
  pub index : List Item  -- those whose keys the host can tell
  pub stuck : List Item  -- those that were put off since the index was made
  pub told : List Item  -- those of the index whose keys the host has told
  pub again : Bool  -- whether a value may have been marked since all of them were last looked at

abbrev pub none_off : PutOff
none_off = record { index = []; stuck = []; told = []; again = false }

-- how many they are
abbrev pub count_off : PutOff → ℕ
count_off off = length off.index + length off.stuck + length off.told

-- all of them: those that were told, those of the index, and those that were put off since
abbrev pub all_off : PutOff → List Item
all_off off = off.told ++ (off.index ++ off.stuck)

abbrev pub stuck_with : PutOff → Item → PutOff
stuck_with off item = record off { stuck = off.stuck ++ item ∷ [] }

-- an ephemeron is put off if its key or its holder isn't marked; a value may have been marked if the answer says so
abbrev pub put_off : Phase → Item → Bool → PutOff → PutOff
put_off (Keys moment) item answer off = if answer then off else stuck_with off item
put_off (KeysAgain moment) item answer off = if answer then off else stuck_with off item
put_off (Holders moment) item answer off = if answer then off else stuck_with off item
put_off (Values moment) item answer off = if answer then record off { again = true } else off
put_off phase item answer off = off

-- whether there is another round: keys were told, or a value may have been marked
abbrev pub is_again : Bool → List Item → Bool
is_again again [] = again
is_again again (item ∷ told) = true

abbrev pub looks_again : PutOff → Bool
looks_again off = is_again off.again off.told

-- what the next round looks at: those whose keys were told, if any, and else all
abbrev pub told_or : List Item → List Item → List Item
told_or [] all = all
told_or (item ∷ told) all = item ∷ told

abbrev pub looked_at : PutOff → List Item
looked_at off = told_or off.told (off.stuck ++ off.index)

-- what is put off once that round begins
abbrev pub looking_by : List Item → PutOff → PutOff
looking_by [] off = none_off
looking_by (item ∷ told) off = record off { told = [] }

abbrev pub looking : PutOff → PutOff
looking off = looking_by off.told off

-- if the index is empty, it is made of those that were put off since; in which order doesn't matter
abbrev pub IsIndexed : List Item → PutOff → PutOff → Type 0
IsIndexed [] old new = (new ≡ record old { index = new.index; stuck = [] }) × IsPermutation old.stuck new.index
IsIndexed (item ∷ index) old new = new ≡ old

-- the host has told that this key is marked: those of the index with this key are told
abbrev pub told_of : ℕ → PutOff → PutOff
told_of key off = record off { index = filter (λ (item : Item). not (nat_eq key item.object)) off.index; told = off.told ++ filter (λ (item : Item). nat_eq key item.object) off.index }

abbrev pub TellsOff : ℕ → PutOff → PutOff → Type 0
TellsOff key old new = (indexed : PutOff) × IsIndexed old.index old indexed × (new ≡ told_of key indexed)

abbrev pub off_code : Coded PutOff
off_code =
    code_by ((List Item × List Item) × (List Item × Bool)) (coded× (coded× (coded_list item_code) (coded_list item_code)) (coded× (coded_list item_code) coded_bool)) (λ o. ((o.index, o.stuck), (o.told, o.again)))
    (λ p. record { index = p.0.0; stuck = p.0.1; told = p.1.0; again = p.1.1 }) (λ _. refl)

-- a row of the index of an ephemeron that isn't told yet, and its key
abbrev pub fresh : Item → Row
fresh item = record { item = item; told = false }

abbrev pub key_of : Row → ℕ
key_of row = row.item.object

-- the ephemeron of a row, unless it is told
abbrev pub of_row : Row → List Item
of_row row = if row.told then [] else row.item ∷ []

-- the ephemerons of an index that aren't told
abbrev pub untold : List Row → List Item
untold rows = map (λ (row : Row). row.item) (filter (λ (row : Row). not row.told) rows)

-- a row once this key is told
abbrev pub tell_row : ℕ → Row → Row
tell_row key row = if nat_eq key (key_of row) then record row { told = true } else row

-- the ephemerons that are put off, and how many can be
pub record Rows : Type 0 where
  pub off : PutOff
  pub room : ℕ

abbrev pub rows_code : Coded Rows
rows_code = code_by (PutOff × ℕ) (coded× off_code coded_ℕ) (λ r. (r.off, r.room)) (λ p. record { off = p.0; room = p.1 }) (λ _. refl)
