-- The model of the links of one kind: the targets by the words of the links, how many more links fit without allocating, and the order of iterators.
-- code: fz_links/src/links.rt, anew.rt
use Rattle.std.specs.Prelude.{ℕ, ◌≤◌, List, refl}
use Rattle.std.specs.Coded.{Coded, code_by, coded×, coded_ℕ, coded_list}
use Rattle.std.specs.FinMap as map
use Rattle.fz_model.specs.State.{Map}
use Rattle.fz_table.specs.declared.limits.TheConstants.{MOST_ENTRIES}

pub record Linked : Type 0 where
  pub links : Map ℕ
  pub room : ℕ
  pub order : List (ℕ × ℕ)  -- the links with their targets, each once

abbrev pub linked_code : Coded Linked
linked_code =
    code_by (Map ℕ × (ℕ × List (ℕ × ℕ))) (coded× (map.code coded_ℕ coded_ℕ) (coded× coded_ℕ (coded_list (coded× coded_ℕ coded_ℕ)))) (λ l. (l.links, (l.room, l.order)))
    (λ p. record { links = p.0; room = p.1.0; order = p.1.1 }) (λ _. refl)

-- there are no more links than a table can have, and the room for new links is free
pub record IsWithin (links : Map ℕ) (room spare : ℕ) : Type 0 where
  pub few : map.len links ≤ MOST_ENTRIES
  pub spared : room ≤ spare
