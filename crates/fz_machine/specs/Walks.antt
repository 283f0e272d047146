-- The model of the list that a phase processes, and of the lists beside it.
-- code: fz_machine/src/walk.rt
use Rattle.std.specs.Prelude.{ℕ, List, refl}
use Rattle.std.specs.Coded.{Coded, code_by, coded×, coded_ℕ, coded_list}
use Rattle.fz_machine.specs.declared.item.Item.{Item}
use Rattle.fz_machine.specs.Items.{item_code}
use Rattle.fz_machine.specs.Off.{PutOff, off_code}

pub record Walk : Type 0 where
  pub kept : List Item
  pub left : List Item
  pub aside : List Item  -- what is set aside while the marks are made whole
  pub off : PutOff  -- the ephemerons that are put off
  pub room : ℕ  -- for how many items the list has room
  pub other : ℕ  -- for how many the list has that is set aside, or that ephemerons are listed in
  pub off_room : ℕ  -- how many ephemerons can be put off

abbrev pub walk_code : Coded Walk
walk_code =
    code_by ((List Item × List Item) × ((List Item × PutOff) × (ℕ × (ℕ × ℕ))))
    (coded× (coded× (coded_list item_code) (coded_list item_code)) (coded× (coded× (coded_list item_code) off_code) (coded× coded_ℕ (coded× coded_ℕ coded_ℕ))))
    (λ w. ((w.kept, w.left), ((w.aside, w.off), (w.room, (w.other, w.off_room)))))
    (λ p. record { kept = p.0.0; left = p.0.1; aside = p.1.0.0; off = p.1.0.1; room = p.1.1.0; other = p.1.1.1.0; off_room = p.1.1.1.1 }) (λ _. refl)
