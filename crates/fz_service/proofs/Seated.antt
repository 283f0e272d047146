-- The seats of a service that opens, and when they come back.
use Rattle.std.proofs.Common.{◌≡◌, ℕ, zero, suc, ◌<◌, ◌-◌, ◌==◌, List, [], ◌∷◌, ◌∙◌, refl, ap, arith, get_or, inl, inr, ⊎_elim}
use Rattle.std.proofs.lemmas.Bool.{cases_lt, eq-eqb}
use Rattle.std.proofs.lemmas.List.{get_or_append_left, get_or-append_right}
use Rattle.std.proofs.lemmas.List.Folds.{list_any_at}
use Rattle.std.specs.List.{AllByRecursion}
use Rattle.fz_line.specs.States.{Line, SeatState, seat_state, new_seats}
use Rattle.fz_line.proofs.Seats.{length-new_seats}
use Rattle.fz_line.proofs.Totals.{AllByRecursion-append}
use Rattle.fz_service.specs.States.{IsNewAt}
use Rattle.fz_model.specs.declared.refusal.Refusal.{Refusal}
use Rattle.fz_model.specs.declared.refusal.Refusal.TheVariants.{NoMemory}
use Rattle.fz_service.specs.Ends.{IsEachOnce, IsRefusedEnd}
use Rattle.fz_service.specs.Workers.{ExtendEach}

pub all_new : (line at : Line) (n : ℕ) → line ≡ at → AllByRecursion (IsNewAt at) (new_seats line n)
all_new line at zero same = tt
all_new line at (suc n) same = AllByRecursion-append (IsNewAt at) (new_seats line n) (seat_state line n [] 0 0 ∷ []) (all_new line at n same) ((same, refl), tt)

seat_at : (line : Line) (n i : ℕ) (d : SeatState) → i < n → (get_or (new_seats line n) i d).index ≡ i
seat_at line zero i d h = absurd (omega (arith, h))
seat_at line (suc n) i d h =
    let few = length-new_seats line n in
    let here : SeatState = seat_state line n [] 0 0 in
    elim (cases_lt i n) [
      | inl before ↦ ap (λ (seat : SeatState). seat.index) (get_or_append_left (new_seats line n) (here ∷ []) d i (omega (arith, few, before))) ∙ seat_at line n i d before
      | inr last ↦
          let none : i - n ≡ 0 = omega (arith, h, last) in
          ap (λ (seat : SeatState). seat.index) (get_or-append_right (new_seats line n) (here ∷ []) n i d few last ∙ ap (λ k. get_or (here ∷ []) k d) none) ∙ omega (arith, h, last)
    ]

-- so the service can end with them
pub come_back : (line : Line) (workers : ℕ) (seats : List SeatState) → ExtendEach (new_seats line workers) seats → IsEachOnce workers seats
come_back line workers seats h =
    let few = length-new_seats line workers in
    let same = h.0 in
    let d : SeatState = seat_state line 0 [] 0 0 in (
      same ∙ few,
      λ index within.
          list_any_at (λ (seat : SeatState). seat.index == index) seats index d (omega (arith, few, same, within))
          (eq-eqb _ _ ((h.1 index d (omega (arith, few, within))).index ∙ seat_at line workers index d within)),
    )

-- and an end with them fails only with out of memory
pub lacks_memory : (workers : ℕ) (seats : List SeatState) (refusal : Refusal) → IsEachOnce workers seats → IsRefusedEnd workers seats refusal → refusal ≡ NoMemory
lacks_memory workers seats refusal each refused = ⊎_elim (λ missing. absurd (missing.1 each)) (λ lacks. lacks.0) refused
