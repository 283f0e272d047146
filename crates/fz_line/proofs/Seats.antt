-- The seats of a new line.
use Rattle.std.proofs.Common.{◌≡◌, ℕ, zero, suc, [], ◌∷◌, length, All, refl, arith, length-append}
use Rattle.std.proofs.lemmas.List.Elements.{All-nil, All-push}
use Rattle.fz_line.specs.States.{Line, SeatState, seat_state, new_seats}

pub length-new_seats : (line : Line) (n : ℕ) → length (new_seats line n) ≡ n
length-new_seats line zero = refl
length-new_seats line (suc n) = let rest = length-new_seats line n in let e = length-append (new_seats line n) (seat_state line n [] 0 0 ∷ []) in let one : length (seat_state line n [] 0 0 ∷ []) ≡ 1 = refl in omega (arith, rest, e, one)

pub new_seats_of_line : (line : Line) (n : ℕ) → All (λ (seat : SeatState). seat.line ≡ line) (new_seats line n)
new_seats_of_line line zero = All-nil (λ (seat : SeatState). seat.line ≡ line)
new_seats_of_line line (suc n) = All-push (λ (seat : SeatState). seat.line ≡ line) (new_seats line n) (seat_state line n [] 0 0) (new_seats_of_line line n) refl
